use Rattle.std.proofs.Common.{◌∙◌, sym, ap}
use Rattle.known_targets.specs.Groups.{both}
use Rattle.manifest_lints.specs.Samples.{is_set}
use Rattle.manifest_lints.proofs.SetWords.{set_and, set_or}
use Rattle.manifest_lints.proofs.sample_sets.joined.Goals as goal

pub returns-then-neutral : goal.returns-then-neutral
returns-then-neutral c = λ l below.
    set_and c.args.so_far c.args.part l
    ∙ sym (ap (λ n. both n (is_set c.args.so_far l) (is_set c.args.part l)) c.if-neutral.true)

pub returns-else-neutral : goal.returns-else-neutral
returns-else-neutral c = λ l below.
    set_or c.args.so_far c.args.part l
    ∙ sym (ap (λ n. both n (is_set c.args.so_far l) (is_set c.args.part l)) c.if-neutral.false)
