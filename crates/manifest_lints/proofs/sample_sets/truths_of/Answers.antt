use Rattle.std.proofs.Common.{◌∙◌, ◌*◌, ◌<◌, sym, ap, arith}
use Rattle.cargo_platform.specs.Trees.{value_of}
use Rattle.cargo_platform.specs.Facts.{pair_of}
use Rattle.known_targets.specs.declared.table.TheConstants.{COUNT}
use Rattle.manifest_lints.specs.Samples.{is_set}
use Rattle.manifest_lints.specs.declared.sample_sets.TheConstants.{STRIDE}
use Rattle.manifest_lints.proofs.Samples.{holds_known, holds_mixed}
use Rattle.manifest_lints.proofs.sample_sets.truths_of.Goals as goal

pub returns-in-Some : goal.returns-in-Some
returns-in-Some c = λ l below.
    let within : l * STRIDE < COUNT = omega arith in
    c.sampled.ensures l below ∙ c.in-Some.ensures.members (l * STRIDE) within
    ∙ sym (holds_known l (pair_of (value_of c.args.c.now)) c.in-Some.ensures.some)

pub returns-in-None : goal.returns-in-None
returns-in-None c = λ l below.
    ap (λ w. is_set w l) c.mixed_truths.ensures
    ∙ sym (holds_mixed l (pair_of (value_of c.args.c.now)) c.in-None.ensures.none)
