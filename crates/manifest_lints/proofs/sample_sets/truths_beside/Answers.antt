use Rattle.std.proofs.Common.{rules, ◌≡◌, ◌∙◌, sym, true, false}
use Rattle.cargo_platform.specs.Trees.{value_of}
use Rattle.cargo_platform.specs.Facts.{pair_of}
use Rattle.manifest_lints.specs.Samples.{text_of}
use Rattle.manifest_lints.proofs.Samples.{beside_some, with_others, with_key}
use Rattle.manifest_lints.proofs.sample_sets.truths_beside.Goals as goal

pub returns-then-is_value_of : goal.returns-then-is_value_of
returns-then-is_value_of c = λ l below.
    let so : c.is_value_of.result ≡ true = search rules in
    c.everywhere.ensures l below ∙ c.has_only.ensures
    ∙ sym (beside_some c.args.other l (pair_of (value_of c.args.c.now))
    ∙ with_key c.args.other.key.now (text_of c.args.other.value) l (pair_of (value_of c.args.c.now))
    (sym c.is_value_of.ensures ∙ so))

pub returns : goal.returns
returns c = λ l below.
    let otherwise : c.is_value_of.result ≡ false = search rules in
    c.truths_of.ensures l below
    ∙ sym (beside_some c.args.other l (pair_of (value_of c.args.c.now))
    ∙ with_others c.args.other.key.now (text_of c.args.other.value) l (pair_of (value_of c.args.c.now))
    (sym c.is_value_of.ensures ∙ otherwise))
