use Rattle.std.proofs.Common.{◌∙◌, sym, ap}
use Rattle.cargo_platform.specs.Trees.{value_of}
use Rattle.cargo_platform.specs.Facts.{pair_of}
use Rattle.manifest_lints.specs.Samples.{holds_beside}
use Rattle.manifest_lints.proofs.Samples.{beside_none}
use Rattle.manifest_lints.proofs.sample_sets.OverSamples.truths_at.Goals as goal

pub returns-in-None : goal.returns-in-None
returns-in-None c = λ l below.
    let p = pair_of (value_of c.args.c.now) in
    c.truths_of.ensures l below ∙ sym (beside_none l p) ∙ sym (ap (λ o. holds_beside o l p) c.in-None.is)

pub returns-in-Some : goal.returns-in-Some
returns-in-Some c = λ l below.
    c.truths_beside.ensures l below
    ∙ sym (ap (λ o. holds_beside o l (pair_of (value_of c.args.c.now))) c.in-Some.is)
