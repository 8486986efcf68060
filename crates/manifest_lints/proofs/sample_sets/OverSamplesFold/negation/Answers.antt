use Rattle.std.proofs.Common.{◌∙◌, ◌<◌, ◌^◌, ap, not, arith}
use Rattle.manifest_lints.proofs.SetWords.{set_not}
use Rattle.manifest_lints.proofs.sample_sets.OverSamplesFold.negation.Goals as goal

pub returns : goal.returns
returns c = λ e made l below.
    let small : c.args.part < 2 ^ 64 = omega arith in
    set_not c.args.part l small below ∙ ap not (made l below)
