use Rattle.std.proofs.Common.{◌∙◌, ◌<◌, ◌^◌, arith}
use Rattle.cargo_platform.specs.Trees.{tree_of}
use Rattle.manifest_lints.specs.Samples.{truth_by, holds_with, text_of}
use Rattle.manifest_lints.proofs.Samples.{beside_truth}
use Rattle.manifest_lints.proofs.Numbers.{word_is}
use Rattle.manifest_lints.proofs.sample_sets.truths_beside_key.Goals as goal

pub returns : goal.returns
returns c =
    let e = tree_of c.args.e.now in
    let small : c.in_ok-truths.truths < 2 ^ 64 = omega arith in
    word_is (λ l. truth_by (holds_with c.args.key.now (text_of c.args.value) l) e) c.in_ok-truths.truths small
    (λ l low. c.in_ok-truths.ensures l low ∙ beside_truth (record { key = c.args.key; value = c.args.value }) l e)
