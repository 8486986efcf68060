use Rattle.std.proofs.Common.{◌<◌, ◌^◌, ◌≡◌, length, arith}
use Rattle.cargo_platform.specs.Trees.{tree_of, condition_of}
use Rattle.known_targets.specs.declared.table.TheConstants.{SET_WORDS}
use Rattle.manifest_lints.proofs.Classes.{class_is}
use Rattle.manifest_lints.proofs.earlier.class_of.Goals as goal

pub returns : goal.returns
returns c = λ is.
    let words = c.words-targets.result in
    let truths = c.in_ok-truths.truths in
    let long : length words ≡ SET_WORDS = omega arith in
    let small : truths < 2 ^ 64 = omega arith in
    class_is words truths c.in_ok-matching.field-0 (tree_of c.args.e.now) (condition_of c.args.platform.now) long
    c.words-targets.ensures.small small c.words-targets.ensures.members c.words-targets.ensures.behind
    c.in_ok-matching.ensures is c.in_ok-truths.ensures
