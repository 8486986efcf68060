use Rattle.std.proofs.Common.{◌∙◌, ap, chars, length, min, arith}
use Rattle.std.proofs.lemmas.List.{length-take}
use Rattle.std.proofs.lemmas.Iterator.{YieldsList-from_chars, YieldsList-from_take}
use Rattle.std.proofs.lemmas.Iterator.Consumers.{YieldsList-at, count_from_yields_List}
use Rattle.cargo_platform.proofs.snippet.size_for.Goals as goal

pub returns-in-Some : goal.returns-in-Some
returns-in-Some c =
    let text = c.args.text.now in
    let all = YieldsList-from_chars text c.utf8.text c.chars.ensures.rest in
    let some = YieldsList-from_take c.in-Some.most (YieldsList-at c.take.ensures.source all) c.take.ensures.count in
    let is = count_from_yields_List _ c.count.result c.count.ensures.ran some
    ∙ length-take c.in-Some.most (chars text) in
    is ∙ ap (λ z. min z (length (chars text))) (omega (arith, c.in-Some.ensures))
