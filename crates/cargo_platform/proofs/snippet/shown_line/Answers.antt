use Rattle.std.proofs.Common.{◌∙◌, Ok, chars, rules}
use Rattle.std.proofs.lemmas.Result.{IfOk-weaker}
use Rattle.std.proofs.lemmas.Iterator.{YieldsList-from_chars, YieldsList-from_take, YieldsList-from_map}
use Rattle.std.proofs.lemmas.Iterator.{text_from_collect}
use Rattle.std.proofs.lemmas.Iterator.Adapters.{YieldsList-from_skip}
use Rattle.std.proofs.lemmas.Iterator.Consumers.{YieldsList-at}
use borrow.Author.Tests.{tests}
use Rattle.cargo_platform.specs.Snippets.{shown}
use Rattle.cargo_platform.proofs.Snippets.{same_part}
use Rattle.cargo_platform.proofs.snippet.shown_line.Goals as goal

pub returns : goal.returns
returns c =
    let text = c.args.text.now in
    let all = YieldsList-from_chars text c.utf8.text c.chars.ensures.rest in
    let behind = YieldsList-from_skip c.first_shown-first.result (YieldsList-at c.skip.ensures.source all)
    c.skip.ensures.count in
    let some = YieldsList-from_take c.saturating_sub-length.result (YieldsList-at c.take.ensures.source behind)
    c.take.ensures.count in
    let part = text_from_collect {E = Unit {0}} (Ok c.in_ok-part.part) c.in_ok-part.ensures.ran
    (YieldsList-from_map _ shown (YieldsList-at c.map.ensures.source some) c.map.ensures.closure
    (λ x r q k. search (rules, tests))) in
    IfOk-weaker c.format.result _ _
    (λ s is. is ∙ same_part (chars text) c.args.before c.args.inside c.args.size c.first_shown-first.result
    c.end_shown-end.result c.saturating_sub-length.result _ _ _ c.requires c.first_shown-first.ensures
    c.end_shown-end.ensures c.saturating_sub-length.ensures c.dots-left.ensures c.dots-right.ensures part)
    c.format.ensures.ok
