use Rattle.std.proofs.Common.{◌≡◌, get_or, subst, arith}
use Rattle.std.proofs.lemmas.Str.{IsCharBoundary-before_ascii}
use Rattle.cargo_platform.specs.Inside.Looking.{IsCharAt}
use Rattle.cargo_platform.proofs.Looking.{ascii_here, characters_between, boundary_at_quote}
use Rattle.cargo_platform.proofs.source.value_end.Goals as goal

pub returns-clause-quote : goal.returns-clause-quote
returns-clause-quote c = λ below.
    let text = c.args.text.now in
    let at = c.quote_from.result.0 in
    let found = rw c.as_bytes.ensures.value at c.quote_from.ensures in
    let quote : get_or text at 0 ≡ 0x22 = found.quote below in
    subst (IsCharAt text at) quote
    (ascii_here text at c.utf8.text below (omega arith) (IsCharBoundary-before_ascii text at below (omega arith)))

pub returns-clause-between : goal.returns-clause-between
returns-clause-between c =
    let text = c.args.text.now in
    let at = c.quote_from.result.0 in
    let found = rw c.as_bytes.ensures.value at c.quote_from.ensures in
    characters_between text c.args.from at c.utf8.text found.order c.requires
    (boundary_at_quote text at c.utf8.text found.within found.quote)
