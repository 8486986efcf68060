use Rattle.std.proofs.Common.{◌≡◌, ◌<◌, ap, length, get_or, arith, true}
use Rattle.std.proofs.lemmas.Str.{IsCharBoundary-after_ascii}
use Rattle.spdx_expressions.specs.Tokens.{is_mark}
use Rattle.spdx_expressions.proofs.Cutting.{mark_is_ascii}
use Rattle.spdx_expressions.proofs.tokens.token_at.Goals as goal

pub returns-clause-boundary : goal.returns-clause-boundary
returns-clause-boundary c =
    let is = c.as_bytes-bytes.ensures.value in
    let text = c.args.text.now in
    let at = c.spaces_end-start.result in
    let within : at < length text = omega (arith, c.spaces_end-start.ensures.within, ap length is) in
    let mark : is_mark (get_or text at 0) ≡ true = rw is at (c.in-Some.ensures.0) in
    IsCharBoundary-after_ascii text at c.utf8.text within (mark_is_ascii _ mark)
