use Rattle.std.proofs.Common.{◌≡◌, ◌∙◌, ◌<◌, sym, length, get_or, arith, true}
use Rattle.std.proofs.lemmas.Str.{IsCharBoundary-after_ascii}
use Rattle.spdx_expressions.specs.Tokens.{is_space}
use Rattle.spdx_expressions.proofs.Cutting.{space_step, space_is_ascii}
use Rattle.spdx_expressions.proofs.tokens.spaces_end.Goals as goal

pub spaces-preserved : goal.spaces-preserved
spaces-preserved c =
    let is = c.as_bytes-bytes.ensures.value in
    let text = c.args.text.now in
    let at = c.spaces.at in
    let within : at < length text = rw is at c.spaces-test.true in
    let space : is_space (get_or text at 0) ≡ true = rw is at (sym c.is_space.ensures ∙ c.if-is_space.true) in
    record {
      order = omega (arith, c.spaces.invariant.order);
      boundary = IsCharBoundary-after_ascii text at c.utf8.text within (space_is_ascii _ space);
      same = c.spaces.invariant.same ∙ space_step text at within space;
    }
