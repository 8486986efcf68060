use Rattle.std.proofs.Common.{◌<◌, ◌^◌, arith}
use Rattle.std.proofs.lemmas.Str.{IsCharBoundary-start}
use Rattle.cargo_platform.specs.Reading.{characters_from}
use Rattle.cargo_platform.proofs.Looking.{chars_fit}
use Rattle.cargo_platform.proofs.tokens.Tokenizer.new.Goals as goal

pub invariant_of-result : goal.invariant_of-result
invariant_of-result c =
    let fits : characters_from c.args.text.now 0 < 2 ^ 63 = omega (arith, chars_fit c.args.text.now c.utf8.text) in
    rw c.new.ensures.text (record {
      short = fits;
      reached = IsCharBoundary-start c.args.text.now c.utf8.text;
      sees = tt;
      at_least = λ going. omega (arith, c.new.ensures.looks);
      at_most = λ going. omega (arith, c.new.ensures.looks);
      at_most_ever = omega (arith, c.new.ensures.looks);
    })
