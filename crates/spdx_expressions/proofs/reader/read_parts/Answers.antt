use Rattle.std.proofs.Common.{refl, arith, []}
use Rattle.std.proofs.lemmas.Str.{IsCharBoundary-start}
use Rattle.spdx_expressions.specs.Inside.Reading.{start}
use Rattle.spdx_expressions.proofs.reader.read_parts.Goals as goal

pub tokens-init : goal.tokens-init
tokens-init c = record {
  same = refl;
  reading = (
    IsCharBoundary-start c.args.text.now c.utf8.text,
    omega arith,
    start,
    record { before = []; cut = refl; leads = refl },
    rw c.new.ensures.items refl,
  );
}
