use Rattle.std.proofs.Common.{refl, sym, arith}
use Rattle.memory_files.proofs.files.bytes_at.Goals as goal

pub returns-then-eq : goal.returns-then-eq
returns-then-eq c = record {
  given =
      (c.files.i, c.index-files-i.result, omega (arith, c.files-test.true), sym c.index-files-i.is, refl);
}
