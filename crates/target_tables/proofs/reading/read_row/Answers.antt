use Rattle.std.proofs.Common.{◌≡◌, ap, length, arith, string_bytes}
use Rattle.cargo_platform.specs.Lines.{lines_of}
use Rattle.target_tables.proofs.Growing.{as_many}
use Rattle.target_tables.proofs.reading.read_row.Goals as goal

pub returns-clause-length : goal.returns-clause-length
returns-clause-length c =
    let text : c.as_str.result.now ≡ string_bytes c.in_ok-front.front = cc (c.as_str.ensures.value) in
    omega (
      arith,
      as_many _ _ c.in_ok-facts.ensures.facts,
      ap (λ z. length (lines_of z)) text,
      c.in_ok-front.ensures.length,
    )
