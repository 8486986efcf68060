use Rattle.std.proofs.Common.{◌≡◌, ◌-◌, length}
use Rattle.spdx_expressions.specs.Inside.Reading.{IsReading}
use Rattle.spdx_expressions.proofs.reader.read_parts.Given as goal

abbrev pub invariant-tokens : goal.invariant-tokens
invariant-tokens l = record {
  same : l.reader.text.now ≡ l.text;
  reading : IsReading l.reader;
}

abbrev pub decreases-tokens : goal.decreases-tokens
decreases-tokens l = length l.text - l.reader.place
