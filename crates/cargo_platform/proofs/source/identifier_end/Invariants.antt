use Rattle.std.proofs.Common.{◌≡◌, ℕ, ◌+◌, ◌-◌, ◌*◌, ◌≤◌, ◌<◌, length, true}
use Rattle.std.specs.Prelude.{slice_index}
use Rattle.std.specs.Str.{IsCharBoundary}
use Rattle.cargo_platform.specs.Chars.{is_identifier_rest}
use Rattle.cargo_platform.specs.Reading.{characters_from}
use Rattle.cargo_platform.proofs.source.identifier_end.Given as goal

-- all bytes of the blocks before the place that was reached go on with an identifier
abbrev pub invariant-by_block : goal.invariant-by_block
invariant-by_block l = record {
  blocks : (k : ℕ) × (l.at ≡ l.from + 16 * k);
  boundary : IsCharBoundary l.text l.at;
  rest : (i : ℕ) → l.from ≤ i → i < l.at → is_identifier_rest (slice_index l.text i) ≡ true;
  characters : characters_from l.text l.from + l.from ≡ characters_from l.text l.at + l.at;
}

abbrev pub decreases-by_block : goal.decreases-by_block
decreases-by_block l = length l.text - l.at

-- and those of the bytes after the last block
abbrev pub invariant-rest : goal.invariant-rest
invariant-rest l = record {
  blocks : (k : ℕ) × (l.from + 16 * k ≤ l.at) × (length l.text < l.from + 16 * k + 16);
  boundary : IsCharBoundary l.text l.at;
  rest : (i : ℕ) → l.from ≤ i → i < l.at → is_identifier_rest (slice_index l.text i) ≡ true;
  characters : characters_from l.text l.from + l.from ≡ characters_from l.text l.at + l.at;
}

abbrev pub decreases-rest : goal.decreases-rest
decreases-rest l = length l.text - l.at
