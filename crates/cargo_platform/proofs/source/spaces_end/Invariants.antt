use Rattle.std.proofs.Common.{◌≡◌, ℕ, ◌+◌, ◌-◌, ◌≤◌, ◌<◌, length}
use Rattle.std.specs.Prelude.{slice_index}
use Rattle.std.specs.Str.{IsCharBoundary}
use Rattle.cargo_platform.specs.Reading.{characters_from}
use Rattle.cargo_platform.proofs.source.spaces_end.Given as goal

abbrev pub invariant-spaces : goal.invariant-spaces
invariant-spaces l = record {
  order : l.from ≤ l.at;
  boundary : IsCharBoundary l.text l.at;
  spaces : (i : ℕ) → l.from ≤ i → i < l.at → slice_index l.text i ≡ 0x20;
  characters : characters_from l.text l.from + l.from ≡ characters_from l.text l.at + l.at;
}

abbrev pub decreases-spaces : goal.decreases-spaces
decreases-spaces l = length l.text - l.at
