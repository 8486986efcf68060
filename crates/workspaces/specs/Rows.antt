-- What is known, for each number of last pieces, of some items.
use Rattle.std.specs.Prelude.{◌≡◌, ◌+◌, ◌-◌, ◌≤◌, ◌↔◌, ℕ, Bool, false, IsTrue, List, length, drop, get_or}
use Rattle.workspaces.specs.Stretches.{IsMatched}

-- at each place k, whether the last k pieces take the items
pub record IsRow {P T : Type 0} (is_many : P → Bool) (matches : P → T → Type 0) (ps : List P) (xs : List T)
    (row : List Bool) : Type 0 where
  pub long : length row ≡ length ps + 1
  pub each : (k : ℕ) → k ≤ length ps
      → IsTrue (get_or row k false) ↔ IsMatched is_many matches (drop (length ps - k) ps) xs
