use Rattle.std.proofs.Common.{ℕ, ◌≢◌, ◌<◌, List, get_or, Bor}
use Rattle.former_names.specs.Rows.{Numbers}
use Rattle.former_names.proofs.rows.find_target.Given as goal

abbrev pub invariant-rows : goal.invariant-rows
invariant-rows l = (k : ℕ) → k < l.row-index
    → (d : Bor (List ℕ) × Numbers × Numbers) → (get_or l.rows k d).0.now ≢ l.name
