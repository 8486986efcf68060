use Rattle.std.proofs.Common.{◌≡◌, ℕ, ◌<◌, get_or, cond}
use Rattle.std.specs.Prelude.{◌==◌}
use Rattle.declared_features.proofs.declaring.are_same.Given as goal

abbrev pub invariant-characters : goal.invariant-characters
invariant-characters l =
    (k : ℕ) → k < l.i
    → cond (get_or l.left k 0 == 45) 95 (get_or l.left k 0) ≡ cond (get_or l.right k 0 == 45) 95 (get_or l.right k 0)
