-- How the truth of an expression is found part by part.
use Rattle.std.specs.Prelude.{ℕ, suc, zero, ◌+◌, Bool, true, false, List, [], ◌∷◌, Option, Some, None}
use Rattle.std.specs.Prelude.{if◌then◌else◌}
use Rattle.spdx_expressions.specs.declared.allowed.Walk.{Walk as walked}
use Rattle.spdx_expressions.specs.Trees.{Term, Piece, Named, And, Or, Open, Close}

-- What is known so far, and whether parts are skipped that can't change it: then also the number of brackets that were
-- opened since.
pub record Walk : Type 0 where
  pub value : Bool
  pub passing : Option ℕ

abbrev pub live : Bool → Walk
live v = record { value = v; passing = None }

abbrev pub passes : Bool → ℕ → Walk
passes v d = record { value = v; passing = Some d }

abbrev pub live_step : (Term → Bool) → Bool → Piece → Walk
live_step holds v (Named t) = live (holds t)
live_step holds v Open = live v
live_step holds v Close = live v
live_step holds true And = live true
live_step holds false And = passes false 0
live_step holds true Or = passes true 0
live_step holds false Or = live false

abbrev pub passing_step : Bool → ℕ → Piece → Walk
passing_step v d (Named t) = passes v d
passing_step v d Open = passes v (d + 1)
passing_step v zero Close = live v
passing_step v (suc d) Close = passes v d
passing_step v d And = passes v d
passing_step true d Or = passes true d
passing_step false zero Or = live false
passing_step false (suc d) Or = passes false (suc d)

abbrev pub step_by : (Term → Bool) → Bool → Option ℕ → Piece → Walk
step_by holds v None p = live_step holds v p
step_by holds v (Some d) p = passing_step v d p

abbrev pub step : (Term → Bool) → Walk → Piece → Walk
step holds w p = step_by holds w.value w.passing p

abbrev pub walk : (Term → Bool) → Walk → List Piece → Walk
walk holds w [] = w
walk holds w (p ∷ ps) = walk holds (step holds w p) ps

-- a walk of the program
abbrev pub walk_of : walked → Walk
walk_of w = record { value = w.value; passing = (if w.passing then Some w.depth else None) }
