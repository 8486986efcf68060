-- The truth value of a condition that a decision stands for.
use Rattle.std.specs.Prelude.{◌≡◌, ℕ, Bool, true, false, List, Option, Some, None}
use Rattle.cargo_platform.specs.Trees.{Condition, condition_of}
use Rattle.cargo_platform.specs.Facts.{Pair}
use Rattle.partial_facts.specs.Conditions.{kleene_condition, residual_condition}
use Rattle.manifests.specs.declared.selection.Decision.{Decision}
use Rattle.manifests.specs.declared.selection.Decision.TheVariants.{Selected, LeftOut, Open}

-- selected if the condition is true, left out if it is false, and open if neither is known
abbrev pub decided_truth : Decision → Option Bool
decided_truth Selected = Some true
decided_truth LeftOut = Some false
decided_truth (Open left) = None

-- P holds for the condition that an open decision leaves
abbrev pub IfOpen : Decision → (Condition → Type 0) → Type 0
IfOpen Selected P = Unit {0}
IfOpen LeftOut P = Unit {0}
IfOpen (Open left) P = P (condition_of left)

-- the decision is what follows about a condition for a target with this name and this knowledge; if nothing follows, it
-- has the residual of the condition
pub record IsDecisionBy (name : List ℕ) (told : Pair → Option Bool) (c : Condition) (decision : Decision) : Type 0 where
  pub truth : decided_truth decision ≡ kleene_condition (Some name) told c
  pub left : IfOpen decision (λ rest. rest ≡ residual_condition (Some name) told c)
