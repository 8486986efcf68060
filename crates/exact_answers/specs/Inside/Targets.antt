-- The search for a possible target, name by name.
use Rattle.std.specs.Prelude.{◌≡◌, ℕ, Bool, false, not, List, [], ◌∷◌, Option, Some, None}
use Rattle.std.specs.Prelude.{if◌then◌else◌, bytes_eq}
use Rattle.std.specs.Prelude.{String}
use Rattle.std.specs.declared.alloc.Global.{Global}
use Rattle.cargo_platform.specs.Trees.{Tree, True, False, Condition, Target, Expression, condition_of}
use Rattle.cargo_platform.specs.Facts.{FactSet, truth}
use Rattle.exact_answers.specs.Asking.{NeedsMore}
use Rattle.exact_answers.specs.Answers.{OverEach}
use Rattle.exact_answers.specs.Targets.{IsExample, asked_trees}
use Rattle.exact_answers.specs.Inside.Searches.{SaysFound}
use Rattle.exact_answers.specs.declared.fact_constraints.FactConstraints.{FactConstraints}
use Rattle.exact_answers.specs.declared.search.Found.{Found}
use Rattle.exact_answers.specs.declared.search.Found.TheVariants as found
use Rattle.exact_answers.specs.declared.platforms.Question.{Question}
use Rattle.exact_answers.specs.declared.platforms.FoundTarget.{FoundTarget}
use Rattle.exact_answers.specs.declared.platforms.Satisfiability.{Satisfiability}
use Rattle.exact_answers.specs.declared.platforms.Satisfiability.TheVariants as can
use Rattle.exact_answers.specs.declared.platforms.Validity.{Validity}
use Rattle.exact_answers.specs.declared.platforms.Validity.TheVariants as must
use Rattle.exact_answers.specs.declared.platforms.FoundTarget.TheVariants as one

-- what a condition says of the facts of a target with this name; with None the name is no condition's
abbrev pub tree_under : Option (List ℕ) → Condition → Tree
tree_under (Some name) (Target own) = if bytes_eq own name then True else False
tree_under None (Target own) = False
tree_under name (Expression e) = e

abbrev pub is_name_of : Condition → List ℕ → Bool
is_name_of (Target own) name = bytes_eq own name
is_name_of (Expression e) name = false

-- two conditions, the truths that are wanted of them, and what is known
pub record Wanted : Type 0 where
  pub known : FactConstraints
  pub first : Condition
  pub first_wanted : Bool
  pub second : Condition
  pub second_wanted : Bool

abbrev pub wants : FactConstraints → Condition → Bool → Condition → Bool → Wanted
wants k a v b w = record { known = k; first = a; first_wanted = v; second = b; second_wanted = w }

-- what a value of the program stands for
abbrev pub wanted_of : Question → Wanted
wanted_of q = wants q.known.now (condition_of q.first.now) q.first_wanted (condition_of q.second.now) q.second_wanted

abbrev pub conditions : Wanted → List Condition
conditions w = w.first ∷ w.second ∷ []

abbrev pub MetUnder : Wanted → Option (List ℕ) → FactSet → Type 0
MetUnder w name s =
    (truth s (tree_under name w.first) ≡ w.first_wanted) × (truth s (tree_under name w.second) ≡ w.second_wanted)

abbrev pub MissedUnder : Wanted → Option (List ℕ) → FactSet → Type 0
MissedUnder w name s =
    truth s (tree_under name w.first) ≡ w.first_wanted → truth s (tree_under name w.second) ≡ not w.second_wanted

-- what became of a search for the facts of a target with this name
abbrev pub SaysFoundUnder : Found → Wanted → Option (List ℕ) → ℕ → Type 0
SaysFoundUnder r w name budget =
    SaysFound r w.known (asked_trees (conditions w)) budget (λ s. MetUnder w name s) (λ s. MissedUnder w name s)

-- what is found, with the name by which it was looked for
abbrev pub with_name : Found → Option (String Global) → FoundTarget
with_name (found.Facts facts) name = one.Target (record { name = name; facts = facts })
with_name found.Nothing name = one.Nothing
with_name found.Undecided name = one.Undecided

abbrev pub or_undecided : FoundTarget → FoundTarget
or_undecided (one.Target t) = one.Target t
or_undecided one.Nothing = one.Undecided
or_undecided one.Undecided = one.Undecided

abbrev pub as_can : FoundTarget → Satisfiability
as_can (one.Target t) = can.Yes t
as_can one.Nothing = can.No
as_can one.Undecided = can.Undecided

abbrev pub as_must : FoundTarget → Validity
as_must (one.Target t) = must.No t
as_must one.Nothing = must.Yes
as_must one.Undecided = must.Undecided

-- a target that meets what is wanted, or that none does whose name is in question
abbrev pub SaysTarget : FoundTarget → Wanted → (List ℕ → Type 0) → ℕ → Type 0
SaysTarget (one.Target t) w D budget = IsExample t w.known (conditions w) (λ name s. MetUnder w (Some name) s)
SaysTarget one.Nothing w D budget =
    (name : List ℕ) → D name → OverEach w.known (λ s. MissedUnder w (Some name) s)
SaysTarget one.Undecided w D budget = NeedsMore w.known (asked_trees (conditions w)) budget
