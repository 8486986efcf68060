-- The definitions of conditions that are never true, and of those that always are.
use Rattle.std.specs.Prelude.{ℕ, ◌*◌, ◌/◌, max, Bool, true, false, cond, nat_le, List, [], ◌∷◌}
use Rattle.cargo_platform.specs.Trees.{Condition}
use Rattle.cargo_platform.specs.Facts.{FactSet, IsTrueCondition}
use Rattle.exact_answers.specs.declared.fact_constraints.FactConstraints.{FactConstraints}
use Rattle.exact_answers.specs.Possible.{IsAllowed}
use Rattle.exact_answers.specs.Asking.{NeedsMore}
use Rattle.exact_answers.specs.Targets.{ForEach, asked_trees}
use Rattle.manifest_lints.specs.declared.deciding.TheConstants.{MAX_FULLY_SEARCHED_FACTS, SPLITS}
use Rattle.manifest_lints.specs.declared.deciding.Decided.{Decided}
use Rattle.manifest_lints.specs.declared.deciding.Decided.TheVariants as decided

-- it is true for no possible target
abbrev pub IsNever : FactConstraints → Condition → Type 0
IsNever k c = ForEach k (λ name s. IsTrueCondition name s c → ⊥)

-- it is true for each possible target
abbrev pub IsAlways : FactConstraints → Condition → Type 0
IsAlways k c = ForEach k (λ name s. IsTrueCondition name s c)

-- it is true for some possible target, given by a name and a set of facts
abbrev pub CanHold : FactConstraints → Condition → Type 0
CanHold k c = (name : List ℕ) × (s : FactSet) × IsAllowed k s × IsTrueCondition name s c

-- it is false for some possible target
abbrev pub CanFail : FactConstraints → Condition → Type 0
CanFail k c = (name : List ℕ) × (s : FactSet) × IsAllowed k s × (IsTrueCondition name s c → ⊥)

-- it can have this truth value
abbrev pub CanBe : Bool → FactConstraints → Condition → Type 0
CanBe true k c = CanHold k c
CanBe false k c = CanFail k c

-- the meaning of the answers to whether it is never true, and whether it always is
abbrev pub SaysNever : Decided → FactConstraints → Condition → Type 0
SaysNever decided.Yes k c = IsNever k c
SaysNever decided.No k c = CanHold k c
SaysNever decided.Unknown k c = Unit {0}

abbrev pub SaysAlways : Decided → FactConstraints → Condition → Type 0
SaysAlways decided.Yes k c = IsAlways k c
SaysAlways decided.No k c = CanFail k c
SaysAlways decided.Unknown k c = Unit {0}

-- the same for whether it never has this truth value
abbrev pub SaysNeverIs : Bool → Decided → FactConstraints → Condition → Type 0
SaysNeverIs true d k c = SaysNever d k c
SaysNeverIs false d k c = SaysAlways d k c

abbrev pub is_yes : Decided → Bool
is_yes decided.Yes = true
is_yes decided.No = false
is_yes decided.Unknown = false

abbrev pub is_unknown : Decided → Bool
is_unknown decided.Yes = false
is_unknown decided.No = false
is_unknown decided.Unknown = true

-- the maximum number of case splits in a search for a condition of so many names and pairs
abbrev pub budget_of : ℕ → ℕ
budget_of facts = cond (nat_le facts MAX_FULLY_SEARCHED_FACTS) SPLITS (max (SPLITS * 64 / facts) 8)

-- so many case splits are too few for the condition
abbrev pub NeedsMoreFor : FactConstraints → Condition → ℕ → Type 0
NeedsMoreFor k c budget = NeedsMore k (asked_trees (c ∷ [])) budget
