-- Pairs by their numbers, what places say of sets of facts, and members of groups.
use Rattle.std.specs.Prelude.{◌≡◌, ℕ, Bool, true, false, ◌&&◌, ◌||◌, List, [], ◌∷◌, IsTrue}
use Rattle.std.specs.Prelude.{is_some}
use Rattle.std.specs.Borrow.{Bor}
use Rattle.cargo_platform.specs.Trees.{Tree}
use Rattle.cargo_platform.specs.Facts.{Pair, FactSet, truth}
use Rattle.cargo_platform.specs.declared.cfg.Cfg.{Cfg}
use Rattle.partial_facts.specs.OneValued.{is_single}
use Rattle.exact_answers.specs.Diagrams.{value, nodes_of}
use Rattle.exact_answers.specs.declared.goal_diagrams.table.Table.{Table}
use Rattle.exact_answers.specs.Goals.{true_as_wanted, pairs_of, holds_in}

-- what a place says of a set of facts
abbrev pub says : FactSet → List (Bor Cfg) → Table → ℕ → Bool
says s cs t place = value (holds_in s (pairs_of cs)) (nodes_of t) place

-- different values of a key that has one value
pub record AreTwoValues (single : List (List ℕ)) (p q : Pair) : Type 0 where
  pub one_value : IsTrue (is_single single p)
  pub other_value : IsTrue (is_some q.value)
  pub one_name : p.name ≡ q.name
  pub differ : p ≡ q → ⊥

-- the pairs with two numbers are not both facts
abbrev pub AreApart : (ℕ → Bool) → ℕ → ℕ → Type 0
AreApart holds one other = (holds one && holds other) ≡ false

-- ---- members

abbrev pub each_wanted : Bool → FactSet → List Tree → Bool
each_wanted wanted s [] = true
each_wanted wanted s (e ∷ es) = true_as_wanted wanted (truth s e) && each_wanted wanted s es

abbrev pub some_wanted : Bool → FactSet → List Tree → Bool
some_wanted wanted s [] = false
some_wanted wanted s (e ∷ es) = true_as_wanted wanted (truth s e) || some_wanted wanted s es

-- each member has the truth that is wanted, or else one of them
abbrev pub group_wanted : Bool → Bool → FactSet → List Tree → Bool
group_wanted true = each_wanted
group_wanted false = some_wanted
