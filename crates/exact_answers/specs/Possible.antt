-- Which sets of facts are possible, by what is known of a target, and which pairs that leaves open.
use Rattle.std.specs.Prelude.{ℕ, Bool, not, ◌||◌, IsTrue, List, map}
use Rattle.std.specs.FinSet.{contains}
use Rattle.cargo_platform.specs.Trees.{Tree, tree_of, value_of}
use Rattle.cargo_platform.specs.Facts.{Pair, FactSet, pair_of, fact_set, truth}
use Rattle.partial_facts.specs.Partly.{IsPartlyKnown}
use Rattle.exact_answers.specs.declared.fact_constraints.FactConstraints.{FactConstraints}
pub use Rattle.partial_facts.specs.OneValued.{is_single, HasOneValue, has_key, has_value, is_ruled_out}

pub record IsPossible (listed : FactSet) (complete single : List (List ℕ)) (assumed : Tree) (s : FactSet) : Type 0 where
  pub partly_known : IsPartlyKnown listed complete s
  pub one_value : HasOneValue listed single s
  pub assumed_true : IsTrue (truth s assumed)

-- the sets that are possible by what a caller says
abbrev pub IsAllowed : FactConstraints → FactSet → Type 0
IsAllowed k s =
    IsPossible (fact_set (map value_of k.facts.now)) (map (λ t. t.now) k.complete.now) (map (λ t. t.now) k.single.now)
    (tree_of k.assumed.now) s

-- a pair that is neither listed nor ruled out
abbrev pub is_open : FactConstraints → Pair → Bool
is_open k p =
    not (contains (fact_set (map value_of k.facts.now)) p
    || is_ruled_out (map pair_of (map value_of k.facts.now)) (map (λ t. t.now) k.complete.now)
    (map (λ t. t.now) k.single.now) p)
