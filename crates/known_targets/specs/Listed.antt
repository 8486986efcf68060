-- The facts of the rows of a table, each once.
use Rattle.std.specs.Prelude.{◌≡◌, ◌<◌, ℕ, zero, suc, Bool, false, ◌||◌, List, [], ◌∷◌, ◌++◌, map}
use Rattle.std.specs.FinSet.{contains}
use Rattle.cargo_platform.specs.Trees.{CfgValue, Alone, KeyPair, value_of}
use Rattle.cargo_platform.specs.Facts.{pair_of, fact_set}
use Rattle.known_targets.specs.Rows.{Values, Keys, plain, facts_in}
use Rattle.known_targets.specs.Sets.{is_member}
use Rattle.known_targets.specs.declared.known_facts.KnownFact.{KnownFact}
use Rattle.known_targets.specs.declared.table.TheConstants.{COUNT}

abbrev pub fact_values : List KnownFact → List CfgValue
fact_values facts = map (λ f. value_of f.fact) facts

-- the targets are those that have the fact, and there are some
pub record IsFactOf (keys : Keys) (f : KnownFact) : Type 0 where
  pub exact : (k : ℕ) → k < COUNT
      → is_member f.targets k ≡ contains (fact_set (facts_in k keys)) (pair_of (value_of f.fact))
  pub some : ((k : ℕ) → k < COUNT → is_member f.targets k ≡ false) → ⊥

-- the values of a key, as pairs
abbrev pub pairs_of : List ℕ → Values → List CfgValue
pairs_of key values = map (λ v. KeyPair (plain key) v.0) values

abbrev pub names_in : Keys → List CfgValue
names_in keys = map (λ key. Alone (plain key.0)) keys

abbrev pub pairs_in : Keys → List CfgValue
pairs_in [] = []
pairs_in (key ∷ keys) = pairs_of key.0 key.2 ++ pairs_in keys

-- what the rows list, whether a target has it or not: the names alone, and after them the pairs
abbrev pub values_in : Keys → List CfgValue
values_in keys = names_in keys ++ pairs_in keys

unfoldable pub some_below : ℕ → (ℕ → Bool) → Bool
some_below zero p = false
some_below (suc n) p = p n || some_below n p

-- whether some target has it
abbrev pub is_had : Keys → CfgValue → Bool
is_had keys c = some_below COUNT (λ k. contains (fact_set (facts_in k keys)) (pair_of c))
