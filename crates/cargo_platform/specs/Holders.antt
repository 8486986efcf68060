-- Names for the sets of pairs that user-defined holders represent.
use Rattle.std.specs.Prelude.{ℕ, Bool, List, [], ◌∷◌, Some, None, ◌&&◌, false, bytes_eq, if◌then◌else◌}
use Rattle.std.specs.FinSet.{empty, from_list}
use Rattle.cargo_platform.specs.Trees.{CfgValue, Alone, KeyPair}
use Rattle.cargo_platform.specs.Facts.{Pair, FactSet}

-- the fact that is a name alone, and the fact that is a key with its value
abbrev pub name_fact : List ℕ → Pair
name_fact name = record { name = name; value = None }

abbrev pub pair_fact : List ℕ → List ℕ → Pair
pair_fact key value = record { name = key; value = Some value }

-- the set of no fact, and of one
abbrev pub no_facts : FactSet
no_facts = empty

abbrev pub only : Pair → FactSet
only p = from_list (p ∷ [])

-- the facts if the flag is set, and otherwise none
abbrev pub where_set : Bool → FactSet → FactSet
where_set flag facts = if flag then facts else no_facts

-- whether a value tests for this name alone, or for this key with this value; the raw mark plays no part
abbrev pub asks_name : List ℕ → CfgValue → Bool
asks_name name (Alone n) = bytes_eq n.name name
asks_name name (KeyPair k v) = false

abbrev pub asks_pair : List ℕ → List ℕ → CfgValue → Bool
asks_pair key value (Alone n) = false
asks_pair key value (KeyPair k v) = bytes_eq k.name key && bytes_eq v value
