-- What is known of a target where the facts of some names and keys are open, and a truth by what is known.
use Rattle.std.specs.Prelude.{◌≡◌, ℕ, Bool, true, false, IsTrue, List, Option, Some, None, IfSome}
use Rattle.std.specs.BTreeSet.{BTreeSet, contains_by}
use Rattle.std.specs.Borrow.{Bor}
use Rattle.std.specs.FinSet.{contains, insert, remove}
use Rattle.std.proofs.Common.{refl}
use Rattle.cargo_platform.specs.Facts.{Pair, FactSet}
use Rattle.cargo_platform.specs.Key.{text_cmp}
use Rattle.partial_facts.specs.Partly.{is_named}

abbrev pub unless_open : Bool → Bool → Option Bool
unless_open true b = None
unless_open false b = Some b

-- what is told of a pair: nothing where its name or key is open, and elsewhere whether the target has it
abbrev pub open_told : FactSet → List (List ℕ) → Pair → Option Bool
open_told facts open_keys p = unless_open (is_named p.name open_keys) (contains facts p)

-- the set is the target's, but for the facts of open names and keys
abbrev pub IsSameButOpen : FactSet → List (List ℕ) → FactSet → Type 0
IsSameButOpen facts open_keys s = (p : Pair) → is_named p.name open_keys ≡ false → contains s p ≡ contains facts p

-- the set has each of these names, and no other
abbrev pub HasNames : List (List ℕ) → BTreeSet (Bor (List ℕ)) → Type 0
HasNames names set = (name : List ℕ) → contains_by (λ n. text_cmp name n.now) set ≡ is_named name names

-- a truth that may not be known, taken as b where it is not
abbrev pub taken_as : Bool → Option Bool → Bool
taken_as b (Some c) = c
taken_as b None = b

pub open_possible : (facts : FactSet) (open_keys : List (List ℕ)) → IsSameButOpen facts open_keys facts
open_possible facts open_keys p h = refl

sound_by : (o t c : Bool) → (o ≡ false → c ≡ t) → IfSome (unless_open o t) (λ b. c ≡ b)
sound_by true t c h = tt
sound_by false t c h = h refl

pub open_sound : (facts : FactSet) (open_keys : List (List ℕ)) (s : FactSet) (p : Pair)
    → IsSameButOpen facts open_keys s
    → IfSome (open_told facts open_keys p) (λ b. contains s p ≡ b)
open_sound facts open_keys s p is = sound_by (is_named p.name open_keys) (contains facts p) (contains s p) (is p)

-- two sets that are the target's but for open facts: one with the pair, and one without it
pub record IsLeftOpen (facts : FactSet) (open_keys : List (List ℕ)) (p : Pair) : Type 0 where
  pub may_be : IsSameButOpen facts open_keys (insert facts p)
  pub is_in : IsTrue (contains (insert facts p) p)
  pub need_not_be : IsSameButOpen facts open_keys (remove facts p)
  pub is_out : contains (remove facts p) p ≡ false
