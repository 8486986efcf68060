-- The splits on a path, and what is told there.
use Rattle.std.specs.Prelude.{◌≡◌, ℕ, Bool, true, false, not, ◌&&◌, ◌||◌, List, [], ◌∷◌, ◌++◌, map, reverse, refl}
use Rattle.std.specs.Prelude.{Option, Some, None, if◌then◌else◌, IfSome}
use Rattle.std.specs.List.{list_any}
use Rattle.std.specs.FinSet.{contains, from_list}
use Rattle.cargo_platform.specs.Trees.{CfgValue, Alone, KeyPair, value_of}
use Rattle.cargo_platform.specs.Facts.{Pair, FactSet, pair_of}
use Rattle.partial_facts.specs.Partly.{told_by, IsPartlyKnown}
use Rattle.exact_answers.specs.Goals.{IsAsTold}
use Rattle.exact_answers.specs.Possible.{HasOneValue, is_ruled_out}
use Rattle.exact_answers.specs.Asking.{is_pair}
use Rattle.exact_answers.specs.declared.fact_constraints.FactConstraints.{FactConstraints}
use Rattle.exact_answers.specs.declared.path.Split.{Split}
use Rattle.exact_answers.specs.declared.path.Path.{Path}

-- a pair that was open, and whether it is taken as a fact
pub record Turn : Type 0 where
  pub pair : Pair
  pub holds : Bool

-- what is known where no pair is split
pub record Base : Type 0 where
  pub listed : List Pair
  pub complete : List (List ℕ)
  pub single : List (List ℕ)

-- the sets of facts that it allows
pub record IsOver (k : Base) (s : FactSet) : Type 0 where
  pub partly_known : IsPartlyKnown (from_list k.listed) k.complete s
  pub one_value : HasOneValue (from_list k.listed) k.single s

-- some pair that passes the test is taken as a fact, or as none
abbrev pub takes : (Pair → Bool) → List Turn → Bool
takes f ds = list_any (λ d. d.holds && f d.pair) ds

abbrev pub refuses : (Pair → Bool) → List Turn → Bool
refuses f ds = list_any (λ d. not d.holds && f d.pair) ds

-- a fact without its raw mark
abbrev pub unmarked : CfgValue → CfgValue
unmarked (Alone n) = Alone (record { raw = false; name = n.name })
unmarked (KeyPair k v) = KeyPair (record { raw = false; name = k.name }) v

-- the pairs that are taken as facts; the last turn comes first
abbrev pub taken : List Turn → List Pair
taken [] = []
taken (d ∷ ds) = if d.holds then d.pair ∷ taken ds else taken ds

-- the pairs that are taken as none
abbrev pub untaken : List Turn → List Pair
untaken [] = []
untaken (d ∷ ds) = if d.holds then untaken ds else d.pair ∷ untaken ds

abbrev pub facts_on : Base → List Turn → List Pair
facts_on k ds = taken ds ++ k.listed

abbrev pub set_on : Base → List Turn → FactSet
set_on k ds = from_list (facts_on k ds)

-- what is known rules out a pair that is no fact so far
abbrev pub rules_out : Base → List Pair → Pair → Bool
rules_out k facts p = is_ruled_out facts k.complete k.single p

-- a pair that is no fact so far is taken as none, or ruled out
abbrev pub is_refuted : Base → List Turn → Pair → Bool
is_refuted k ds p = refuses (is_pair p) ds || rules_out k (facts_on k ds) p

abbrev pub told_on : Base → List Turn → Pair → Option Bool
told_on k ds p = told_by (contains (set_on k ds) p) (is_refuted k ds p)

-- the splits are so in the set
abbrev pub Agrees : FactSet → List Turn → Type 0
Agrees s [] = Unit {0}
Agrees s (d ∷ ds) = (contains s d.pair ≡ d.holds) × Agrees s ds

as_told_by : (l n : Bool) → IfSome (told_by l n) (λ b. l ≡ b)
as_told_by true n = refl
as_told_by false true = refl
as_told_by false false = tt

pub as_told : (k : Base) (ds : List Turn) → IsAsTold (told_on k ds) (set_on k ds)
as_told k ds p = as_told_by (contains (set_on k ds) p) _

-- each pair was open when it was split
abbrev pub WereOpen : Base → List Turn → Type 0
WereOpen k [] = Unit {0}
WereOpen k (d ∷ ds) = (told_on k ds d.pair ≡ None) × WereOpen k ds

-- back to the last pair that is taken as none, which is then taken as a fact
abbrev pub turned : List Turn → Option (List Turn)
turned [] = None
turned (d ∷ ds) = if d.holds then turned ds else Some (record d { holds = true } ∷ ds)

-- what a value of the program stands for
abbrev pub base_of : FactConstraints → Base
base_of k = record {
  listed = map pair_of (map value_of k.facts.now);
  complete = map (λ t. t.now) k.complete.now;
  single = map (λ t. t.now) k.single.now;
}

abbrev pub turn_of : Split → Turn
turn_of d = record { pair = pair_of (value_of d.fact.now); holds = d.holds }

abbrev pub turns : Path → List Turn
turns p = reverse (map turn_of p.splits.items)

abbrev pub told_by_path : Path → Pair → Option Bool
told_by_path p q = told_on (base_of p.known.now) (turns p) q

-- nothing is split so far, and no split was made
abbrev pub IsFresh : Path → Type 0
IsFresh p = (turns p ≡ []) × (p.made ≡ 0)
