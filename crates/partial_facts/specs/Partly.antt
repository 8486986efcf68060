-- The facts of a target by a list, and the names and keys whose facts are all in that list.
use Rattle.std.specs.Prelude.{◌≡◌, ◌↔◌, ℕ, Bool, true, false, ◌||◌, IsTrue, List, [], ◌∷◌, ◌++◌, Option, Some, None}
use Rattle.std.specs.Prelude.{IfSome, bytes_eq, map}
use Rattle.std.specs.Borrow.{Bor}
use Rattle.std.specs.FinSet.{contains}
use Rattle.std.proofs.Common.{refl, sym, true≢false}
use Rattle.cargo_platform.specs.Trees.{CfgValue}
use Rattle.cargo_platform.specs.Facts.{Pair, FactSet, pair_of, fact_set}
use Rattle.cargo_platform.specs.FactLaws.{HasAllFacts}

-- names and keys, whatever their place in memory
abbrev pub names_of : List (Bor (List ℕ)) → List (List ℕ)
names_of names = map (λ t. t.now) names

abbrev pub is_named : List ℕ → List (List ℕ) → Bool
is_named name [] = false
is_named name (n ∷ ns) = bytes_eq name n || is_named name ns

-- the set has each listed fact, and no other fact of the complete names and keys
pub record IsPartlyKnown (listed : FactSet) (complete : List (List ℕ)) (s : FactSet) : Type 0 where
  pub has : HasAllFacts listed s
  pub no_other : (p : Pair) → IsTrue (is_named p.name complete) → IsTrue (contains s p) → IsTrue (contains listed p)

-- each complete name stays complete
abbrev pub KeepsNames : List (List ℕ) → List (List ℕ) → Type 0
KeepsNames complete more = (n : List ℕ) → IsTrue (is_named n complete) → IsTrue (is_named n more)

-- what follows from whether a pair is listed, and whether its name or key is complete
abbrev pub told_by : Bool → Bool → Option Bool
told_by true n = Some true
told_by false true = Some false
told_by false false = None

abbrev pub partly_told : FactSet → List (List ℕ) → Pair → Option Bool
partly_told listed complete p = told_by (contains listed p) (is_named p.name complete)

pub partly_possible : (listed : FactSet) (complete : List (List ℕ)) → IsPartlyKnown listed complete listed
partly_possible listed complete = record { has = λ p h. h; no_other = λ p n h. h }

pub sound_by : (l n c : Bool) → (l ≡ true → c ≡ true) → (n ≡ true → c ≡ true → l ≡ true)
    → IfSome (told_by l n) (λ b. c ≡ b)
sound_by true n c h k = h refl
sound_by false true true h k = absurd (true≢false (sym (k refl refl)))
sound_by false true false h k = refl
sound_by false false c h k = tt

pub partly_sound : (listed : FactSet) (complete : List (List ℕ)) (s : FactSet) (p : Pair)
    → IsPartlyKnown listed complete s
    → IfSome (partly_told listed complete p) (λ b. contains s p ≡ b)
partly_sound listed complete s p is =
    sound_by (contains listed p) (is_named p.name complete) (contains s p) (is.has p) (is.no_other p)

-- a set is allowed exactly if everything that is decided is true in it
abbrev pub IsAllowedByTold : FactSet → List (List ℕ) → FactSet → Type 0
IsAllowedByTold listed complete s =
    IsPartlyKnown listed complete s ↔ ((p : Pair) → IfSome (partly_told listed complete p) (λ b. contains s p ≡ b))

-- two allowed sets: one with the pair of c, and one without it
pub record IsLeftOpen (cs : List CfgValue) (complete : List (List ℕ)) (c : CfgValue) : Type 0 where
  pub may_be : IsPartlyKnown (fact_set cs) complete (fact_set (cs ++ c ∷ []))
  pub is_in : IsTrue (contains (fact_set (cs ++ c ∷ [])) (pair_of c))
  pub need_not_be : IsPartlyKnown (fact_set cs) complete (fact_set cs)
  pub is_out : contains (fact_set cs) (pair_of c) ≡ false
