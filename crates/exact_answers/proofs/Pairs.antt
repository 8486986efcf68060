-- Pairs and their numbers.
use Rattle.std.proofs.Common.{◌≡◌, ◌∙◌, refl, sym, ap, subst, ℕ, zero, suc, ◌<◌, length, get_or, arith, true≢false}
use Rattle.std.proofs.Common.{Bool, true, false, not, ◌&&◌, List, [], ◌∷◌, Option, Some, None, IfSome}
use Rattle.std.specs.Borrow.{Bor}
use Rattle.std.specs.Cmp.{Equal-is}
use Rattle.std.specs.Ordering.{eq_by_cmp}
use Rattle.std.specs.FinSet.{contains}
use Rattle.cargo_platform.specs.declared.cfg.Cfg.{Cfg}
use Rattle.cargo_platform.specs.Trees.{value_of}
use Rattle.cargo_platform.specs.Facts.{Pair, FactSet, pair_of, pair_cmp}
use Rattle.cargo_platform.proofs.FactTruths.{pair_tie}
use Rattle.std.specs.Prelude.{bytes_eq}
use Rattle.std.proofs.lemmas.Slice.Eq.{bytes_eq-Decides}
use Rattle.partial_facts.specs.Partly.{is_named}
use Rattle.exact_answers.specs.Goals.{HasOneOpenValue, IsAsTold, StandsAt}
use Rattle.exact_answers.specs.Diagrams.{joint}
use Rattle.exact_answers.specs.Goals.{pairs_of, holds_in}
use Rattle.exact_answers.specs.Inside.Making.{AreTwoValues}
use Rattle.exact_answers.specs.Inside.Making.{AreApart}

pub same : (p q : Pair) → eq_by_cmp pair_cmp p q ≡ true → p ≡ q
same p q h = pair_tie p q ((Equal-is (pair_cmp p q)).0 h)

pub pair_at : (cs : List (Bor Cfg)) (n : ℕ) (c : Bor Cfg) → n < length cs → c ≡ get_or cs n c
    → StandsAt (pairs_of cs) n (pair_of (value_of c.now))
pair_at [] n c short is = absurd (let never : ⊥ = omega (arith, short) in never)
pair_at (d ∷ cs) zero c short is = ap (λ c. pair_of (value_of c.now)) (sym is)
pair_at (d ∷ cs) (suc n) c short is = pair_at cs n c (omega (arith, short)) is

pub number_found : (cs : List (Bor Cfg)) (n : ℕ) (c d : Bor Cfg) → n < length cs → d ≡ get_or cs n d
    → eq_by_cmp pair_cmp (pair_of (value_of c.now)) (pair_of (value_of d.now)) ≡ true
    → StandsAt (pairs_of cs) n (pair_of (value_of c.now))
number_found cs n c d short is h =
    subst (StandsAt (pairs_of cs) n) (sym (same _ _ h)) (pair_at cs n d short is)

pub holds_at : (s : FactSet) (ps : List Pair) (n : ℕ) (p : Pair) → StandsAt ps n p → holds_in s ps n ≡ contains s p
holds_at s [] n p h = absurd h
holds_at s (q ∷ ps) zero p h = ap (contains s) h
holds_at s (q ∷ ps) (suc n) p h = holds_at s ps n p h

-- one of two that are apart is none where the other one is a fact
pub none_beside : (a b : Bool) → (a && b) ≡ false → a ≡ true → not b ≡ true
none_beside true true apart holds = absurd (true≢false apart)
none_beside true false apart holds = refl
none_beside false b apart holds = absurd (true≢false (sym holds))

pub holds_or_not : (a others : Bool) → (a ≡ true → others ≡ true) → joint false others (not a) ≡ true
holds_or_not true others h = ap (λ x. joint false x false) (h refl)
holds_or_not false true h = refl
holds_or_not false false h = refl

-- what is told of a pair
pub told_is : (told : Pair → Option Bool) (s : FactSet) (p : Pair) (t : Bool) → IsAsTold told s → told p ≡ Some t
    → contains s p ≡ t
told_is told s p t is e =
    let so : IfSome (Some t) (λ b. contains s p ≡ b) = subst (λ o. IfSome o (λ b. contains s p ≡ b)) e (is p) in so

some_same : (a b : List ℕ) → Some a ≡ Some b → a ≡ b
some_same a b e = cc

-- two values of a key with one value
apart_by : (a b : Bool) → (a ≡ true → b ≡ true → ⊥) → (a && b) ≡ false
apart_by true true never = absurd (never refl refl)
apart_by true false never = refl
apart_by false b never = refl

not_true : (b : Bool) → not b ≡ true → b ≡ true → ⊥
not_true true h k = true≢false (sym h)
not_true false h k = true≢false (sym k)

pub two_values : (single : List (List ℕ)) (key other_key value other_value : List ℕ) → is_named key single ≡ true
    → bytes_eq key other_key ≡ true → not (bytes_eq value other_value) ≡ true
    → AreTwoValues single (record { name = key; value = Some value })
    (record { name = other_key; value = Some other_value })
two_values single key other_key value other_value named one differ = record {
  one_value = ap (λ b. b && true) named;
  other_value = refl;
  one_name = (bytes_eq-Decides key other_key).0 one;
  differ = λ e. not_true (bytes_eq value other_value) differ
      ((bytes_eq-Decides value other_value).1 (some_same value other_value (ap (λ (p : Pair). p.value) e)));
}

pub values_apart : (told : Pair → Option Bool) (single : List (List ℕ)) (s : FactSet) (ps : List Pair) (one other : ℕ)
    (p q : Pair) → AreTwoValues single p q → told p ≡ None → told q ≡ None → StandsAt ps one p → StandsAt ps other q
    → HasOneOpenValue told single s → AreApart (holds_in s ps) one other
values_apart told single s ps one other p q two no_p no_q at_p at_q has =
    apart_by (holds_in s ps one) (holds_in s ps other)
    (λ a b. two.differ
    (has p q two.one_value two.other_value two.one_name no_p no_q (sym (holds_at s ps one p at_p) ∙ a)
    (sym (holds_at s ps other q at_q) ∙ b)))
