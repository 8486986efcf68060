-- What is told on a path holds in each set of facts that is possible there.
use Rattle.std.proofs.Common.{◌≡◌, ◌∙◌, refl, sym, ap, Bool, true, false, not, ◌&&◌, ◌||◌, List, [], ◌∷◌}
use Rattle.std.proofs.Common.{IfSome, inl, inr, true≢false}
use Rattle.std.specs.Prelude.{if◌then◌else◌}
use Rattle.std.specs.List.{list_any}
use Rattle.std.specs.Cmp.{eq_by_cmp_equiv, first_so, second_so}
use Rattle.std.specs.FinSet.{contains, contains-from_list, from_list}
use Rattle.std.proofs.lemmas.List.Folds.{list_any-append}
use Rattle.std.proofs.lemmas.Slice.Eq.{bytes_eq-Decides}
use Rattle.cargo_platform.specs.Facts.{Pair, FactSet, pair_cmp}
use Rattle.cargo_platform.proofs.FactSets.{pairs_total}
use Rattle.partial_facts.specs.Partly.{is_named, told_by}
use Rattle.exact_answers.specs.Goals.{IsAsTold}
pub use Rattle.exact_answers.proofs.Pairs.{same}
use Rattle.exact_answers.specs.Possible.{is_single}
use Rattle.exact_answers.specs.Asking.{is_pair}
use Rattle.exact_answers.specs.Possible.{has_key, has_value}
use Rattle.exact_answers.specs.Inside.Paths.{Turn, Base, IsOver, takes, refuses, taken}
use Rattle.exact_answers.specs.Inside.Paths.{facts_on, set_on, rules_out, is_refuted, told_on, Agrees}

pub or_cases : (P : Type 0) (a b : Bool) → (a || b) ≡ true → (a ≡ true → P) → (b ≡ true → P) → P
or_cases P true b h f g = f refl
or_cases P false b h f g = g h

pub or_true : (a b : Bool) → b ≡ true → (a || b) ≡ true
or_true true b h = refl
or_true false b h = h

pub is_false : (b : Bool) → (b ≡ true → ⊥) → b ≡ false
is_false true h = absurd (h refl)
is_false false h = refl

pub never_both : (b : Bool) → b ≡ false → b ≡ true → ⊥
never_both b f t = true≢false (sym t ∙ f)

-- ---- pairs

pub itself : (p : Pair) → is_pair p p ≡ true
itself p = (eq_by_cmp_equiv pairs_total).refl p

pub among : (ps : List Pair) (p : Pair) → contains (from_list {R = pair_cmp} ps) p ≡ list_any (is_pair p) ps
among ps p = contains-from_list pairs_total ps p

-- a pair of the list passes the test
pub finds : (f : Pair → Bool) (ps : List Pair) (p : Pair) → list_any (is_pair p) ps ≡ true → f p ≡ true
    → list_any f ps ≡ true
finds f [] p h k = absurd (true≢false (sym h))
finds f (q ∷ ps) p h k =
    or_cases (list_any f (q ∷ ps) ≡ true) (is_pair p q) (list_any (is_pair p) ps) h
    (λ here. ap (λ b. b || list_any f ps) (sym (ap f (same p q here)) ∙ k))
    (λ there. or_true (f q) (list_any f ps) (finds f ps p there k))

-- a pair of the list that passes the test
pub found : (f : Pair → Bool) (ps : List Pair) → list_any f ps ≡ true
    → (p : Pair) × (f p ≡ true) × (list_any (is_pair p) ps ≡ true)
found f [] h = absurd (true≢false (sym h))
found f (q ∷ ps) h =
    or_cases ((p : Pair) × (f p ≡ true) × (list_any (is_pair p) (q ∷ ps) ≡ true)) (f q) (list_any f ps) h
    (λ here. (q, here, ap (λ b. b || list_any (is_pair q) ps) (itself q)))
    (λ there. let r = found f ps there in (r.0, r.1, or_true (is_pair r.0 q) (list_any (is_pair r.0) ps) r.2))

-- ---- facts on a path

taken_by : (f : Pair → Bool) (h : Bool) (q : Pair) (qs : List Pair) (b : Bool) → list_any f qs ≡ b
    → list_any f (if h then q ∷ qs else qs) ≡ ((h && f q) || b)
taken_by f true q qs b e = ap (λ x. f q || x) e
taken_by f false q qs b e = e

any_taken : (f : Pair → Bool) (ds : List Turn) → list_any f (taken ds) ≡ takes f ds
any_taken f [] = refl
any_taken f (d ∷ ds) = taken_by f d.holds d.pair (taken ds) (takes f ds) (any_taken f ds)

pub any_on : (f : Pair → Bool) (k : Base) (ds : List Turn)
    → list_any f (facts_on k ds) ≡ (takes f ds || list_any f k.listed)
any_on f k ds = list_any-append f (taken ds) k.listed ∙ ap (λ b. b || list_any f k.listed) (any_taken f ds)

pub on_path : (k : Base) (ds : List Turn) (p : Pair)
    → contains (set_on k ds) p ≡ (takes (is_pair p) ds || contains (from_list {R = pair_cmp} k.listed) p)
on_path k ds p =
    among (facts_on k ds) p ∙ any_on (is_pair p) k ds
    ∙ ap (λ b. takes (is_pair p) ds || b) (sym (among k.listed p))

-- ---- sets that agree with the splits

not_true : (b : Bool) → not b ≡ true → b ≡ false
not_true true h = absurd (true≢false (sym h))
not_true false h = refl

pub taken_in : (s : FactSet) (ds : List Turn) (p : Pair) → Agrees s ds → takes (is_pair p) ds ≡ true
    → contains s p ≡ true
taken_in s [] p agrees h = absurd (true≢false (sym h))
taken_in s (d ∷ ds) p agrees h =
    or_cases (contains s p ≡ true) (d.holds && is_pair p d.pair) (takes (is_pair p) ds) h
    (λ here. ap (contains s) (same p d.pair (second_so _ _ here)) ∙ agrees.0 ∙ first_so _ _ here)
    (λ there. taken_in s ds p agrees.1 there)

pub refused_out : (s : FactSet) (ds : List Turn) (p : Pair) → Agrees s ds → refuses (is_pair p) ds ≡ true
    → contains s p ≡ false
refused_out s [] p agrees h = absurd (true≢false (sym h))
refused_out s (d ∷ ds) p agrees h =
    or_cases (contains s p ≡ false) (not d.holds && is_pair p d.pair) (refuses (is_pair p) ds) h
    (λ here. ap (contains s) (same p d.pair (second_so _ _ here)) ∙ agrees.0 ∙ not_true d.holds (first_so _ _ here))
    (λ there. refused_out s ds p agrees.1 there)

sound_by : (l n c : Bool) → (l ≡ true → c ≡ true) → (n ≡ true → l ≡ false → c ≡ false)
    → IfSome (told_by l n) (λ b. c ≡ b)
sound_by true n c h k = h refl
sound_by false true c h k = k refl refl
sound_by false false c h k = tt

module _ (k : Base) (ds : List Turn) (s : FactSet) (over : IsOver k s) (agrees : Agrees s ds) where
  pub fact_in : (p : Pair) → contains (set_on k ds) p ≡ true → contains s p ≡ true
  fact_in p h =
      or_cases (contains s p ≡ true) (takes (is_pair p) ds) (contains (from_list {R = pair_cmp} k.listed) p)
      (sym (on_path k ds p) ∙ h)
      (λ is. taken_in s ds p agrees is)
      (λ is. over.partly_known.has p is)

  listed_on : (p : Pair) → contains (from_list {R = pair_cmp} k.listed) p ≡ true → contains (set_on k ds) p ≡ true
  listed_on p h = on_path k ds p ∙ or_true (takes (is_pair p) ds) _ h

  complete_out : (p : Pair) → is_named p.name k.complete ≡ true → contains (set_on k ds) p ≡ false
      → contains s p ≡ false
  complete_out p named out =
      is_false (contains s p)
      (λ inside. never_both (contains (set_on k ds) p) out (listed_on p (over.partly_known.no_other p named inside)))

  single_out : (p : Pair) → is_single k.single p ≡ true → has_value p.name (facts_on k ds) ≡ true
      → contains (set_on k ds) p ≡ false → contains s p ≡ false
  single_out p single has out =
      let r = found (has_key p.name) (facts_on k ds) has in
      let q = r.0 in
      let on : contains (set_on k ds) q ≡ true = among (facts_on k ds) q ∙ r.2 in
      let named : q.name ≡ p.name = (bytes_eq-Decides q.name p.name).0 (second_so _ _ r.1) in
      is_false (contains s p)
      (λ inside. elim
      (over.one_value p q single (first_so _ _ r.1) (sym named) inside (fact_in q on)) [
        | inl is ↦ never_both (contains (set_on k ds) p) out (ap (contains (set_on k ds)) is ∙ on)
        | inr both ↦ never_both (contains (set_on k ds) p) out (listed_on p both.0)
      ])

  pub told_sound : IsAsTold (told_on k ds) s
  told_sound p =
      sound_by (contains (set_on k ds) p) (is_refuted k ds p) (contains s p)
      (fact_in p)
      (λ n out. or_cases (contains s p ≡ false) (refuses (is_pair p) ds) (rules_out k (facts_on k ds) p) n
      (λ is. refused_out s ds p agrees is)
      (λ is. or_cases (contains s p ≡ false) (is_named p.name k.complete)
      (is_single k.single p && has_value p.name (facts_on k ds)) is
      (λ named. complete_out p named out)
      (λ both. single_out p (first_so _ _ both) (second_so _ _ both) out)))
