-- The facts on a path whose pairs were open are one of the possible sets.
use Rattle.std.proofs.Common.{◌≡◌, ◌∙◌, refl, sym, ap, subst, Bool, true, false, ◌&&◌, ◌||◌, List, [], ◌∷◌}
use Rattle.std.proofs.Common.{◌++◌, ◌⊎◌, None, is_some, inl, inr, true≢false}
use Rattle.std.specs.Prelude.{bytes_eq, if◌then◌else◌}
use Rattle.std.specs.List.{list_any}
use Rattle.std.specs.FinSet.{contains, from_list}
use Rattle.std.proofs.lemmas.Slice.Eq.{bytes_eq-Decides}
use Rattle.cargo_platform.specs.Facts.{Pair, pair_cmp}
use Rattle.partial_facts.specs.Partly.{is_named, told_by}
use Rattle.exact_answers.specs.Possible.{is_single}
use Rattle.exact_answers.specs.Asking.{is_pair}
use Rattle.exact_answers.specs.Possible.{has_key, has_value}
use Rattle.exact_answers.specs.Inside.Paths.{Turn, Base, IsOver, takes, refuses, taken}
use Rattle.exact_answers.specs.Inside.Paths.{facts_on, set_on, told_on, WereOpen}
use Rattle.exact_answers.proofs.Telling.{or_cases, never_both, same, among, finds, on_path, or_true}

neither : (l n : Bool) → told_by l n ≡ None → (l ≡ false) × (n ≡ false)
neither true n h = cc
neither false true h = cc
neither false false h = (refl, refl)

none_first : (a b : Bool) → (a || b) ≡ false → a ≡ false
none_first true b h = absurd (true≢false h)
none_first false b h = refl

none_second : (a b : Bool) → (a || b) ≡ false → b ≡ false
none_second true b h = absurd (true≢false h)
none_second false b h = h

not_so_both : (a b : Bool) → (a && b) ≡ false → a ≡ true → b ≡ true → ⊥
not_so_both true true h f g = true≢false h
not_so_both true false h f g = true≢false (sym g)
not_so_both false b h f g = true≢false (sym f)

and_so : (a b : Bool) → a ≡ true → b ≡ true → (a && b) ≡ true
and_so true b h k = k
and_so false b h k = absurd (true≢false (sym h))

second_true : (a b : Bool) → (a && b) ≡ true → b ≡ true
second_true true b h = h
second_true false b h = absurd (true≢false (sym h))

first_true : (a b : Bool) → (a && b) ≡ true → a ≡ true
first_true true b h = refl
first_true false b h = h

module _ (k : Base) where
  -- an open pair is of no complete name
  open_incomplete : (ds : List Turn) (p : Pair) → told_on k ds p ≡ None → is_named p.name k.complete ≡ false
  open_incomplete ds p h =
      none_first (is_named p.name k.complete) _
      (none_second (refuses (is_pair p) ds) _ ((neither (contains (set_on k ds) p) _ h).1))

  -- nor is it a second value of a key that has one
  open_alone : (ds : List Turn) (p : Pair) → told_on k ds p ≡ None → is_single k.single p ≡ true
      → has_value p.name (facts_on k ds) ≡ true → ⊥
  open_alone ds p h =
      not_so_both (is_single k.single p) (has_value p.name (facts_on k ds))
      (none_second (is_named p.name k.complete) _
      (none_second (refuses (is_pair p) ds) _ ((neither (contains (set_on k ds) p) _ h).1)))

  taken_incomplete : (ds : List Turn) → WereOpen k ds → (p : Pair) → takes (is_pair p) ds ≡ true
      → is_named p.name k.complete ≡ false
  taken_incomplete [] were p h = absurd (true≢false (sym h))
  taken_incomplete (d ∷ ds) were p h =
      or_cases (is_named p.name k.complete ≡ false) (d.holds && is_pair p d.pair) (takes (is_pair p) ds) h
      (λ here. ap (λ (q : Pair). is_named q.name k.complete) (same p d.pair (second_true _ _ here))
      ∙ open_incomplete ds d.pair were.0)
      (λ there. taken_incomplete ds were.1 p there)

  abbrev OneOn : List Pair → Type 0
  OneOn facts = (p q : Pair) → is_single k.single p ≡ true → is_some q.value ≡ true → p.name ≡ q.name
      → list_any (is_pair p) facts ≡ true → list_any (is_pair q) facts ≡ true
      → (p ≡ q) ⊎ ((list_any (is_pair p) k.listed ≡ true) × (list_any (is_pair q) k.listed ≡ true))

  taken_pair : (d : Turn) (ds : List Turn) → d.holds ≡ true → (f : Pair → Bool)
      → list_any f (facts_on k (d ∷ ds)) ≡ (f d.pair || list_any f (facts_on k ds))
  taken_pair d ds h f =
      ap (λ b. list_any f ((if b then d.pair ∷ taken ds else taken ds) ++ k.listed)) h

  skipped_pair : (d : Turn) (ds : List Turn) → d.holds ≡ false → facts_on k (d ∷ ds) ≡ facts_on k ds
  skipped_pair d ds h = ap (λ b. (if b then d.pair ∷ taken ds else taken ds) ++ k.listed) h

  -- a pair of the key of another one is a value of it
  value_of_key : (p q : Pair) → is_some q.value ≡ true → p.name ≡ q.name → has_key p.name q ≡ true
  value_of_key p q some e =
      and_so (is_some q.value) (bytes_eq q.name p.name) some ((bytes_eq-Decides q.name p.name).1 (sym e))

  single_too : (p q : Pair) → is_single k.single p ≡ true → is_some q.value ≡ true → p.name ≡ q.name
      → is_single k.single q ≡ true
  single_too p q single some e =
      and_so (is_named q.name k.single) (is_some q.value)
      (ap (λ n. is_named n k.single) (sym e) ∙ first_true (is_named p.name k.single) (is_some p.value) single) some

  one_more : (d : Turn) (ds : List Turn) → d.holds ≡ true → told_on k ds d.pair ≡ None → OneOn (facts_on k ds)
      → OneOn (facts_on k (d ∷ ds))
  one_more d ds h was_open one p q single some e inside other =
      let older = list_any (is_pair p) (facts_on k ds) in
      let P = (p ≡ q) ⊎ ((list_any (is_pair p) k.listed ≡ true) × (list_any (is_pair q) k.listed ≡ true)) in
      or_cases P (is_pair p d.pair) older (sym (taken_pair d ds h (is_pair p)) ∙ inside)
      (λ p_new. or_cases P (is_pair q d.pair) (list_any (is_pair q) (facts_on k ds))
      (sym (taken_pair d ds h (is_pair q)) ∙ other)
      (λ q_new. inl (same p d.pair p_new ∙ sym (same q d.pair q_new)))
      (λ q_old. absurd (open_alone ds p
      (ap (told_on k ds) (same p d.pair p_new) ∙ was_open) single
      (finds (has_key p.name) (facts_on k ds) q q_old (value_of_key p q some e)))))
      (λ p_old. or_cases P (is_pair q d.pair) (list_any (is_pair q) (facts_on k ds))
      (sym (taken_pair d ds h (is_pair q)) ∙ other)
      (λ q_new. absurd (open_alone ds q
      (ap (told_on k ds) (same q d.pair q_new) ∙ was_open) (single_too p q single some e)
      (finds (has_key q.name) (facts_on k ds) p p_old
      (value_of_key q p (second_true (is_named p.name k.single) (is_some p.value) single) (sym e)))))
      (λ q_old. one p q single some e p_old q_old))

  by_holds : (P : Type 0) (b : Bool) → (b ≡ true → P) → (b ≡ false → P) → P
  by_holds P true f g = f refl
  by_holds P false f g = g refl

  one_on : (ds : List Turn) → WereOpen k ds → OneOn (facts_on k ds)
  one_on [] were = λ p q single some e inside other. inr (inside, other)
  one_on (d ∷ ds) were =
      by_holds (OneOn (facts_on k (d ∷ ds))) d.holds
      (λ h. one_more d ds h were.0 (one_on ds were.1))
      (λ h. subst OneOn (sym (skipped_pair d ds h)) (one_on ds were.1))

  listed_all : (ps : List Pair) (p : Pair) → list_any (is_pair p) ps ≡ true
      → contains (from_list {R = pair_cmp} ps) p ≡ true
  listed_all ps p h = among ps p ∙ h

  pub is_over : (ds : List Turn) → WereOpen k ds → IsOver k (set_on k ds)
  is_over ds were = record {
    partly_known = record {
      has = λ p h. on_path k ds p ∙ or_true (takes (is_pair p) ds) _ h;
      no_other = λ p named inside.
          or_cases (contains (from_list {R = pair_cmp} k.listed) p ≡ true) (takes (is_pair p) ds)
          (contains (from_list {R = pair_cmp} k.listed) p) (sym (on_path k ds p) ∙ inside)
          (λ is. absurd (never_both (is_named p.name k.complete) (taken_incomplete ds were p is) named))
          (λ is. is);
    };
    one_value = λ p q single some e inside other.
        elim (one_on ds were p q single some e (sym (among (facts_on k ds) p) ∙ inside)
        (sym (among (facts_on k ds) q) ∙ other)) [
          | inl is ↦ inl is
          | inr both ↦ inr (listed_all k.listed p both.0, listed_all k.listed q both.1)
        ];
  }
