-- The facts of the rows, each once, and those that some target has.
use Rattle.std.proofs.Common.{◌≡◌, ◌∙◌, refl, sym, ap, subst, ℕ, zero, suc, ◌+◌, ◌<◌, Bool, true, false, ◌||◌, ◌&&◌}
use Rattle.std.proofs.Common.{List, [], ◌∷◌, ◌++◌, append_assoc, take, length}
use Rattle.std.proofs.Common.{get_or, arith, inl, inr, true≢false, Option, Some, None}
use Rattle.std.specs.Borrow.{Bor}
use Rattle.std.specs.List.{filter}
use Rattle.std.specs.List.Sorted.{IsStrictlySortedBy}
use Rattle.std.proofs.lemmas.List.Kept.{IsStrictlySortedBy-filter}
use Rattle.std.proofs.Math.Bool.{cond}
use Rattle.std.specs.Cmp.{Equal-is}
use Rattle.std.specs.Ordering.{is_eq}
use Rattle.std.specs.FinSet.{contains}
use Rattle.std.proofs.lemmas.Bool.{cases_eq}
use Rattle.std.proofs.lemmas.List.{take_more, map-append, append-nil}
use Rattle.std.proofs.lemmas.List.Elements.{filter-append}
use Rattle.cargo_platform.specs.Trees.{CfgValue, Alone, KeyPair}
use Rattle.cargo_platform.specs.Facts.{Pair, pair_of, pair_cmp, fact_set}
use Rattle.cargo_platform.specs.FactLaws.{HasAllFacts}
use Rattle.cargo_platform.proofs.FactSets.{pairs_total}
use Rattle.cargo_platform.specs.Key.{value_cmp}
use Rattle.cargo_platform.specs.OrderLaws.{value_total}
use Rattle.known_targets.specs.Bits.{has}
use Rattle.known_targets.specs.Rows.{Values, Keys, plain, keys_of, values_of, facts_of_values, facts_in}
use Rattle.known_targets.specs.Table.{table_keys, target_facts, is_rising}
use Rattle.known_targets.specs.Listed.{pairs_of, names_in, pairs_in, values_in, some_below, is_had}
use Rattle.known_targets.specs.declared.target_set.TargetSet.{TargetSet}
use Rattle.known_targets.specs.declared.table.TheConstants.{COUNT}
use Rattle.known_targets.proofs.Rising.{sorted}
use Rattle.known_targets.proofs.Found.{is_asked, asked_in, in_list, asked_append, in_row, asked_with}

or_elim : {R : Type 0} (a b : Bool) → (a || b) ≡ true → (a ≡ true → R) → (b ≡ true → R) → R
or_elim true b h f g = f refl
or_elim false b h f g = g h

or_left : (a b : Bool) → a ≡ true → (a || b) ≡ true
or_left a b h = ap (λ x. x || b) h

or_right : (a b : Bool) → b ≡ true → (a || b) ≡ true
or_right true b h = refl
or_right false b h = h

second_so : (a b : Bool) → (a && b) ≡ true → b ≡ true
second_so true b h = h
second_so false b h = cc

first_not : (a b : Bool) → (a || b) ≡ false → a ≡ false
first_not false b h = refl
first_not true b h = h

second_not : (a b : Bool) → (a || b) ≡ false → b ≡ false
second_not false b h = h
second_not true b h = cc

-- ---- some of the places

pub some_none : (n : ℕ) (p : ℕ → Bool) → some_below n p ≡ false → (k : ℕ) → k < n → p k ≡ false
unfolding some_below
some_none zero p none k below = absurd (omega arith)
some_none (suc n) p none k below = elim (cases_eq k n) [
  | inl same ↦ ap p same ∙ first_not (p n) (some_below n p) none
  | inr other ↦ some_none n p (second_not (p n) (some_below n p) none) k (omega arith)
]

pub none_some : (n : ℕ) (p : ℕ → Bool) → ((k : ℕ) → k < n → p k ≡ false) → some_below n p ≡ false
unfolding some_below
none_some zero p each = refl
none_some (suc n) p each =
    ap (λ b. b || some_below n p) (each n (omega arith)) ∙ none_some n p (λ k below. each k (omega arith))

some_at : (n : ℕ) (p : ℕ → Bool) (k : ℕ) → k < n → p k ≡ true → some_below n p ≡ true
some_at n p k below h = elim (some_below n p) as (λ b. some_below n p ≡ b → b ≡ true) [
  | true ↦ λ e. refl
  | false ↦ λ e. absurd (true≢false (sym h ∙ some_none n p e k below))
] refl

-- ---- what a target has is among what the rows list

among_values : (c : CfgValue) (k : ℕ) (key : List ℕ) (vs : Values) → asked_in c (facts_of_values k key vs) ≡ true
    → asked_in c (pairs_of key vs) ≡ true
among_values c k key [] h = h
among_values c k key (v ∷ vs) h =
    or_elim (has v.1 k && is_asked c (KeyPair (plain key) v.0)) (asked_in c (facts_of_values k key vs))
    (sym (asked_with c (has v.1 k) (KeyPair (plain key) v.0) (facts_of_values k key vs)) ∙ h)
    (λ e. or_left (is_asked c (KeyPair (plain key) v.0)) (asked_in c (pairs_of key vs)) (second_so (has v.1 k) _ e))
    (λ e. or_right (is_asked c (KeyPair (plain key) v.0)) (asked_in c (pairs_of key vs)) (among_values c k key vs e))

module _ (c : CfgValue) (k : ℕ) where
  among_rows : (keys : Keys) → asked_in c (facts_in k keys) ≡ true
      → (asked_in c (names_in keys) || asked_in c (pairs_in keys)) ≡ true
  among_rows [] h = h
  among_rows (key ∷ keys) h =
      let alone = is_asked c (Alone (plain key.0)) in
      let names = asked_in c (names_in keys) in
      let its = asked_in c (pairs_of key.0 key.2) in
      let others = asked_in c (pairs_in keys) in
      let pairs = asked_in c (pairs_in (key ∷ keys)) in
      let split : pairs ≡ (its || others) = asked_append c (pairs_of key.0 key.2) (pairs_in keys) in
      or_elim (has key.1 k && alone) (asked_in c (facts_of_values k key.0 key.2) || asked_in c (facts_in k keys))
      (sym (in_row k c key keys) ∙ h)
      (λ e. or_left (alone || names) pairs (or_left alone names (second_so (has key.1 k) alone e)))
      (λ e.
      or_elim (asked_in c (facts_of_values k key.0 key.2)) (asked_in c (facts_in k keys)) e
      (λ f. or_right (alone || names) pairs (split ∙ or_left its others (among_values c k key.0 key.2 f)))
      (λ f.
      or_elim names others (among_rows keys f) (λ g. or_left (alone || names) pairs (or_right alone names g))
      (λ g. or_right (alone || names) pairs (split ∙ or_right its others g))))

  among : (keys : Keys) → asked_in c (facts_in k keys) ≡ true → asked_in c (values_in keys) ≡ true
  among keys h = asked_append c (names_in keys) (pairs_in keys) ∙ among_rows keys h

-- ---- what some target has is kept

asked_same : (c x : CfgValue) → is_asked c x ≡ true → (ys : List CfgValue) → asked_in c ys ≡ asked_in x ys
asked_same c x same [] = refl
asked_same c x same (y ∷ ys) =
    let tied = (Equal-is (pair_cmp (pair_of c) (pair_of x))).0 same in
    (λ i. is_eq (pairs_total.congr (pair_of c) (pair_of x) (pair_of y) tied i) || asked_same c x same ys i)

had_same : (keys : Keys) (c x : CfgValue) → is_asked c x ≡ true → is_had keys c ≡ is_had keys x
had_same keys c x same =
    let at : (k : ℕ)
    → contains (fact_set (facts_in k keys)) (pair_of c) ≡ contains (fact_set (facts_in k keys)) (pair_of x) =
    λ k. in_list c (facts_in k keys) ∙ asked_same c x same (facts_in k keys) ∙ sym (in_list x (facts_in k keys)) in
    (λ i. some_below COUNT (λ k. at k i))

no_more : (a r : Bool) → (a ≡ true → false ≡ true) → r ≡ (a || r)
no_more true r h = absurd (true≢false (sym (h refl)))
no_more false r h = refl

one_kept : (b : Bool) (c x : CfgValue) (xs : List CfgValue) → (is_asked c x ≡ true → b ≡ true)
    → asked_in c (cond b (x ∷ xs) xs) ≡ (is_asked c x || asked_in c xs)
one_kept true c x xs h = refl
one_kept false c x xs h = no_more (is_asked c x) (asked_in c xs) h

kept : (keys : Keys) (c : CfgValue) → is_had keys c ≡ true → (xs : List CfgValue)
    → asked_in c (filter (is_had keys) xs) ≡ asked_in c xs
kept keys c h [] = refl
kept keys c h (x ∷ xs) =
    one_kept (is_had keys x) c x (filter (is_had keys) xs) (λ e. sym (had_same keys c x e) ∙ h)
    ∙ ap (λ b. is_asked c x || b) (kept keys c h xs)

by_parts : (n : List ℕ) (v : Option (List ℕ)) (R : Pair → Type 0) → ((c : CfgValue) → R (pair_of c))
    → R (record { name = n; value = v })
by_parts n None R each = each (Alone (plain n))
by_parts n (Some v) R each = each (KeyPair (plain n) v)

by_value : (p : Pair) (R : Pair → Type 0) → ((c : CfgValue) → R (pair_of c)) → R p
by_value p R each = by_parts p.name p.value R each

pub all_had : (keys : Keys) (k : ℕ) → k < COUNT
    → HasAllFacts (fact_set (facts_in k keys)) (fact_set (filter (is_had keys) (values_in keys)))
all_had keys k below p =
    let listed = filter (is_had keys) (values_in keys) in
    by_value p
    (λ q. contains (fact_set (facts_in k keys)) q ≡ true → contains (fact_set listed) q ≡ true)
    (λ c h.
    in_list c listed
    ∙ kept keys c (some_at COUNT (λ n. contains (fact_set (facts_in n keys)) (pair_of c)) k below h) (values_in keys)
    ∙ among c k keys (sym (in_list c (facts_in k keys)) ∙ h))

-- ---- one more, while the rows are gone through

abbrev Row : Type 0
Row = Bor (List ℕ) × List ℕ × Bor (List (Bor (List ℕ) × List ℕ))

module _ (keys : Keys) (v : CfgValue) (set : TargetSet) (empty : Bool)
    (exact : (k : ℕ) → k < COUNT → has set.words k ≡ contains (fact_set (facts_in k keys)) (pair_of v)) where
  pub had_by : (((k : ℕ) → k < COUNT → has set.words k ≡ false) → empty ≡ true) → empty ≡ false
      → is_had keys v ≡ true
  had_by if_none some = elim (is_had keys v) as (λ b. is_had keys v ≡ b → b ≡ true) [
    | true ↦ λ e. refl
    | false ↦ λ e. absurd
        (true≢false (sym (if_none (λ k below.
        exact k below
        ∙ some_none COUNT (λ n. contains (fact_set (facts_in n keys)) (pair_of v)) e k below)) ∙ some))
  ] refl

  pub not_had_by : (empty ≡ true → (k : ℕ) → k < COUNT → has set.words k ≡ false) → empty ≡ true
      → is_had keys v ≡ false
  not_had_by has_none h =
      none_some COUNT (λ n. contains (fact_set (facts_in n keys)) (pair_of v))
      (λ k below. sym (exact k below) ∙ has_none h k below)

pub one_had : (p : CfgValue → Bool) (v : CfgValue) → p v ≡ true → filter p (v ∷ []) ≡ v ∷ []
one_had p v h = ap (λ b. cond b (v ∷ []) []) h

pub none_had : (p : CfgValue → Bool) (v : CfgValue) (xs : List CfgValue) → p v ≡ false → xs ≡ xs ++ filter p (v ∷ [])
none_had p v xs h = sym (ap (λ b. xs ++ cond b (v ∷ []) []) h ∙ append-nil xs)

more_kept : (p : CfgValue → Bool) (xs ys init old new : List CfgValue) → old ≡ init ++ filter p xs
    → new ≡ old ++ filter p ys → new ≡ init ++ filter p (xs ++ ys)
more_kept p xs ys init old new before now =
    now ∙ ap (λ zs. zs ++ filter p ys) before ∙ append_assoc init (filter p xs) (filter p ys)
    ∙ ap (λ zs. init ++ zs) (sym (filter-append p xs ys))

pub name_more : (p : CfgValue → Bool) (xs : List (Bor (List ℕ) × List ℕ × Bor (List (Bor (List ℕ) × List ℕ))))
    (i : ℕ) (d : Bor (List ℕ) × List ℕ × Bor (List (Bor (List ℕ) × List ℕ))) (old new : List CfgValue)
    → i < length xs → old ≡ filter p (names_in (keys_of (take i xs)))
    → new ≡ old ++ filter p (Alone (plain (get_or xs i d).0.now) ∷ [])
    → new ≡ filter p (names_in (keys_of (take (i + 1) xs)))
name_more p xs i d old new within before now =
    let x = get_or xs i d in
    more_kept p (names_in (keys_of (take i xs))) (Alone (plain x.0.now) ∷ []) [] old new before now
    ∙ ap (filter p)
    (sym (map-append (λ (key : List ℕ × List ℕ × Values). Alone (plain key.0)) (keys_of (take i xs))
    ((x.0.now, x.1, values_of x.2.now) ∷ []))
    ∙ sym (ap names_in (map-append (λ (r : Row). (r.0.now, r.1, values_of r.2.now)) (take i xs) (x ∷ [])))
    ∙ sym (ap (λ ys. names_in (keys_of ys)) (take_more xs i d within)))

pair_row : (keys : Keys) (key : List ℕ × List ℕ × Values) → pairs_in (keys ++ key ∷ [])
    ≡ pairs_in keys ++ pairs_of key.0 key.2
pair_row [] key = append-nil (pairs_of key.0 key.2)
pair_row (k ∷ ks) key =
    ap (λ ys. pairs_of k.0 k.2 ++ ys) (pair_row ks key)
    ∙ sym (append_assoc (pairs_of k.0 k.2) (pairs_in ks) (pairs_of key.0 key.2))

pub row_more : (p : CfgValue → Bool) (xs : List (Bor (List ℕ) × List ℕ × Bor (List (Bor (List ℕ) × List ℕ))))
    (i : ℕ) (d : Bor (List ℕ) × List ℕ × Bor (List (Bor (List ℕ) × List ℕ))) (init old new : List CfgValue)
    → i < length xs → old ≡ init ++ filter p (pairs_in (keys_of (take i xs)))
    → new ≡ old ++ filter p (pairs_of (get_or xs i d).0.now (values_of (get_or xs i d).2.now))
    → new ≡ init ++ filter p (pairs_in (keys_of (take (i + 1) xs)))
row_more p xs i d init old new within before now =
    let x = get_or xs i d in
    more_kept p (pairs_in (keys_of (take i xs))) (pairs_of x.0.now (values_of x.2.now)) init old new before now
    ∙ ap (λ ys. init ++ filter p ys)
    (sym (pair_row (keys_of (take i xs)) (x.0.now, x.1, values_of x.2.now))
    ∙ sym (ap pairs_in (map-append (λ (r : Row). (r.0.now, r.1, values_of r.2.now)) (take i xs) (x ∷ [])))
    ∙ sym (ap (λ ys. pairs_in (keys_of ys)) (take_more xs i d within)))

pub value_more : (p : CfgValue → Bool) (key : List ℕ) (xs : List (Bor (List ℕ) × List ℕ)) (i : ℕ)
    (d : Bor (List ℕ) × List ℕ) (init old new : List CfgValue) → i < length xs
    → old ≡ init ++ filter p (pairs_of key (values_of (take i xs)))
    → new ≡ old ++ filter p (KeyPair (plain key) (get_or xs i d).0.now ∷ [])
    → new ≡ init ++ filter p (pairs_of key (values_of (take (i + 1) xs)))
value_more p key xs i d init old new within before now =
    let x = get_or xs i d in
    more_kept p (pairs_of key (values_of (take i xs))) (KeyPair (plain key) x.0.now ∷ []) init old new before now
    ∙ ap (λ ys. init ++ filter p ys)
    (sym (map-append (λ (v : List ℕ × List ℕ). KeyPair (plain key) v.0) (values_of (take i xs)) ((x.0.now, x.1) ∷ []))
    ∙ sym (ap (pairs_of key) (map-append (λ (v : Bor (List ℕ) × List ℕ). (v.0.now, v.1)) (take i xs) (x ∷ [])))
    ∙ sym (ap (λ ys. pairs_of key (values_of ys)) (take_more xs i d within)))

-- ---- the table

rows_rise : is_rising value_cmp (values_in table_keys) ≡ true
unfolding table_keys is_rising
rows_rise = refl

module _ (keys : Keys) (all : keys ≡ table_keys) (vs : List CfgValue)
    (is : vs ≡ filter (is_had keys) (values_in keys)) where
  pub had_sorted : IsStrictlySortedBy value_cmp vs
  had_sorted =
      let rows = sorted value_cmp value_total (values_in table_keys) rows_rise in
      subst (IsStrictlySortedBy value_cmp) (sym is)
      (IsStrictlySortedBy-filter value_cmp (is_had keys) (values_in keys)
      (subst (λ ks. IsStrictlySortedBy value_cmp (values_in ks)) (sym all) rows))

  pub had_all : (k : ℕ) → k < COUNT → HasAllFacts (target_facts k) (fact_set vs)
  had_all k below =
      subst (λ ks. HasAllFacts (fact_set (facts_in k ks)) (fact_set vs)) all
      (subst (λ ws. HasAllFacts (fact_set (facts_in k keys)) (fact_set ws)) (sym is) (all_had keys k below))
