-- Steps of the walk.
use Rattle.std.proofs.Common.{◌≡◌, ◌∙◌, refl, sym, ap, ℕ, ◌+◌, Bool, true}
use Rattle.std.proofs.Common.{false, ◌&&◌, ◌||◌, List, [], ◌∷◌, length}
use Rattle.std.proofs.Common.{Option, Some, None}
use Rattle.std.proofs.Common.{arith, ◌++◌, append_assoc}
use Rattle.cargo_platform.specs.Trees.{CfgValue, Alone, KeyPair}
use Rattle.partial_facts.specs.Partly.{names_of}
use Rattle.known_targets.specs.Rows.{Values, Keys, with_fact, keys_of}
use Rattle.known_targets.specs.Rows.{values_of, plain, facts_of_values, facts_in}
use Rattle.known_targets.specs.Bits.{has}
use Rattle.std.specs.Prelude.{not, ◌≢◌, bytes_eq}
use Rattle.std.specs.Borrow.{Bor}
use Rattle.std.proofs.Common.{◌<◌, ◌≤◌, get_or, take, eqb, eq-eqb, inl, inr, true≢false}
use Rattle.std.proofs.lemmas.Bool.{cases_eq}
use Rattle.std.proofs.lemmas.List.{get_or-map, take_more, map-append}
use Rattle.std.proofs.lemmas.Slice.Eq.{bytes_eq-Decides}
use Rattle.known_targets.proofs.Bits.{eqb-false}
use Rattle.cargo_platform.specs.Trees.{Tree, All, Any, trees_of}
use Rattle.cargo_platform.specs.Facts.{Pair}
use Rattle.cargo_platform.specs.Walk.{list_tree}
use Rattle.partial_facts.specs.Kleene.{kleene, kleene_not, kleene_and, kleene_or, kleene_all, kleene_any}
use Rattle.known_targets.specs.Open.{taken_as}
use Rattle.known_targets.specs.Groups.{both, taken}

pub not_taken : (u : Bool) (x : Option Bool) → not (taken_as (not u) x) ≡ taken_as u (kleene_not x)
not_taken u (Some b) = refl
not_taken true None = refl
not_taken false None = refl

and_assoc : (a b c : Bool) → ((a && b) && c) ≡ (a && (b && c))
and_assoc true b c = refl
and_assoc false b c = refl

or_assoc : (a b c : Bool) → ((a || b) || c) ≡ (a || (b || c))
or_assoc true b c = refl
or_assoc false b c = refl

or_false : (a : Bool) → (a || false) ≡ a
or_false true = refl
or_false false = refl

and_true : (a : Bool) → (a && true) ≡ a
and_true true = refl
and_true false = refl

taken_and : (u : Bool) (x y : Option Bool) → (taken_as u x && taken_as u y) ≡ taken_as u (kleene_and x y)
taken_and u (Some true) y = refl
taken_and u (Some false) y = refl
taken_and u None (Some true) = and_true u
taken_and true None (Some false) = refl
taken_and false None (Some false) = refl
taken_and true None None = refl
taken_and false None None = refl

taken_or : (u : Bool) (x y : Option Bool) → (taken_as u x || taken_as u y) ≡ taken_as u (kleene_or x y)
taken_or u (Some true) y = refl
taken_or u (Some false) y = refl
taken_or u None (Some false) = or_false u
taken_or true None (Some true) = refl
taken_or false None (Some true) = refl
taken_or true None None = refl
taken_or false None None = refl

-- no member
pub no_member : (n u : Bool) (told : Pair → Option Bool) → n ≡ taken u told (list_tree n [])
no_member true u told = refl
no_member false u told = refl

-- one more member
pub one_more : (n u : Bool) (told : Pair → Option Bool) (es : List Tree) (e : Tree)
    → both n (taken u told (list_tree n es)) (taken u told e) ≡ taken u told (list_tree n (es ++ e ∷ []))
one_more true u told [] e = sym (and_true (taken u told e)) ∙ taken_and u (kleene told e) (Some true)
one_more false u told [] e = sym (or_false (taken u told e)) ∙ taken_or u (kleene told e) (Some false)
one_more true u told (m ∷ es) e =
    ap (λ b. b && taken u told e) (sym (taken_and u (kleene told m) (kleene_all told (trees_of es))))
    ∙ and_assoc (taken u told m) (taken u told (All (trees_of es))) (taken u told e)
    ∙ ap (λ b. taken u told m && b) (one_more true u told es e)
    ∙ taken_and u (kleene told m) (kleene_all told (trees_of (es ++ e ∷ [])))
one_more false u told (m ∷ es) e =
    ap (λ b. b || taken u told e) (sym (taken_or u (kleene told m) (kleene_any told (trees_of es))))
    ∙ or_assoc (taken u told m) (taken u told (Any (trees_of es))) (taken u told e)
    ∙ ap (λ b. taken u told m || b) (one_more false u told es e)
    ∙ taken_or u (kleene told m) (kleene_any told (trees_of (es ++ e ∷ [])))

-- ---- names that are gone through

pub name_at : (names : List (Bor (List ℕ))) (i : ℕ) (d : Bor (List ℕ)) → i < length names
    → get_or (names_of names) i [] ≡ (get_or names i d).now
name_at names i d within = get_or-map (λ (t : Bor (List ℕ)). t.now) names i d [] within

pub is_there : (test : Bool) (names : List (Bor (List ℕ))) (i : ℕ) (d : Bor (List ℕ)) (name : List ℕ)
    → i < length names → test ≡ bytes_eq (get_or names i d).now name → test ≡ true
    → get_or (names_of names) i [] ≡ name
is_there test names i d name within is so =
    name_at names i d within ∙ (bytes_eq-Decides (get_or names i d).now name).0 (sym is ∙ so)

pub is_not_there : (test : Bool) (names : List (Bor (List ℕ))) (i : ℕ) (d : Bor (List ℕ)) (name : List ℕ)
    → i < length names → test ≡ bytes_eq (get_or names i d).now name → test ≡ false
    → get_or (names_of names) i [] ≡ name → ⊥
is_not_there test names i d name within is otherwise same =
    let so : bytes_eq (get_or names i d).now name ≡ true =
    (bytes_eq-Decides (get_or names i d).now name).1 (sym (name_at names i d within) ∙ same) in
    absurd (true≢false (sym so ∙ sym is ∙ otherwise))

pub named_more : (k i : ℕ) (new old test : Bool) (P : ℕ → Bool) → new ≡ ((eqb k i && test) || old) → test ≡ P i
    → (k < i → old ≡ P k) → (i ≤ k → old ≡ false) → k < i + 1 → new ≡ P k
named_more k i new old test P now is before later h = elim (cases_eq k i) [
  | inl same ↦
      let from : i ≤ k = omega arith in
      now ∙ ap (λ b. (b && test) || old) (eq-eqb k i same) ∙ ap (λ b. test || b) (later from) ∙ or_false test ∙ is
      ∙ ap P (sym same)
  | inr other ↦
      let under : k < i = omega arith in
      now ∙ ap (λ b. (b && test) || old) (eqb-false k i other) ∙ before under
]

pub named_none : (k i : ℕ) (new old test : Bool) → new ≡ ((eqb k i && test) || old) → i < k → old ≡ false
    → new ≡ false
named_none k i new old test now above is =
    let other : k ≢ i = omega arith in
    now ∙ ap (λ b. (b && test) || old) (eqb-false k i other) ∙ is

-- ---- facts that are listed

pub fact_added : (xs rest : List CfgValue) (b : Bool) (x : CfgValue)
    → (xs ++ with_fact b x []) ++ rest ≡ xs ++ with_fact b x rest
fact_added xs rest true x = append_assoc xs (x ∷ []) rest
fact_added xs rest false x = append_assoc xs [] rest

with_front : (b : Bool) (x : CfgValue) (xs ys : List CfgValue) → with_fact b x (xs ++ ys) ≡ with_fact b x xs ++ ys
with_front true x xs ys = refl
with_front false x xs ys = refl

pub value_listed : (k : ℕ) (key : List ℕ) (vs : Values) (v : List ℕ × List ℕ)
    → facts_of_values k key (vs ++ v ∷ [])
    ≡ facts_of_values k key vs ++ with_fact (has v.1 k) (KeyPair (plain key) v.0) []
value_listed k key [] v = refl
value_listed k key (w ∷ vs) v =
    ap (with_fact (has w.1 k) (KeyPair (plain key) w.0)) (value_listed k key vs v)
    ∙ with_front (has w.1 k) (KeyPair (plain key) w.0) (facts_of_values k key vs)
    (with_fact (has v.1 k) (KeyPair (plain key) v.0) [])

nil_behind : (xs : List CfgValue) → xs ++ [] ≡ xs
nil_behind [] = refl
nil_behind (x ∷ xs) = ap (λ ys. x ∷ ys) (nil_behind xs)

-- one more value of a key
pub values_more : (k : ℕ) (key : List ℕ) (xs : List (Bor (List ℕ) × List ℕ)) (i : ℕ) (d : Bor (List ℕ) × List ℕ)
    (init old new : List CfgValue) → i < length xs → old ≡ init ++ facts_of_values k key (values_of (take i xs))
    → new ≡ old ++ with_fact (has (get_or xs i d).1 k) (KeyPair (plain key) (get_or xs i d).0.now) []
    → new ≡ init ++ facts_of_values k key (values_of (take (i + 1) xs))
values_more k key xs i d init old new within before now =
    let x = get_or xs i d in
    let w = with_fact (has (get_or xs i d).1 k) (KeyPair (plain key) (get_or xs i d).0.now) [] in
    now ∙ ap (λ ys. ys ++ w) before ∙ append_assoc init (facts_of_values k key (values_of (take i xs))) w
    ∙ ap (λ ys. init ++ ys)
    (sym (value_listed k key (values_of (take i xs)) (x.0.now, x.1))
    ∙ sym (ap (facts_of_values k key)
    (map-append (λ (v : Bor (List ℕ) × List ℕ). (v.0.now, v.1)) (take i xs) (x ∷ [])))
    ∙ sym (ap (λ ys. facts_of_values k key (values_of ys)) (take_more xs i d within)))

row_listed : (k : ℕ) (keys : Keys) (key : List ℕ × List ℕ × Values)
    → facts_in k (keys ++ key ∷ [])
    ≡ facts_in k keys ++ with_fact (has key.1 k) (Alone (plain key.0)) (facts_of_values k key.0 key.2)
row_listed k [] key = ap (with_fact (has key.1 k) (Alone (plain key.0))) (nil_behind (facts_of_values k key.0 key.2))
row_listed k (w ∷ ks) key =
    let r = with_fact (has key.1 k) (Alone (plain key.0)) (facts_of_values k key.0 key.2) in
    ap (λ ys. with_fact (has w.1 k) (Alone (plain w.0)) (facts_of_values k w.0 w.2 ++ ys)) (row_listed k ks key)
    ∙ ap (with_fact (has w.1 k) (Alone (plain w.0)))
    (sym (append_assoc (facts_of_values k w.0 w.2) (facts_in k ks) r))
    ∙ with_front (has w.1 k) (Alone (plain w.0)) (facts_of_values k w.0 w.2 ++ facts_in k ks) r

abbrev Row : Type 0
Row = Bor (List ℕ) × List ℕ × Bor (List (Bor (List ℕ) × List ℕ))

-- one more row
pub rows_more : (k : ℕ) (xs : List (Bor (List ℕ) × List ℕ × Bor (List (Bor (List ℕ) × List ℕ))))
    (i : ℕ) (d : Bor (List ℕ) × List ℕ × Bor (List (Bor (List ℕ) × List ℕ)))
    (old between new : List CfgValue) → i < length xs → old ≡ facts_in k (keys_of (take i xs))
    → between ≡ old ++ with_fact (has (get_or xs i d).1 k) (Alone (plain (get_or xs i d).0.now)) []
    → new ≡ between ++ facts_of_values k (get_or xs i d).0.now (values_of (get_or xs i d).2.now)
    → new ≡ facts_in k (keys_of (take (i + 1) xs))
rows_more k xs i d old between new within before first second =
    let x = get_or xs i d in
    let fv = facts_of_values k (get_or xs i d).0.now (values_of (get_or xs i d).2.now) in
    second ∙ ap (λ ys. ys ++ fv) first ∙ fact_added old fv (has x.1 k) (Alone (plain x.0.now))
    ∙ ap (λ ys. ys ++ with_fact (has x.1 k) (Alone (plain x.0.now)) fv) before
    ∙ sym (row_listed k (keys_of (take i xs)) (x.0.now, x.1, values_of x.2.now))
    ∙ sym (ap (facts_in k) (map-append (λ (r : Row). (r.0.now, r.1, values_of r.2.now)) (take i xs) (x ∷ [])))
    ∙ sym (ap (λ ys. facts_in k (keys_of ys)) (take_more xs i d within))
