-- Indexes of ids, while ids are added.
use Rattle.std.proofs.Common.{◌≡◌, refl, sym, ◌∙◌, ap, subst, ℕ, ◌+◌, ◌<◌, ◌≤◌, Bool, true, false, not, cond, List}
use Rattle.std.proofs.Common.{[], map, length}
use Rattle.std.proofs.Common.{get_or, ◌⊎◌, inl, inr, Option, Some, None, IsSome, arith, below_more}
use Rattle.std.specs.Prelude.{◌↔◌, Contains, bytes_eq}
use Rattle.std.specs.Option.{is_some}
use Rattle.std.proofs.lemmas.List.{get_or-map, get_or_default, length-map}
use Rattle.std.proofs.lemmas.List.Elements.{Contains-get_or}
use Rattle.std.proofs.lemmas.Slice.Eq.{bytes_eq-Decides}
use Rattle.cargo_metadata.specs.Ids.{id_at, AreDistinct, IsFirstRepeat}
use Rattle.cargo_metadata.specs.Indexes.{IsIndex, indexed}

-- ---- ids by their indexes

pub id_read : {X : Type 0} (f : X → List ℕ) (xs : List X) (i : ℕ) (x : X) → i < length xs → x ≡ get_or xs i x
    → f x ≡ id_at (map f xs) i
id_read f xs i x below is = ap f is ∙ sym (get_or-map f xs i x [] below)

pub inside_ids : {X : Type 0} (f : X → List ℕ) (xs : List X) (i : ℕ) → i < length xs → i < length (map f xs)
inside_ids f xs i below = omega (arith, below, length-map xs f)

pub ended : {X : Type 0} (f : X → List ℕ) (xs : List X) (i len : ℕ) → i ≤ len → len ≤ i → len ≡ length xs
    → i ≡ length (map f xs)
ended f xs i len below above is = omega (arith, below, above, is, length-map xs f)

pub contains_at : (ids : List (List ℕ)) (i : ℕ) → i < length ids → Contains ids (id_at ids i)
contains_at ids i below = Contains-get_or ids i [] below

at_same : (ids : List (List ℕ)) (q : List ℕ) (k : ℕ) → k < length ids → get_or ids k q ≡ q → id_at ids k ≡ q
at_same ids q k below same = get_or_default ids k [] q below ∙ same

-- ---- an index

pub index_none : (at : List ℕ → Option ℕ) (ids : List (List ℕ)) → ((q : List ℕ) → at q ≡ None) → IsIndex at ids 0
index_none at ids none = record {
  sound = λ q i h. absurd (let e = none q in cc);
  complete = λ i h. absurd (omega arith);
}

cond_cases : (b : Bool) (P : Type 0) (new some old : Option ℕ) → (b ≡ true → P) → new ≡ cond b some old
    → (P × (new ≡ some)) ⊎ (new ≡ old)
cond_cases true P new some old holds is = inl (holds refl, is)
cond_cases false P new some old holds is = inr is

cond_true : (b : Bool) (new some old : Option ℕ) → b ≡ true → new ≡ cond b some old → new ≡ some
cond_true true new some old h is = is
cond_true false new some old h is = absurd cc

unindexed : (earlier : Option ℕ) (id : List ℕ) (i : ℕ) (q : List ℕ) (new old : Option ℕ) → earlier ≡ None
    → new ≡ indexed earlier id i q old → new ≡ cond (bytes_eq id q) (Some i) old
unindexed None id i q new old none is = is
unindexed (Some e) id i q new old none is = absurd cc

some_same : (i j : ℕ) → Some i ≡ Some j → i ≡ j
some_same i j e = cc

-- what one more id changes
by_id : (id q : List ℕ) (i : ℕ) (new old : Option ℕ) → new ≡ cond (bytes_eq id q) (Some i) old
    → ((id ≡ q) × (new ≡ Some i)) ⊎ (new ≡ old)
by_id id q i new old is = cond_cases (bytes_eq id q) (id ≡ q) new (Some i) old (bytes_eq-Decides id q).0 is

pub index_more : (old new : List ℕ → Option ℕ) (ids : List (List ℕ)) (i : ℕ) (id : List ℕ) → id ≡ id_at ids i
    → old id ≡ None → ((q : List ℕ) → new q ≡ indexed (old id) id i q (old q)) → IsIndex old ids i
    → IsIndex new ids (i + 1)
index_more old new ids i id is none added index =
    let given : (q : List ℕ) → new q ≡ cond (bytes_eq id q) (Some i) (old q) =
    λ q. unindexed (old id) id i q (new q) (old q) none (added q) in
    let step : (q : List ℕ) → ((id ≡ q) × (new q ≡ Some i)) ⊎ (new q ≡ old q) =
    λ q. by_id id q i (new q) (old q) (given q) in
    record {
      sound = λ q j h.
          elim (step q) [
            | inl here ↦ let e = some_same i j (sym here.1 ∙ h) in
                (omega (arith, e), ap (λ (n : ℕ). id_at ids n) (sym e) ∙ sym is ∙ here.0)
            | inr before ↦ let it = index.sound q j (sym before ∙ h) in (omega (arith, it.0), it.1)
          ];
      complete =
          below_more (λ j. new (id_at ids j) ≡ Some j) i
          (λ j below.
          elim (step (id_at ids j)) [
            | inl here ↦ absurd (let e = index.complete j below in let f = ap old here.0 in cc)
            | inr before ↦ before ∙ index.complete j below
          ])
          (cond_true (bytes_eq id (id_at ids i)) (new (id_at ids i)) (Some i) (old (id_at ids i))
          ((bytes_eq-Decides id (id_at ids i)).1 is) (given (id_at ids i)));
    }

pub index_distinct : (at : List ℕ → Option ℕ) (ids : List (List ℕ)) (n : ℕ) → IsIndex at ids n → AreDistinct ids n
index_distinct at ids n index = record {
  once = λ i j below other same.
      some_same i j (sym (index.complete i below) ∙ ap at same ∙ index.complete j other);
}

pub index_repeat : (at : List ℕ → Option ℕ) (ids : List (List ℕ)) (first again : ℕ) (id : List ℕ)
    → again < length ids → id ≡ id_at ids again → at id ≡ Some first → IsIndex at ids again
    → IsFirstRepeat ids first again
index_repeat at ids first again id below is found index = record {
  distinct = index_distinct at ids again index;
  before = (index.sound id first found).0;
  inside = below;
  same = (index.sound id first found).1 ∙ is;
}

-- ---- what is found

pub found_contains : (at : List ℕ → Option ℕ) (ids : List (List ℕ)) (q : List ℕ) (i : ℕ)
    → IsIndex at ids (length ids) → at q ≡ Some i → Contains ids q
found_contains at ids q i index found =
    let it = index.sound q i found in
    subst (λ (x : List ℕ). Contains ids x) it.1 (contains_at ids i it.0)

pub absent : (at : List ℕ → Option ℕ) (ids : List (List ℕ)) (q : List ℕ) → IsIndex at ids (length ids)
    → at q ≡ None → Contains ids q → ⊥
absent at ids q index none (k, below, same) =
    let e = index.complete k below in
    let f = ap at (at_same ids q k below same) in
    cc

-- the ids of all elements
pub all_distinct : {X : Type 0} (f : X → List ℕ) (xs : List X) (at : List ℕ → Option ℕ)
    → IsIndex at (map f xs) (length (map f xs)) → AreDistinct (map f xs) (length xs)
all_distinct f xs at index =
    subst (λ (n : ℕ). AreDistinct (map f xs) n) (length-map xs f) (index_distinct at (map f xs) (length (map f xs))
    index)

-- ---- members, of which one may be there twice

some_from : (o : Option ℕ) (i : ℕ) → o ≡ Some i → IsSome o
some_from o i is = subst IsSome (sym is) refl

indexed_some : (earlier : Option ℕ) (id q : List ℕ) (i : ℕ) (new old : Option ℕ) → new ≡ indexed earlier id i q old
    → IsSome new → (id ≡ q) ⊎ IsSome old
indexed_some (Some e) id q i new old is h = inr (subst IsSome is h)
indexed_some None id q i new old is h =
    elim (by_id id q i new old is) [ inl here ↦ inl here.0 | inr before ↦ inr (subst IsSome before h) ]

indexed_keeps : (earlier : Option ℕ) (id q : List ℕ) (i : ℕ) (new old : Option ℕ) → new ≡ indexed earlier id i q old
    → IsSome old → IsSome new
indexed_keeps (Some e) id q i new old is h = subst IsSome (sym is) h
indexed_keeps None id q i new old is h =
    elim (by_id id q i new old is) [
      | inl here ↦ some_from new i here.1
      | inr before ↦ subst IsSome (sym before) h
    ]

indexed_here : (earlier : Option ℕ) (id : List ℕ) (i : ℕ) (new : Option ℕ) → new ≡ indexed earlier id i id earlier
    → IsSome new
indexed_here (Some e) id i new is = some_from new e is
indexed_here None id i new is =
    some_from new i (cond_true (bytes_eq id id) new (Some i) None ((bytes_eq-Decides id id).1 refl) is)

pub members_sound : (old new : List ℕ → Option ℕ) (ids : List (List ℕ)) (i : ℕ) (id : List ℕ) → i < length ids
    → id ≡ id_at ids i → ((q : List ℕ) → new q ≡ indexed (old id) id i q (old q))
    → ((q : List ℕ) → IsSome (old q) → Contains ids q) → (q : List ℕ) → IsSome (new q) → Contains ids q
members_sound old new ids i id below is added sound q h =
    elim (indexed_some (old id) id q i (new q) (old q) (added q) h) [
      | inl here ↦ subst (λ (x : List ℕ). Contains ids x) (sym is ∙ here) (contains_at ids i below)
      | inr before ↦ sound q before
    ]

pub members_complete : (old new : List ℕ → Option ℕ) (ids : List (List ℕ)) (i : ℕ) (id : List ℕ) → id ≡ id_at ids i
    → ((q : List ℕ) → new q ≡ indexed (old id) id i q (old q)) → ((k : ℕ) → k < i → IsSome (old (id_at ids k)))
    → (k : ℕ) → k < i + 1 → IsSome (new (id_at ids k))
members_complete old new ids i id is added complete =
    below_more (λ k. IsSome (new (id_at ids k))) i
    (λ k below. indexed_keeps (old id) id (id_at ids k) i (new (id_at ids k)) (old (id_at ids k)) (added (id_at ids k))
    (complete k below))
    (subst (λ (x : List ℕ). IsSome (new x)) is (indexed_here (old id) id i (new id) (added id)))

pub is_member : (at : List ℕ → Option ℕ) (ids : List (List ℕ)) (q : List ℕ)
    → ((k : ℕ) → k < length ids → IsSome (at (id_at ids k))) → Contains ids q → IsSome (at q)
is_member at ids q complete (k, below, same) =
    subst (λ (x : List ℕ). IsSome (at x)) (at_same ids q k below same) (complete k below)

pub none_some : (o : Option ℕ) → o ≡ None → IsSome o → ⊥
none_some o none h = let e = subst IsSome none h in cc

pub index_found : (o : Option ℕ) (none : Bool) → is_some o ≡ not none → none ≡ false → (i : ℕ) × (o ≡ Some i)
index_found None true is other = absurd cc
index_found None false is other = absurd cc
index_found (Some i) none is other = (i, refl)

pub no_index : (o : Option ℕ) (none : Bool) → is_some o ≡ not none → none ≡ true → o ≡ None
no_index None none is there = refl
no_index (Some i) true is there = absurd cc
no_index (Some i) false is there = absurd cc

pub root_iff : (o : Option ℕ) (some : Bool) (P : Type 0) → some ≡ is_some o → (IsSome o → P) → (P → IsSome o)
    → (some ≡ true) ↔ P
root_iff o some P is to from = (λ h. to (sym is ∙ h), λ h. is ∙ from h)
