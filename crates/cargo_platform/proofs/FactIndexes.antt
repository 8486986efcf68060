-- The facts of an index represent the set of its list, and a search finds exactly them.
use Rattle.std.proofs.Common.{◌≡◌, refl, sym, ap, ◌∙◌, subst, ℕ, ◌+◌, ◌<◌, ◌||◌, false, List, [], ◌∷◌, ◌++◌, map}
use Rattle.std.proofs.Common.{length, take, get_or, append_assoc}
use Rattle.std.specs.List.{All, list_any}
use Rattle.std.specs.Ordering.{is_eq, eq_by_cmp, ordering_then}
use Rattle.std.specs.List.Sorted.{IsPermutation}
use Rattle.std.specs.FinSet.{contains-from_list, from_list, same_set}
use Rattle.std.proofs.lemmas.List.{map_more, map_push}
use Rattle.std.proofs.lemmas.List.Elements.{All-nil, All-cons, All-head, All-tail, All-push, All-weaker}
use Rattle.std.proofs.lemmas.List.Sorted.{list_any-IsPermutation, All-permutation}
use Rattle.std.proofs.lemmas.List.Sorted.{IsPermutation-map, IsPermutation-append, IsPermutation-append_left}
use Rattle.std.proofs.lemmas.List.Sorted.{IsPermutation-trans, IsPermutation-sym, IsPermutation-middle}
use Rattle.std.proofs.lemmas.List.Sorted.{IsPermutation-push_more}
use Rattle.cargo_platform.specs.declared.cfg.Cfg.{Cfg}
use Rattle.cargo_platform.specs.declared.places.HashedPlace.{HashedPlace}
use Rattle.cargo_platform.specs.declared.places.PairPlace.{PairPlace}
use Rattle.cargo_platform.specs.Trees.{CfgValue, Alone, KeyPair, Name, value_of}
use Rattle.cargo_platform.specs.Key.{text_cmp, value_key, value_cmp}
use Rattle.cargo_platform.specs.Places.{text_at, KeepsTexts, text_hash, Hashed, hashed_at, HasHashed, hashed_cmp}
use Rattle.cargo_platform.specs.Places.{HashedPair, hashed_pair_at, HasPair, hashed_pair_cmp, name_at, pair_at}
use Rattle.cargo_platform.specs.Places.{HasNameHash, HasValueHash}
use Rattle.cargo_platform.specs.Facts.{pair_of, pair_cmp, fact_set}
use Rattle.cargo_platform.proofs.FactSets.{pairs_total}
use Rattle.cargo_platform.proofs.FactTruths.{pair_tie}
use Rattle.cargo_platform.proofs.HashOrder.{IsHashed, hashed_ties, pair_ties}

-- ---- what an index keeps

-- a fact without its raw mark
abbrev pub kept_value : Cfg → CfgValue
kept_value fact = value_key (value_of fact)

-- a text is at the place, with its hash
abbrev pub IsName : List ℕ → HashedPlace → Type 0
IsName texts p = HasHashed texts p (text_at texts p.place)

abbrev pub IsPair : List ℕ → PairPlace → Type 0
IsPair texts p = HasPair texts p (text_at texts p.key) (text_at texts p.value.place)

-- the names and pairs that an index keeps of a list of facts
pub record AreKept (facts : List Cfg) (texts : List ℕ) (names : List HashedPlace) (pairs : List PairPlace) : Type
    0 where
  pub names_in : All (IsName texts) names
  pub pairs_in : All (IsPair texts) pairs
  pub same : IsPermutation (map kept_value facts) (map (name_at texts) names ++ map (pair_at texts) pairs)

-- ---- another text is appended

module _ (old new : List ℕ) (kept : KeepsTexts old new) where
  name_stays : (p : HashedPlace) → IsName old p → IsName new p × (name_at new p ≡ name_at old p)
  name_stays p h =
      let w = kept.kept p.place h.place.is_in in (
        record {
          place = record { is_in = w.is_in; text_is = refl };
          hash_is = h.hash_is ∙ ap text_hash (sym w.text_is);
        },
        ap (λ text. Alone (record { raw = false; name = text })) w.text_is,
      )

  pair_stays : (p : PairPlace) → IsPair old p → IsPair new p × (pair_at new p ≡ pair_at old p)
  pair_stays p h =
      let key = kept.kept p.key h.has_key.is_in in
      let value = kept.kept p.value.place h.has_value.place.is_in in (
        record {
          has_key = record { is_in = key.is_in; text_is = refl };
          has_value = record {
            place = record { is_in = value.is_in; text_is = refl };
            hash_is = h.has_value.hash_is ∙ ap text_hash (sym value.text_is);
          };
        },
        λ i. KeyPair (record { raw = false; name = key.text_is i }) (value.text_is i),
      )

  names_stay : (ps : List HashedPlace) → All (IsName old) ps
      → All (IsName new) ps × (map (name_at new) ps ≡ map (name_at old) ps)
  names_stay [] h = (All-nil (IsName new), refl)
  names_stay (p ∷ ps) h =
      let first = name_stays p (All-head (IsName old) p ps h) in
      let others = names_stay ps (All-tail (IsName old) p ps h) in
      (All-cons (IsName new) p ps first.0 others.0, λ i. first.1 i ∷ others.1 i)

  pairs_stay : (ps : List PairPlace) → All (IsPair old) ps
      → All (IsPair new) ps × (map (pair_at new) ps ≡ map (pair_at old) ps)
  pairs_stay [] h = (All-nil (IsPair new), refl)
  pairs_stay (p ∷ ps) h =
      let first = pair_stays p (All-head (IsPair old) p ps h) in
      let others = pairs_stay ps (All-tail (IsPair old) p ps h) in
      (All-cons (IsPair new) p ps first.0 others.0, λ i. first.1 i ∷ others.1 i)

  stay : (facts : List Cfg) (names : List HashedPlace) (pairs : List PairPlace) → AreKept facts old names pairs
      → AreKept facts new names pairs
  stay facts names pairs h =
      let ns = names_stay names h.names_in in
      let ps = pairs_stay pairs h.pairs_in in
      record {
        names_in = ns.0;
        pairs_in = ps.0;
        same = subst (IsPermutation (map kept_value facts)) (λ i. sym ns.1 i ++ sym ps.1 i) h.same;
      }

-- the next fact is kept after those of its kind
module _ (facts : List Cfg) (i : ℕ) (fact : Cfg) (within : i < length facts) (is : fact ≡ get_or facts i fact) where
  next : (c : CfgValue) → kept_value fact ≡ c
      → map kept_value (take (i + 1) facts) ≡ map kept_value (take i facts) ++ c ∷ []
  next c same =
      map_more kept_value facts i fact within
      ∙ ap (λ d. map kept_value (take i facts) ++ d ∷ []) (sym (ap kept_value is) ∙ same)

  pub name_kept : (old new : List ℕ) (names : List HashedPlace) (pairs : List PairPlace) (p : HashedPlace)
      (name : Name) → KeepsTexts old new → HasHashed new p name.name → value_of fact ≡ Alone name
      → AreKept (take i facts) old names pairs → AreKept (take (i + 1) facts) new (names ++ p ∷ []) pairs
  name_kept old new names pairs p name texts has same kept =
      let h = stay old new texts (take i facts) names pairs kept in
      let ns = map (name_at new) names in
      let ps = map (pair_at new) pairs in
      let c = name_at new p in
      let value : kept_value fact ≡ c = ap value_key same
      ∙ ap (λ text. Alone (record { raw = false; name = text })) (sym has.place.text_is) in
      record {
        names_in = All-push (IsName new) names p h.names_in (record {
          place = record { is_in = has.place.is_in; text_is = refl };
          hash_is = has.hash_is ∙ ap text_hash (sym has.place.text_is);
        });
        pairs_in = h.pairs_in;
        same =
            rw (next c value, map_push (name_at new) names p, append_assoc ns (c ∷ []) ps)
            (IsPermutation-push_more (map kept_value (take i facts)) (ns ++ ps) (ns ++ c ∷ ps) c h.same
            (IsPermutation-sym (ns ++ c ∷ ps) (c ∷ (ns ++ ps)) (IsPermutation-middle ns c ps)));
      }

  pub pair_kept : (old new : List ℕ) (names : List HashedPlace) (pairs : List PairPlace) (p : PairPlace)
      (key : Name) (value : List ℕ) → KeepsTexts old new → HasPair new p key.name value
      → value_of fact ≡ KeyPair key value → AreKept (take i facts) old names pairs
      → AreKept (take (i + 1) facts) new names (pairs ++ p ∷ [])
  pair_kept old new names pairs p key value texts has same kept =
      let h = stay old new texts (take i facts) names pairs kept in
      let ns = map (name_at new) names in
      let ps = map (pair_at new) pairs in
      let c = pair_at new p in
      let key_is = sym has.has_key.text_is in
      let value_is = sym has.has_value.place.text_is in
      let whole : kept_value fact ≡ c = ap value_key same
      ∙ (λ i. KeyPair (record { raw = false; name = key_is i }) (value_is i)) in
      record {
        names_in = h.names_in;
        pairs_in = All-push (IsPair new) pairs p h.pairs_in (record {
          has_key = record { is_in = has.has_key.is_in; text_is = refl };
          has_value = record {
            place = record { is_in = has.has_value.place.is_in; text_is = refl };
            hash_is = has.has_value.hash_is ∙ ap text_hash value_is;
          };
        });
        same =
            rw (next c whole, map_push (pair_at new) pairs p, ← append_assoc ns ps (c ∷ []))
            (IsPermutation-append_left (c ∷ []) (map kept_value (take i facts)) (ns ++ ps) h.same);
      }

-- ---- the set

-- facts in another order represent the same set
permuted : (cs ds : List CfgValue) → IsPermutation cs ds → fact_set ds ≡ fact_set cs
permuted cs ds moved =
    same_set pairs_total pair_tie (fact_set ds) (fact_set cs)
    (λ q. contains-from_list pairs_total (map pair_of ds) q
    ∙ sym
    (list_any-IsPermutation (eq_by_cmp pair_cmp q) (map pair_of cs) (map pair_of ds)
    (IsPermutation-map pair_of cs ds moved))
    ∙ sym (contains-from_list pairs_total (map pair_of cs) q))

-- raw marks play no part in it
unmarked_pairs : (facts : List Cfg) → map pair_of (map kept_value facts) ≡ map pair_of (map value_of facts)
unmarked_pairs [] = refl
unmarked_pairs (fact ∷ facts) = λ i. unmarked (value_of fact) i ∷ unmarked_pairs facts i
  where
    unmarked : (c : CfgValue) → pair_of (value_key c) ≡ pair_of c
    unmarked (Alone n) = refl
    unmarked (KeyPair k v) = refl

-- so do names and pairs that are each put in order
pub put_in_order : (facts : List Cfg) (texts : List ℕ) (ms ns : List HashedPlace) (ps qs : List PairPlace)
    → AreKept facts texts ms ps → IsPermutation ms ns → IsPermutation ps qs
    → fact_set (map (name_at texts) ns ++ map (pair_at texts) qs) ≡ fact_set (map value_of facts)
put_in_order facts texts ms ns ps qs kept first second =
    permuted (map kept_value facts) (map (name_at texts) ns ++ map (pair_at texts) qs)
    (IsPermutation-trans (map kept_value facts) (map (name_at texts) ms ++ map (pair_at texts) ps)
    (map (name_at texts) ns ++ map (pair_at texts) qs) kept.same
    (IsPermutation-append (map (name_at texts) ms) (map (name_at texts) ns) (map (pair_at texts) ps)
    (map (pair_at texts) qs) (IsPermutation-map (name_at texts) ms ns first)
    (IsPermutation-map (pair_at texts) ps qs second)))
    ∙ ap from_list (unmarked_pairs facts)

-- hashes stay those of the texts
pub names_hashed : (texts : List ℕ) (ms ns : List HashedPlace) → All (IsName texts) ms → IsPermutation ms ns
    → All (HasNameHash texts) ns
names_hashed texts ms ns all moved =
    All-permutation (HasNameHash texts) ms ns moved
    (All-weaker (IsName texts) (HasNameHash texts) (λ p h. h.hash_is) ms all)

pub values_hashed : (texts : List ℕ) (ps qs : List PairPlace) → All (IsPair texts) ps → IsPermutation ps qs
    → All (HasValueHash texts) qs
values_hashed texts ps qs all moved =
    All-permutation (HasValueHash texts) ps qs moved
    (All-weaker (IsPair texts) (HasValueHash texts) (λ p h. h.has_value.hash_is) ps all)

-- ---- what is found

-- what is found by hashes is what equals the value
pub is_name_found : (texts : List ℕ) (sought : Hashed) (n : Name) → IsHashed sought → sought.text ≡ n.name
    → (names : List HashedPlace) → All (HasNameHash texts) names
    → list_any (λ p. is_eq (hashed_cmp (hashed_at texts p) sought)) names
    ≡ list_any (λ p. eq_by_cmp value_cmp (name_at texts p) (Alone n)) names
is_name_found texts sought n hash is [] all = refl
is_name_found texts sought n hash is (p ∷ names) all =
    let first = hashed_ties (hashed_at texts p) sought (All-head (HasNameHash texts) p names all) hash
    ∙ ap (λ t. is_eq (text_cmp (text_at texts p.place) t)) is in
    let others = is_name_found texts sought n hash is names (All-tail (HasNameHash texts) p names all) in
    λ i. first i || others i

pub is_pair_found : (texts : List ℕ) (sought : HashedPair) (k : Name) (v : List ℕ) → IsHashed sought.value
    → sought.key ≡ k.name → sought.value.text ≡ v → (pairs : List PairPlace) → All (HasValueHash texts) pairs
    → list_any (λ p. is_eq (hashed_pair_cmp (hashed_pair_at texts p) sought)) pairs
    ≡ list_any (λ p. eq_by_cmp value_cmp (pair_at texts p) (KeyPair k v)) pairs
is_pair_found texts sought k v hash key value [] all = refl
is_pair_found texts sought k v hash key value (p ∷ pairs) all =
    let first = pair_ties (hashed_pair_at texts p) sought (All-head (HasValueHash texts) p pairs all) hash
    ∙ (λ i. is_eq (ordering_then (text_cmp (text_at texts p.key) (key i))
    (text_cmp (text_at texts p.value.place) (value i)))) in
    let others = is_pair_found texts sought k v hash key value pairs (All-tail (HasValueHash texts) p pairs all) in
    λ i. first i || others i

-- no pair equals a name, and no name a pair: whether a fact is kept is whether it is among those of its kind
pub is_name_kept : (texts : List ℕ) (names : List HashedPlace) (pairs : List PairPlace) (n : Name)
    → list_any (λ p. eq_by_cmp value_cmp (name_at texts p) (Alone n)) names
    ≡ list_any (λ c. eq_by_cmp value_cmp c (Alone n)) (map (name_at texts) names ++ map (pair_at texts) pairs)
is_name_kept texts [] [] n = refl
is_name_kept texts [] (p ∷ pairs) n = is_name_kept texts [] pairs n
is_name_kept texts (m ∷ names) pairs n =
    ap (λ b. eq_by_cmp value_cmp (name_at texts m) (Alone n) || b) (is_name_kept texts names pairs n)

pub is_pair_kept : (texts : List ℕ) (names : List HashedPlace) (pairs : List PairPlace) (k : Name) (v : List ℕ)
    → list_any (λ p. eq_by_cmp value_cmp (pair_at texts p) (KeyPair k v)) pairs
    ≡ list_any (λ c. eq_by_cmp value_cmp c (KeyPair k v)) (map (name_at texts) names ++ map (pair_at texts) pairs)
is_pair_kept texts [] [] k v = refl
is_pair_kept texts [] (p ∷ pairs) k v =
    ap (λ b. eq_by_cmp value_cmp (pair_at texts p) (KeyPair k v) || b) (is_pair_kept texts [] pairs k v)
is_pair_kept texts (n ∷ names) pairs k v = is_pair_kept texts names pairs k v
