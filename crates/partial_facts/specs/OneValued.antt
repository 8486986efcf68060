-- The facts of a target as far as they are listed, if some keys have at most one value.
use Rattle.std.specs.Prelude.{◌≡◌, ◌⊎◌, ℕ, Bool, true, false, ◌&&◌, ◌||◌, IsTrue, List, [], ◌∷◌, ◌++◌, Option, IfSome}
use Rattle.std.specs.Prelude.{is_some, map, bytes_eq, Contains}
use Rattle.std.specs.List.{list_any}
use Rattle.std.specs.FinSet.{contains}
use Rattle.std.proofs.Common.{◌∙◌, refl, sym, ap, inl, inr, true≢false}
use Rattle.std.proofs.lemmas.List.Elements.{Contains-append_left, Contains-append_right, Contains-push}
use Rattle.std.proofs.lemmas.Slice.Eq.{bytes_eq-Decides}
use Rattle.cargo_platform.specs.Trees.{CfgValue}
use Rattle.cargo_platform.specs.Facts.{Pair, FactSet, pair_of, fact_set}
use Rattle.cargo_platform.proofs.FactTruths.{listed}
use Rattle.partial_facts.specs.Partly.{is_named, told_by, IsPartlyKnown, partly_possible, sound_by}

-- a key that has at most one value, with a value
abbrev pub is_single : List (List ℕ) → Pair → Bool
is_single single p = is_named p.name single && is_some p.value

-- for such a key, two different values are facts only if both are listed
abbrev pub HasOneValue : FactSet → List (List ℕ) → FactSet → Type 0
HasOneValue listed single s = (p q : Pair) → IsTrue (is_single single p) → IsTrue (is_some q.value) → p.name ≡ q.name
    → IsTrue (contains s p) → IsTrue (contains s q)
    → (p ≡ q) ⊎ (IsTrue (contains listed p) × IsTrue (contains listed q))

-- the listed and complete facts are as in `Partly`, and the keys have at most one value
pub record IsOneValued (listed : FactSet) (complete single : List (List ℕ)) (s : FactSet) : Type 0 where
  pub partly_known : IsPartlyKnown listed complete s
  pub one_value : HasOneValue listed single s

-- a key with some value
abbrev pub has_key : List ℕ → Pair → Bool
has_key name p = is_some p.value && bytes_eq p.name name

abbrev pub has_value : List ℕ → List Pair → Bool
has_value name ps = list_any (has_key name) ps

-- a name or key that is complete, or another value of a key that has one value
abbrev pub is_ruled_out : List Pair → List (List ℕ) → List (List ℕ) → Pair → Bool
is_ruled_out facts complete single p = is_named p.name complete || (is_single single p && has_value p.name facts)

abbrev pub one_valued_told : List CfgValue → List (List ℕ) → List (List ℕ) → Pair → Option Bool
one_valued_told cs complete single p =
    told_by (contains (fact_set cs) p) (is_ruled_out (map pair_of cs) complete single p)

-- two allowed sets: one with the pair of c, and one without it
pub record IsOpenOneValued (cs : List CfgValue) (complete single : List (List ℕ)) (c : CfgValue) : Type 0 where
  pub may_be : IsOneValued (fact_set cs) complete single (fact_set (cs ++ c ∷ []))
  pub is_in : IsTrue (contains (fact_set (cs ++ c ∷ [])) (pair_of c))
  pub need_not_be : IsOneValued (fact_set cs) complete single (fact_set cs)
  pub is_out : contains (fact_set cs) (pair_of c) ≡ false

pub one_valued_possible : (listed : FactSet) (complete single : List (List ℕ))
    → IsOneValued listed complete single listed
one_valued_possible listed complete single = record {
  partly_known = partly_possible listed complete;
  one_value = λ p q h k e x y. inr (x, y);
}

-- ---- what is ruled out is in no allowed set

pub either : (P : Type 0) (a b : Bool) → (a || b) ≡ true → (a ≡ true → P) → (b ≡ true → P) → P
either P true b h f g = f refl
either P false b h f g = g h

pub both : (a b : Bool) → (a && b) ≡ true → (a ≡ true) × (b ≡ true)
both true b h = (refl, h)
both false b h = absurd (true≢false (sym h))

-- a value of the key that is listed
pub value_found : (name : List ℕ) (ps : List Pair) → has_value name ps ≡ true
    → (q : Pair) × Contains ps q × (is_some q.value ≡ true) × (q.name ≡ name)
value_found name [] h = absurd (true≢false (sym h))
value_found name (q ∷ qs) h =
    either ((p : Pair) × Contains (q ∷ qs) p × (is_some p.value ≡ true) × (p.name ≡ name)) (has_key name q)
    (has_value name qs) h
    (λ is. let two = both (is_some q.value) (bytes_eq q.name name) is in
    (q, Contains-append_left (q ∷ []) qs q (Contains-push [] q), two.0, (bytes_eq-Decides q.name name).0 two.1))
    (λ there. let r = value_found name qs there in (r.0, Contains-append_right (q ∷ []) qs r.0 r.1, r.2, r.3))

-- a pair that is ruled out is in the set only if it is listed
pub ruled_out : (cs : List CfgValue) (complete single : List (List ℕ)) (s : FactSet) (p : Pair)
    → IsOneValued (fact_set cs) complete single s → is_ruled_out (map pair_of cs) complete single p ≡ true
    → contains s p ≡ true → contains (fact_set cs) p ≡ true
ruled_out cs complete single s p is out inside =
    either (contains (fact_set cs) p ≡ true) (is_named p.name complete)
    (is_single single p && has_value p.name (map pair_of cs)) out
    (λ named. is.partly_known.no_other p named inside)
    (λ value. let two = both (is_single single p) (has_value p.name (map pair_of cs)) value in
    let q = value_found p.name (map pair_of cs) two.1 in
    let known = (listed cs q.0).1 q.1 in
    elim (is.one_value p q.0 two.0 q.2 (sym q.3) inside (is.partly_known.has q.0 known)) [
      | inl same ↦ ap (contains (fact_set cs)) same ∙ known
      | inr those ↦ those.0
    ])

pub one_valued_sound : (cs : List CfgValue) (complete single : List (List ℕ)) (s : FactSet) (p : Pair)
    → IsOneValued (fact_set cs) complete single s
    → IfSome (one_valued_told cs complete single p) (λ b. contains s p ≡ b)
one_valued_sound cs complete single s p is =
    sound_by (contains (fact_set cs) p) (is_ruled_out (map pair_of cs) complete single p) (contains s p)
    (is.partly_known.has p) (ruled_out cs complete single s p is)
