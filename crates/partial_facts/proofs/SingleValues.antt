-- Keys with one value: what is not told is open, and which holders tell more.
use Rattle.std.proofs.Common.{◌≡◌, ◌∙◌, refl, sym, ap, subst, ℕ, Bool, true, false, ◌&&◌, ◌||◌, None, is_some, List}
use Rattle.std.proofs.Common.{[], ◌∷◌, ◌++◌, map, inl, inr, true≢false, ◌⊎◌, arith}
use Rattle.std.specs.Prelude.{bytes_eq}
use Rattle.std.specs.List.{Contains}
use Rattle.std.specs.FinSet.{contains}
use Rattle.std.proofs.lemmas.List.{map_push}
use Rattle.std.proofs.lemmas.List.Elements.{Contains-append_cases, Contains-push_cases}
use Rattle.std.proofs.lemmas.Slice.Eq.{bytes_eq-Decides}
use Rattle.cargo_platform.specs.Trees.{CfgValue}
use Rattle.cargo_platform.specs.Facts.{Pair, pair_of, fact_set}
use Rattle.cargo_platform.proofs.FactTruths.{listed}
use Rattle.partial_facts.specs.KleeneLaws.{TellsMore}
use Rattle.partial_facts.specs.Partly.{is_named, told_by, partly_told, IsPartlyKnown, KeepsNames}
use Rattle.partial_facts.specs.OneValued.{is_single, has_key, has_value, is_ruled_out, one_valued_told, IsOneValued}
use Rattle.partial_facts.specs.OneValued.{IsOpenOneValued, HasOneValue, one_valued_possible, either, both, value_found}
use Rattle.partial_facts.specs.OneValued.{ruled_out}
use Rattle.partial_facts.proofs.Telling as partial
use Rattle.partial_facts.proofs.Telling.{untold}
use Rattle.partial_facts.proofs.Learning.{more_by}

first_true : (a b : Bool) → a ≡ true → (a || b) ≡ true
first_true true b h = refl
first_true false b h = absurd (true≢false (sym h))

second_true : (a b : Bool) → b ≡ true → (a || b) ≡ true
second_true true b h = refl
second_true false b h = h

both_true : (a b : Bool) → a ≡ true → b ≡ true → (a && b) ≡ true
both_true true b h k = k
both_true false b h k = absurd (true≢false (sym h))

first_false : (a b : Bool) → (a || b) ≡ false → a ≡ false
first_false true b h = absurd (true≢false h)
first_false false b h = refl

second_false : (a b : Bool) → (a || b) ≡ false → b ≡ false
second_false true b h = absurd (true≢false h)
second_false false b h = h

-- a pair of the list is a value of its key
finds_value : (name : List ℕ) (ps : List Pair) (q : Pair) → Contains ps q → is_some q.value ≡ true → q.name ≡ name
    → has_value name ps ≡ true
finds_value name [] q k some e = absurd (omega (arith, k.1))
finds_value name (t ∷ ts) q k some e = elim (Contains-append_cases (t ∷ []) ts q k) [
  | inl here ↦ elim (Contains-push_cases [] t q here) [
    | inl never ↦ absurd (omega (arith, never.1))
    | inr is ↦ first_true (has_key name t) (has_value name ts)
        (ap (has_key name) is
        ∙ both_true (is_some q.value) (bytes_eq q.name name) some ((bytes_eq-Decides q.name name).1 e))
  ]
  | inr there ↦ second_true (has_key name t) (has_value name ts) (finds_value name ts q there some e)
]

-- a key that has one value, under another pair's name
single_too : (single : List (List ℕ)) (p q : Pair) → is_single single p ≡ true → is_some q.value ≡ true
    → p.name ≡ q.name → is_single single q ≡ true
single_too single p q h some e =
    both_true (is_named q.name single) (is_some q.value)
    (ap (λ n. is_named n single) (sym e) ∙ (both (is_named p.name single) (is_some p.value) h).0) some

-- of a key with one value that is open, no value is listed
none_listed : (cs : List CfgValue) (complete single : List (List ℕ)) (p q : Pair)
    → is_ruled_out (map pair_of cs) complete single p ≡ false → is_single single p ≡ true
    → Contains (map pair_of cs) q → is_some q.value ≡ true → q.name ≡ p.name → ⊥
none_listed cs complete single p q nowhere h k some e =
    true≢false
    (sym (both_true (is_single single p) (has_value p.name (map pair_of cs)) h
    (finds_value p.name (map pair_of cs) q k some e))
    ∙ second_false (is_named p.name complete) _ nowhere)

pub left_open : (cs : List CfgValue) (complete single : List (List ℕ)) (c : CfgValue)
    → one_valued_told cs complete single (pair_of c) ≡ None → IsOpenOneValued cs complete single c
left_open cs complete single c h =
    let ps : List Pair = map pair_of cs in
    let more : List CfgValue = cs ++ c ∷ [] in
    let neither = untold (contains (fact_set cs) (pair_of c)) (is_ruled_out ps complete single (pair_of c)) h in
    let incomplete : is_named (pair_of c).name complete ≡ false = first_false _ _ neither.1 in
    let at = partial.left_open listed cs complete c
    (ap (λ l. told_by l (is_named (pair_of c).name complete)) neither.0 ∙ ap (told_by false) incomplete) in
    let split : (q : Pair) → contains (fact_set more) q ≡ true → Contains ps q ⊎ (pair_of c ≡ q) =
    λ q inside. Contains-push_cases ps (pair_of c) q
    (subst (λ xs. Contains xs q) (map_push pair_of cs c) ((listed more q).0 inside)) in
    let one : HasOneValue (fact_set cs) single (fact_set more) =
    λ p q h some e in_p in_q. elim (split p in_p) [
      | inl old_p ↦ elim (split q in_q) [
        | inl old_q ↦ inr ((listed cs p).1 old_p, (listed cs q).1 old_q)
        | inr new_q ↦ absurd (none_listed cs complete single (pair_of c) p neither.1
            (ap (is_single single) new_q ∙ single_too single p q h some e) old_p
            (both (is_named p.name single) (is_some p.value) h).1 (e ∙ sym (ap (λ (x : Pair). x.name) new_q)))
      ]
      | inr new_p ↦ elim (split q in_q) [
        | inl old_q ↦ absurd (none_listed cs complete single (pair_of c) q neither.1
            (ap (is_single single) new_p ∙ h) old_q some (sym e ∙ sym (ap (λ (x : Pair). x.name) new_p)))
        | inr new_q ↦ inl (sym new_p ∙ new_q)
      ]
    ] in
    record {
      may_be = record { partly_known = at.may_be; one_value = one };
      is_in = at.is_in;
      need_not_be = one_valued_possible (fact_set cs) complete single;
      is_out = at.is_out;
    }

-- what is ruled out stays ruled out
kept_out : (cs ds : List CfgValue) (complete names single keys : List (List ℕ)) (p : Pair)
    → IsOneValued (fact_set cs) complete single (fact_set ds) → KeepsNames complete names → KeepsNames single keys
    → is_ruled_out (map pair_of cs) complete single p ≡ true → is_ruled_out (map pair_of ds) names keys p ≡ true
kept_out cs ds complete names single keys p is keeps stays out =
    either (is_ruled_out (map pair_of ds) names keys p ≡ true) (is_named p.name complete)
    (is_single single p && has_value p.name (map pair_of cs)) out
    (λ named. first_true (is_named p.name names) _ (keeps p.name named))
    (λ value. let two = both (is_single single p) (has_value p.name (map pair_of cs)) value in
    let key = both (is_named p.name single) (is_some p.value) two.0 in
    let q = value_found p.name (map pair_of cs) two.1 in
    let there = (listed ds q.0).0 (is.partly_known.has q.0 ((listed cs q.0).1 q.1)) in
    second_true (is_named p.name names) _
    (both_true (is_single keys p) (has_value p.name (map pair_of ds))
    (both_true (is_named p.name keys) (is_some p.value) (stays p.name key.0) key.1)
    (finds_value p.name (map pair_of ds) q.0 there q.2 q.3)))

pub one_valued_more : (cs ds : List CfgValue) (complete names single keys : List (List ℕ))
    → IsOneValued (fact_set cs) complete single (fact_set ds) → KeepsNames complete names → KeepsNames single keys
    → TellsMore (one_valued_told cs complete single) (one_valued_told ds names keys)
one_valued_more cs ds complete names single keys is keeps stays p b =
    more_by (contains (fact_set cs) p) (is_ruled_out (map pair_of cs) complete single p) (contains (fact_set ds) p)
    (is_ruled_out (map pair_of ds) names keys p) b (is.partly_known.has p)
    (ruled_out cs complete single (fact_set ds) p is)
    (kept_out cs ds complete names single keys p is keeps stays)

pub more_than_partial : (cs ds : List CfgValue) (complete names single : List (List ℕ))
    → IsPartlyKnown (fact_set cs) complete (fact_set ds) → KeepsNames complete names
    → TellsMore (partly_told (fact_set cs) complete) (one_valued_told ds names single)
more_than_partial cs ds complete names single is keeps p b =
    more_by (contains (fact_set cs) p) (is_named p.name complete) (contains (fact_set ds) p)
    (is_ruled_out (map pair_of ds) names single p) b (is.has p) (is.no_other p)
    (λ named. first_true (is_named p.name names) _ (keeps p.name named))
