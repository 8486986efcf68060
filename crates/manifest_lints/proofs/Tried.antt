-- Sets of facts that are shown to be possible.
use Rattle.std.proofs.Common.{◌≡◌, ◌∙◌, refl, sym, ap, true, false, true≢false, not, ◌&&◌, ℕ, Bool}
use Rattle.std.proofs.Common.{List, [], map, length, ◌==◌, Option, Some, None, inl}
use Rattle.std.specs.Borrow.{Bor}
use Rattle.std.specs.FinSet.{contains, contains-from_list}
use Rattle.std.specs.Prelude.{bytes_eq, is_some, Contains}
use Rattle.std.specs.List.{list_any}
use Rattle.std.proofs.lemmas.List.Folds.{list_any_at}
use Rattle.std.proofs.lemmas.Slice.Eq.{bytes_eq-Decides}
use Rattle.std.proofs.lemmas.Bool.Decides.{Decides-eqb}
use Rattle.std.proofs.lemmas.List.{nil_from_length}
use Rattle.cargo_platform.specs.Trees.{tree_of, value_of, Condition}
use Rattle.cargo_platform.specs.Facts.{Pair, FactSet, fact_set, truth, truth_of_condition}
use Rattle.cargo_platform.proofs.FactSets.{pairs_total}
use Rattle.cargo_platform.specs.declared.cfg.Cfg.{Cfg}
use Rattle.cargo_platform.proofs.FactTruths.{listed, condition_truth}
use Rattle.partial_facts.specs.Partly.{is_named}
use Rattle.exact_answers.specs.declared.fact_constraints.FactConstraints.{FactConstraints}
use Rattle.exact_answers.specs.Possible.{HasOneValue, is_single, IsAllowed}
use Rattle.manifest_lints.specs.Doubled.{are_two, are_two_values, is_doubled_in, has_doubled, pairs_at}
use Rattle.manifest_lints.specs.Truths.{CanBe}

pub none_listed : (cs : List Cfg) (p : Pair) → cs ≡ [] → contains (fact_set (map value_of cs)) p ≡ false
none_listed cs p is =
    ap (λ ds. contains (fact_set (map value_of ds)) p) is ∙ contains-from_list pairs_total [] p

pub none_named : (name : List ℕ) (ns : List (Bor (List ℕ))) → ns ≡ [] → is_named name (map (λ t. t.now) ns) ≡ false
none_named name ns is = ap (λ ms. is_named name (map (λ t. t.now) ms)) is

-- two values that are not two are one
one_of : (u v : Option (List ℕ)) → is_some u ≡ true → is_some v ≡ true → are_two_values u v ≡ false → u ≡ v
one_of None v hu hv apart = absurd (true≢false (sym hu))
one_of (Some x) None hu hv apart = absurd (true≢false (sym hv))
one_of (Some x) (Some y) hu hv apart =
    elim (bytes_eq x y) as (λ b. bytes_eq x y ≡ b → not b ≡ false → Some x ≡ Some y) [
      | true ↦ λ e h. ap Some ((bytes_eq-Decides x y).0 e)
      | false ↦ λ e h. absurd (true≢false h)
    ] refl apart

both_true : (a b : Bool) → a ≡ true → b ≡ true → (a && b) ≡ true
both_true true b h k = k
both_true false b h k = absurd (true≢false (sym h))

second : (a b : Bool) → a ≡ true → (a && b) ≡ false → b ≡ false
second true b h k = k
second false b h k = absurd (true≢false (sym h))

right_true : (a b : Bool) → (a && b) ≡ true → b ≡ true
right_true true b h = h
right_true false b h = absurd (true≢false (sym h))

-- a test that fails at each member fails at one
pub fails_at : {X : Type 0} (p : X → Bool) (xs : List X) (x : X) → Contains xs x → list_any p xs ≡ false → p x ≡ false
fails_at p xs x (k, within, is) none =
    elim (p x) as (λ b. p x ≡ b → b ≡ false) [
      | true ↦ λ e. absurd (true≢false (sym (list_any_at p xs k x within (ap p is ∙ e)) ∙ none))
      | false ↦ λ e. refl
    ] refl

pub one_value : (listed_facts : FactSet) (single : List (List ℕ)) (cs : List Cfg)
    → has_doubled single (pairs_at cs) ≡ false → HasOneValue listed_facts single (fact_set (map value_of cs))
one_value listed_facts single cs none p q sp sq name inside also =
    let ps = pairs_at cs in
    let found_p = (listed (map value_of cs) p).0 inside in
    let found_q = (listed (map value_of cs) q).0 also in
    let no_double = fails_at (is_doubled_in single ps) ps p found_p none in
    let no_two =
    fails_at (are_two p) ps q found_q (second (is_single single p) (list_any (are_two p) ps) sp no_double) in
    let values : p.value ≡ q.value =
    one_of p.value q.value (right_true (is_named p.name single) (is_some p.value) sp) sq
    (second (bytes_eq p.name q.name) (are_two_values p.value q.value) ((bytes_eq-Decides p.name q.name).1 name) no_two)
    in inl (λ i. record { name = name i; value = values i })

empty_is : {X : Type 0} (xs : List X) → (length xs == 0) ≡ true → xs ≡ []
empty_is xs h = nil_from_length xs ((Decides-eqb (length xs) 0).0 h)

pub are_possible : (k : FactConstraints) (cs : List Cfg) → (length k.facts.now == 0) ≡ true
    → (length k.complete.now == 0) ≡ true → has_doubled (map (λ t. t.now) k.single.now) (pairs_at cs) ≡ false
    → truth (fact_set (map value_of cs)) (tree_of k.assumed.now) ≡ true → IsAllowed k (fact_set (map value_of cs))
are_possible k cs facts complete none assumed = record {
  partly_known = record {
    has = λ p h. absurd (true≢false (sym h ∙ none_listed k.facts.now p (empty_is k.facts.now facts)));
    no_other = λ p n h.
        absurd (true≢false (sym n ∙ none_named p.name k.complete.now (empty_is k.complete.now complete)));
  };
  one_value = one_value (fact_set (map value_of k.facts.now)) (map (λ t. t.now) k.single.now) cs none;
  assumed_true = assumed;
}

pub shown_to_be : (k : FactConstraints) (c : Condition) (s : FactSet) (b truth : Bool) → IsAllowed k s
    → b ≡ truth_of_condition [] s c → b ≡ truth → CanBe truth k c
shown_to_be k c s b true possible is h = ([], s, possible, (condition_truth [] s c).0 (sym is ∙ h))
shown_to_be k c s b false possible is h =
    ([], s, possible, λ t. absurd (true≢false (sym ((condition_truth [] s c).1 t) ∙ sym is ∙ h)))
