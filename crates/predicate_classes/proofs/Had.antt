-- What known targets have is rustc's, or Cargo warns of it.
use Rattle.std.proofs.Common.{◌≡◌, ◌∙◌, ◌⊎◌, inl, inr, refl, sym, ap, ℕ, ◌&&◌, ◌||◌, Bool, true, false, List, [], ◌∷◌}
use Rattle.std.specs.Prelude.{codes, bytes_eq}
use Rattle.std.specs.List.{list_all}
use Rattle.std.proofs.lemmas.Slice.Eq.{bytes_eq-Decides}
use Rattle.cargo_platform.specs.Trees.{Name, CfgValue, Alone, KeyPair}
use Rattle.cargo_platform.specs.Facts.{pair_of, fact_set}
use Rattle.cargo_platform.specs.Warnings.{is_unsupported_name}
use Rattle.std.specs.FinSet.{contains}
use Rattle.partial_facts.specs.Partly.{is_named}
use Rattle.known_targets.specs.Bits.{has}
use Rattle.known_targets.specs.Rows.{Values, Keys, facts_in, has_name, has_pair, has_value}
use Rattle.known_targets.specs.Table.{table_keys}
use Rattle.known_targets.specs.Listed.{is_had}
use Rattle.known_targets.specs.declared.table.TheConstants.{COUNT}
use Rattle.known_targets.proofs.Bits.{no_words, zeros, has_none}
use Rattle.known_targets.proofs.Found.{has_name-contains, has_pair-contains}
use Rattle.known_targets.proofs.Listed.{none_some}
use Rattle.predicate_classes.specs.Classes.{valued, plain_names, target_features, panics}
use Rattle.predicate_classes.specs.Classes.{category_of, category_of_pair}
use Rattle.predicate_classes.specs.Rules.{IsNoMistake}
use Rattle.predicate_classes.specs.declared.classes.Category.TheVariants as category
use Rattle.predicate_classes.proofs.Rules.{takes, skips, or_true, neither, pair_valued, pair_panic, pair_feature}

and_true : (a b : Bool) → (a && b) ≡ true → (a ≡ true) × (b ≡ true)
and_true true b h = (refl, h)
and_true false b h = absurd cc

both_false : (a b : Bool) → (a ≡ true → b ≡ false) → (a && b) ≡ false
both_false true b f = f refl
both_false false b f = refl

never : {A : Type 0} (b : Bool) → b ≡ true → b ≡ false → A
never b h g = absurd cc

by_test : (P : Type 0) (b : Bool) → (b ≡ true → P) → (b ≡ false → P) → P
by_test P true f g = f refl
by_test P false f g = g refl

-- ---- what the rows of the table hold

abbrev is_name_row : List ℕ × List ℕ × Values → Bool
is_name_row key = bytes_eq key.1 no_words || is_named key.0 plain_names

-- rustc sets the pair
abbrev is_pair : List ℕ → List ℕ → Bool
is_pair key value =
    is_named key valued || ((bytes_eq key (codes "panic") && is_named value panics)
    || (bytes_eq key (codes "target_feature") && is_named value target_features))

abbrev is_pair_row : List ℕ × List ℕ × Values → Bool
is_pair_row key = list_all (λ v. is_pair key.0 v.0) key.2

name_rows : list_all is_name_row table_keys ≡ true
unfolding table_keys
name_rows = refl

pair_rows : list_all is_pair_row table_keys ≡ true
unfolding table_keys target_features
pair_rows = refl

-- ---- a target has nothing else

module _ (k : ℕ) where
  no_name : (name : List ℕ) (keys : Keys) → list_all is_name_row keys ≡ true → is_named name plain_names ≡ false
      → has_name k name keys ≡ false
  no_name name [] rows other = refl
  no_name name (key ∷ keys) rows other =
      let parts = and_true (is_name_row key) (list_all is_name_row keys) rows in
      neither (bytes_eq name key.0 && has key.1 k) (has_name k name keys)
      (both_false (bytes_eq name key.0) (has key.1 k) (λ same.
      let its_name = (bytes_eq-Decides name key.0).0 same in
      elim (or_true (bytes_eq key.1 no_words) (is_named key.0 plain_names) parts.0) [
        | inl empty ↦
            ap (λ words. has words k) ((bytes_eq-Decides key.1 no_words).0 empty) ∙ has_none no_words zeros k
        | inr named ↦ never _ named (ap (λ w. is_named w plain_names) (sym its_name) ∙ other)
      ])) (no_name name keys parts.1 other)

  no_value : (key text : List ℕ) (values : Values) → list_all (λ v. is_pair key v.0) values ≡ true
      → is_pair key text ≡ false → has_value k text values ≡ false
  no_value key text [] rows other = refl
  no_value key text (v ∷ vs) rows other =
      let parts = and_true (is_pair key v.0) (list_all (λ w. is_pair key w.0) vs) rows in
      neither (bytes_eq text v.0 && has v.1 k) (has_value k text vs)
      (both_false (bytes_eq text v.0) (has v.1 k) (λ same.
      never _ parts.0 (ap (is_pair key) (sym ((bytes_eq-Decides text v.0).0 same)) ∙ other)))
      (no_value key text vs parts.1 other)

  no_pair : (name text : List ℕ) (keys : Keys) → list_all is_pair_row keys ≡ true → is_pair name text ≡ false
      → has_pair k name text keys ≡ false
  no_pair name text [] rows other = refl
  no_pair name text (key ∷ keys) rows other =
      let parts = and_true (is_pair_row key) (list_all is_pair_row keys) rows in
      neither (bytes_eq name key.0 && has_value k text key.2) (has_pair k name text keys)
      (both_false (bytes_eq name key.0) (has_value k text key.2) (λ same.
      no_value key.0 text key.2 parts.0
      (ap (λ w. is_pair w text) (sym ((bytes_eq-Decides name key.0).0 same)) ∙ other)))
      (no_pair name text keys parts.1 other)

name_had : (n : Name) → is_had table_keys (Alone n) ≡ true → is_named n.name plain_names ≡ true
name_had n h =
    by_test (is_named n.name plain_names ≡ true) (is_named n.name plain_names) (λ is. is) (λ other. never _ h
    (none_some COUNT (λ k. contains (fact_set (facts_in k table_keys)) (pair_of (Alone n))) (λ k below.
    sym (has_name-contains k n table_keys) ∙ no_name k n.name table_keys name_rows other)))

pair_had : (key : Name) (v : List ℕ) → is_had table_keys (KeyPair key v) ≡ true → is_pair key.name v ≡ true
pair_had key v h =
    by_test (is_pair key.name v ≡ true) (is_pair key.name v) (λ is. is) (λ other. never _ h
    (none_some COUNT (λ k. contains (fact_set (facts_in k table_keys)) (pair_of (KeyPair key v))) (λ k below.
    sym (has_pair-contains k key v table_keys) ∙ no_pair k key.name v table_keys pair_rows other)))

-- ---- so it is rustc's, or Cargo warns of it

its_name : (n : Name) → is_named n.name plain_names ≡ true
    → (category_of (Alone n) ≡ category.Rustcs) ⊎ (category_of (Alone n) ≡ category.Unsupported)
its_name n is =
    by_test ((category_of (Alone n) ≡ category.Rustcs) ⊎ (category_of (Alone n) ≡ category.Unsupported))
    (is_unsupported_name n)
    (λ u. inr (takes (is_unsupported_name n) _ _ u))
    (λ u. inl (skips (is_unsupported_name n) _ _ _ u (takes (is_named n.name plain_names) _ _ is)))

its_pair : (key value : List ℕ) (has : Bool) → has ≡ true → is_pair key value ≡ true
    → category_of_pair key value has ≡ category.Rustcs
its_pair key value has had is =
    elim (or_true (is_named key valued) _ is) [
      | inl v ↦ pair_valued key value has v ∙ takes has _ _ had
      | inr rest ↦ elim (or_true (bytes_eq key (codes "panic") && is_named value panics) _ rest) [
        | inl p ↦
            let parts = and_true (bytes_eq key (codes "panic")) (is_named value panics) p in
            pair_panic key value has ((bytes_eq-Decides key (codes "panic")).0 parts.0)
            ∙ takes (is_named value panics) _ _ parts.1
        | inr f ↦
            let parts = and_true (bytes_eq key (codes "target_feature")) (is_named value target_features) f in
            pair_feature key value has ((bytes_eq-Decides key (codes "target_feature")).0 parts.0)
            ∙ takes (is_named value target_features) _ _ parts.1
      ]
    ]

pub no_mistake : (c : CfgValue) → IsNoMistake c
no_mistake (Alone n) h = its_name n (name_had n h)
no_mistake (KeyPair k v) h = inl (its_pair k.name v (is_had table_keys (KeyPair k v)) h (pair_had k v h))
