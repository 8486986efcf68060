-- The category of a name or pair is that of its rules.
use Rattle.std.proofs.Common.{◌≡◌, ◌≢◌, ◌∙◌, ◌⊎◌, inl, inr, refl, sym, ap, subst, ℕ, ◌||◌, Bool, true, false, not}
use Rattle.std.proofs.Common.{List, [], ◌∷◌}
use Rattle.std.specs.Prelude.{cond, codes, bytes_eq, if◌then◌else◌}
use Rattle.std.specs.List.{list_any}
use Rattle.std.proofs.lemmas.Slice.Eq.{bytes_eq-Decides}
use Rattle.cargo_platform.specs.Trees.{Name, CfgValue, Alone, KeyPair}
use Rattle.cargo_platform.specs.Warnings.{is_unsupported_name, attribute_warning, unsupported_name, unsupported_feature}
use Rattle.partial_facts.specs.Partly.{is_named}
use Rattle.known_targets.specs.Rows.{plain}
use Rattle.known_targets.specs.Table.{table_keys}
use Rattle.known_targets.specs.Listed.{is_had}
use Rattle.predicate_classes.specs.Classes.{valued, flagged, plain_names, unstable_names, unstable_keys}
use Rattle.predicate_classes.specs.Classes.{named_by_value, has_as_value, target_features, is_near}
use Rattle.predicate_classes.specs.Classes.{is_taken_for_rustcs, category_of, category_of_pair, category_of_other}
use Rattle.predicate_classes.specs.Classes.{category_of_feature, category_of_panic, panics}
use Rattle.predicate_classes.specs.Rules.{IsOf, warned, family, unstable_name, without_value, flag_alone}
use Rattle.predicate_classes.specs.Rules.{mistaken_name, custom_name, had, not_had, panic, no_panic, feature}
use Rattle.predicate_classes.specs.Rules.{no_feature, with_value, target_key, unstable_key}
use Rattle.predicate_classes.specs.Rules.{mistaken_key, custom_key}
use Rattle.predicate_classes.specs.Rules.{families, is_known_name, is_known_key, is_value, is_mistakable}
use Rattle.predicate_classes.specs.Rules.{HasCategoryOfRules, IsSettled, StaysOrIsDeclared, StaysRustcsOrCargos}
use Rattle.predicate_classes.specs.declared.classes.Category.{Category}
use Rattle.predicate_classes.specs.declared.classes.Category.TheVariants as category

-- ---- tests

pub or_true : (a b : Bool) → (a || b) ≡ true → (a ≡ true) ⊎ (b ≡ true)
or_true true b h = inl refl
or_true false b h = inr h

none_of : (a b : Bool) → (a || b) ≡ false → (a ≡ false) × (b ≡ false)
none_of true b h = absurd cc
none_of false b h = (refl, h)

pub neither : (a b : Bool) → a ≡ false → b ≡ false → (a || b) ≡ false
neither true b h g = absurd cc
neither false b h g = g

left : (a b : Bool) → a ≡ true → (a || b) ≡ true
left true b h = refl
left false b h = absurd cc

right : (a b : Bool) → b ≡ true → (a || b) ≡ true
right true b h = refl
right false b h = h

not_false : (a : Bool) → not a ≡ false → a ≡ true
not_false true h = refl
not_false false h = absurd cc

pub takes : (b : Bool) (x y : Category) → b ≡ true → cond b x y ≡ x
takes true x y h = refl
takes false x y h = absurd cc

pub skips : (b : Bool) (x y z : Category) → b ≡ false → y ≡ z → cond b x y ≡ z
skips true x y z h e = absurd cc
skips false x y z h e = e

branch : (P : Category → Type 0) (b : Bool) (x y : Category) → (b ≡ true → P x) → (b ≡ false → P y) → P (cond b x y)
branch P true x y f g = f refl
branch P false x y f g = g refl

-- ---- lists that have no name in common

one_apart : (test : List ℕ → Bool) (name n : List ℕ) → test n ≡ false → bytes_eq name n ≡ true → test name ≡ false
one_apart test name n lacks is = ap test ((bytes_eq-Decides name n).0 is) ∙ lacks

apart : (test : List ℕ → Bool) (name : List ℕ) (names : List (List ℕ)) → list_any test names ≡ false
    → is_named name names ≡ true → test name ≡ false
apart test name [] lacks h = absurd cc
apart test name (n ∷ ns) lacks h =
    let nos = none_of (test n) (list_any test ns) lacks in
    elim (or_true (bytes_eq name n) (is_named name ns) h) [
      | inl is ↦ one_apart test name n nos.0 is
      | inr more ↦ apart test name ns nos.1 more
    ]

-- ---- what Cargo warns of

warned_if : (b : Bool) (text : List ℕ) → b ≡ true → (if b then text ∷ [] else []) ≢ []
warned_if true text h e = cc
warned_if false text h e = absurd cc

if_warned : (b : Bool) (text : List ℕ) → (if b then text ∷ [] else []) ≢ [] → b ≡ true
if_warned true text h = refl
if_warned false text h = absurd (h refl)

-- ---- each has the category of a rule

other : (P : Category → Type 0) (name : List ℕ) → (is_mistakable name ≡ true → P category.Mistaken)
    → (is_mistakable name ≡ false → P category.Custom) → P (category_of_other name)
other P name mistaken custom =
    branch P (is_taken_for_rustcs name) _ _ (λ t. mistaken (left (is_taken_for_rustcs name) (is_near name) t)) (λ t.
    branch P (is_near name) _ _ (λ e. mistaken (right (is_taken_for_rustcs name) (is_near name) e)) (λ e.
    custom (neither (is_taken_for_rustcs name) (is_near name) t e)))

-- a name of no value that Cargo does not warn of
its_family : (test debug macro unix : Bool) → ((test || debug) || macro) ≡ false → (debug || unix) ≡ true → unix ≡ true
its_family false false false unix h g = g
its_family true debug macro unix h g = absurd cc
its_family false true macro unix h g = absurd cc
its_family false false true unix h g = absurd cc

name_classified : (n : Name) → IsOf (Alone n) (category_of (Alone n))
name_classified n =
    branch (IsOf (Alone n)) (is_unsupported_name n) _ _
    (λ u. warned (Alone n) (warned_if (is_unsupported_name n) (unsupported_name n) u)) (λ u.
    branch (IsOf (Alone n)) (is_named n.name plain_names) _ _
    (λ p. family n (its_family (bytes_eq n.name (codes "test")) (bytes_eq n.name (codes "debug_assertions"))
    (bytes_eq n.name (codes "proc_macro")) (is_named n.name families) u p)) (λ p.
    branch (IsOf (Alone n)) (is_named n.name unstable_names) _ _ (λ s. unstable_name n s) (λ s.
    branch (IsOf (Alone n)) (is_named n.name valued) _ _ (λ v. without_value n v s) (λ v.
    branch (IsOf (Alone n)) (is_named n.name flagged) _ _ (λ f. flag_alone n f) (λ f.
    let unknown : is_known_name n ≡ false =
    neither (is_unsupported_name n) _ u (neither (is_named n.name plain_names) _ p
    (neither (is_named n.name unstable_names) _ s (neither (is_named n.name valued) _ v f))) in
    branch (IsOf (Alone n)) (list_any (has_as_value n.name) named_by_value) _ _
    (λ h. mistaken_name n unknown (left (is_value n.name) (is_mistakable n.name) h)) (λ h.
    other (IsOf (Alone n)) n.name
    (λ m. mistaken_name n unknown (right (is_value n.name) (is_mistakable n.name) m))
    (λ m. custom_name n unknown (neither (is_value n.name) (is_mistakable n.name) h m))))))))

-- the key of which flags change the values, other than `target_feature`
its_panic : (key : List ℕ) → is_named key flagged ≡ true → bytes_eq key (codes "target_feature") ≡ false
    → key ≡ codes "panic"
its_panic key h lacks =
    elim (or_true (bytes_eq key (codes "panic")) (bytes_eq key (codes "target_feature") || false) h) [
      | inl is ↦ (bytes_eq-Decides key (codes "panic")).0 is
      | inr is ↦ absurd (cc (is, ap (λ b. b || false) lacks))
    ]

pair_classified : (k : Name) (v : List ℕ) → IsOf (KeyPair k v) (category_of (KeyPair k v))
pair_classified k v =
    branch (IsOf (KeyPair k v)) (bytes_eq k.name (codes "feature")) _ _
    (λ f. warned (KeyPair k v) (warned_if (bytes_eq k.name (codes "feature")) unsupported_feature f)) (λ f.
    branch (IsOf (KeyPair k v)) (bytes_eq k.name (codes "target_feature")) _ _ (λ t.
    let is = (bytes_eq-Decides k.name (codes "target_feature")).0 t in
    branch (IsOf (KeyPair k v)) (is_named v target_features) _ _ (feature k v is) (no_feature k v is)) (λ t.
    branch (IsOf (KeyPair k v)) (is_named k.name flagged) _ _ (λ g.
    let is = its_panic k.name g t in
    branch (IsOf (KeyPair k v)) (is_named v panics) _ _ (panic k v is) (no_panic k v is)) (λ g.
    branch (IsOf (KeyPair k v)) (is_named k.name valued) _ _ (λ w.
    branch (IsOf (KeyPair k v)) (is_had table_keys (KeyPair k v)) _ _ (had k v w) (not_had k v w)) (λ w.
    branch (IsOf (KeyPair k v)) (is_named k.name plain_names) _ _ (with_value k v) (λ p.
    branch (IsOf (KeyPair k v)) (bytes_eq k.name (codes "target")) _ _
    (λ a. target_key k v ((bytes_eq-Decides k.name (codes "target")).0 a)) (λ a.
    branch (IsOf (KeyPair k v)) (is_named k.name unstable_keys) _ _ (unstable_key k v) (λ s.
    let unknown : is_known_key k.name ≡ false = neither (bytes_eq k.name (codes "feature")) _ f
    (neither (is_named k.name flagged) _ g (neither (is_named k.name valued) _ w
    (neither (is_named k.name plain_names) _ p
    (neither (bytes_eq k.name (codes "target")) _ a s)))) in
    other (IsOf (KeyPair k v)) k.name (mistaken_key k v unknown) (custom_key k v unknown))))))))

sorted : (c : CfgValue) → IsOf c (category_of c)
sorted (Alone n) = name_classified n
sorted (KeyPair k v) = pair_classified k v

-- ---- each rule gives its category

warned_category : (c : CfgValue) → attribute_warning c ≢ [] → category_of c ≡ category.Unsupported
warned_category (Alone n) h = takes (is_unsupported_name n) _ _
    (if_warned (is_unsupported_name n) (unsupported_name n) h)
warned_category (KeyPair k v) h =
    takes (bytes_eq k.name (codes "feature")) _ _ (if_warned (bytes_eq k.name (codes "feature")) unsupported_feature h)

module _ (n : Name) where
  not_warned : (names : List (List ℕ)) → list_any (λ w. is_unsupported_name (plain w)) names ≡ false
      → is_named n.name names ≡ true → is_unsupported_name n ≡ false
  not_warned names lacks h = apart (λ w. is_unsupported_name (plain w)) n.name names lacks h

  not_among : (others names : List (List ℕ)) → list_any (λ w. is_named w others) names ≡ false
      → is_named n.name names ≡ true → is_named n.name others ≡ false
  not_among others names lacks h = apart (λ w. is_named w others) n.name names lacks h

  family_category : is_named n.name families ≡ true → category_of (Alone n) ≡ category.Rustcs
  family_category h =
      skips (is_unsupported_name n) _ _ _ (not_warned families refl h)
      (takes (is_named n.name plain_names) _ _
      (not_false _ (apart (λ w. not (is_named w plain_names)) n.name families refl h)))

  unstable_category : is_named n.name unstable_names ≡ true → category_of (Alone n) ≡ category.Custom
  unstable_category h =
      skips (is_unsupported_name n) _ _ _ (not_warned unstable_names refl h)
      (skips (is_named n.name plain_names) _ _ _ (not_among plain_names unstable_names refl h)
      (takes (is_named n.name unstable_names) _ _ h))

  valued_category : is_named n.name valued ≡ true → is_named n.name unstable_names ≡ false
      → category_of (Alone n) ≡ category.Mistaken
  valued_category h stable =
      skips (is_unsupported_name n) _ _ _ (not_warned valued refl h)
      (skips (is_named n.name plain_names) _ _ _ (not_among plain_names valued refl h)
      (skips (is_named n.name unstable_names) _ _ _ stable (takes (is_named n.name valued) _ _ h)))

  flagged_category : is_named n.name flagged ≡ true → category_of (Alone n) ≡ category.Custom
  flagged_category h =
      skips (is_unsupported_name n) _ _ _ (not_warned flagged refl h)
      (skips (is_named n.name plain_names) _ _ _ (not_among plain_names flagged refl h)
      (skips (is_named n.name unstable_names) _ _ _ (not_among unstable_names flagged refl h)
      (skips (is_named n.name valued) _ _ _ (not_among valued flagged refl h)
      (takes (is_named n.name flagged) _ _ h))))

  unknown_category : is_known_name n ≡ false
      → category_of (Alone n) ≡ cond (is_value n.name) category.Mistaken (category_of_other n.name)
  unknown_category h =
      let u = none_of (is_unsupported_name n) _ h in
      let p = none_of (is_named n.name plain_names) _ u.1 in
      let s = none_of (is_named n.name unstable_names) _ p.1 in
      let v = none_of (is_named n.name valued) (is_named n.name flagged) s.1 in
      skips (is_unsupported_name n) _ _ _ u.0
      (skips (is_named n.name plain_names) _ _ _ p.0
      (skips (is_named n.name unstable_names) _ _ _ s.0
      (skips (is_named n.name valued) _ _ _ v.0
      (skips (is_named n.name flagged) _ _ _ v.1 refl))))

mistaken_other : (name : List ℕ) → is_mistakable name ≡ true → category_of_other name ≡ category.Mistaken
mistaken_other name h =
    elim (is_taken_for_rustcs name) as (λ b. (b || is_near name) ≡ true
    → cond b category.Mistaken (cond (is_near name) category.Mistaken category.Custom) ≡ category.Mistaken) [
      | true ↦ λ g. refl
      | false ↦ λ g. takes (is_near name) _ _ g
    ] h

custom_other : (name : List ℕ) → is_mistakable name ≡ false → category_of_other name ≡ category.Custom
custom_other name h =
    let nos = none_of (is_taken_for_rustcs name) (is_near name) h in
    skips (is_taken_for_rustcs name) _ _ _ nos.0 (skips (is_near name) _ _ _ nos.1 refl)

mistaken_or : (value mistakable : Bool) (o : Category) → (mistakable ≡ true → o ≡ category.Mistaken)
    → (value || mistakable) ≡ true → cond value category.Mistaken o ≡ category.Mistaken
mistaken_or true mistakable o f h = refl
mistaken_or false mistakable o f h = f h

module _ (key value : List ℕ) (has : Bool) where
  none_among : (others names : List (List ℕ)) → list_any (λ w. is_named w others) names ≡ false
      → is_named key names ≡ true → is_named key others ≡ false
  none_among others names lacks h = apart (λ w. is_named w others) key names lacks h

  not_word : (word : List ℕ) (names : List (List ℕ)) → list_any (λ w. bytes_eq w word) names ≡ false
      → is_named key names ≡ true → bytes_eq key word ≡ false
  not_word word names lacks h = apart (λ w. bytes_eq w word) key names lacks h

  pub pair_valued : is_named key valued ≡ true
      → category_of_pair key value has ≡ cond has category.Rustcs category.Mistaken
  pair_valued h =
      skips (bytes_eq key (codes "feature")) _ _ _ (not_word (codes "feature") valued refl h)
      (skips (bytes_eq key (codes "target_feature")) _ _ _ (not_word (codes "target_feature") valued refl h)
      (skips (is_named key flagged) _ _ _ (none_among flagged valued refl h) (takes (is_named key valued) _ _ h)))

  pub pair_panic : key ≡ codes "panic" → category_of_pair key value has ≡ category_of_panic value
  pair_panic e = subst (λ (w : List ℕ). category_of_pair w value has ≡ category_of_panic value) (sym e) refl

  pub pair_feature : key ≡ codes "target_feature" → category_of_pair key value has ≡ category_of_feature value
  pair_feature e = subst (λ (w : List ℕ). category_of_pair w value has ≡ category_of_feature value) (sym e) refl

  pair_plain : is_named key plain_names ≡ true → category_of_pair key value has ≡ category.Mistaken
  pair_plain h =
      skips (bytes_eq key (codes "feature")) _ _ _ (not_word (codes "feature") plain_names refl h)
      (skips (bytes_eq key (codes "target_feature")) _ _ _ (not_word (codes "target_feature") plain_names refl h)
      (skips (is_named key flagged) _ _ _ (none_among flagged plain_names refl h)
      (skips (is_named key valued) _ _ _ (none_among valued plain_names refl h)
      (takes (is_named key plain_names) _ _ h))))

  pair_target : key ≡ codes "target" → category_of_pair key value has ≡ category.Mistaken
  pair_target e = subst (λ (w : List ℕ). category_of_pair w value has ≡ category.Mistaken) (sym e) refl

  pair_unstable : is_named key unstable_keys ≡ true → category_of_pair key value has ≡ category.Custom
  pair_unstable h =
      skips (bytes_eq key (codes "feature")) _ _ _ (not_word (codes "feature") unstable_keys refl h)
      (skips (bytes_eq key (codes "target_feature")) _ _ _ (not_word (codes "target_feature") unstable_keys refl h)
      (skips (is_named key flagged) _ _ _ (none_among flagged unstable_keys refl h)
      (skips (is_named key valued) _ _ _ (none_among valued unstable_keys refl h)
      (skips (is_named key plain_names) _ _ _ (none_among plain_names unstable_keys refl h)
      (skips (bytes_eq key (codes "target")) _ _ _ (not_word (codes "target") unstable_keys refl h)
      (takes (is_named key unstable_keys) _ _ h))))))

  not_flag : is_named key flagged ≡ false → bytes_eq key (codes "target_feature") ≡ false
  not_flag h =
      (none_of (bytes_eq key (codes "target_feature")) false (none_of (bytes_eq key (codes "panic")) _ h).1).0

  pair_unknown : is_known_key key ≡ false → category_of_pair key value has ≡ category_of_other key
  pair_unknown h =
      let f = none_of (bytes_eq key (codes "feature")) _ h in
      let g = none_of (is_named key flagged) _ f.1 in
      let w = none_of (is_named key valued) _ g.1 in
      let p = none_of (is_named key plain_names) _ w.1 in
      let a = none_of (bytes_eq key (codes "target")) (is_named key unstable_keys) p.1 in
      skips (bytes_eq key (codes "feature")) _ _ _ f.0
      (skips (bytes_eq key (codes "target_feature")) _ _ _ (not_flag g.0)
      (skips (is_named key flagged) _ _ _ g.0
      (skips (is_named key valued) _ _ _ w.0
      (skips (is_named key plain_names) _ _ _ p.0
      (skips (bytes_eq key (codes "target")) _ _ _ a.0
      (skips (is_named key unstable_keys) _ _ _ a.1 refl))))))

told : (c : CfgValue) (s : Category) → IsOf c s → category_of c ≡ s
told _ _ (warned c h) = warned_category c h
told _ _ (family n h) = family_category n h
told _ _ (unstable_name n h) = unstable_category n h
told _ _ (without_value n h stable) = valued_category n h stable
told _ _ (flag_alone n h) = flagged_category n h
told _ _ (mistaken_name n unknown h) =
    unknown_category n unknown
    ∙ mistaken_or (is_value n.name) (is_mistakable n.name) (category_of_other n.name) (mistaken_other n.name) h
told _ _ (custom_name n unknown h) =
    let nos = none_of (is_value n.name) (is_mistakable n.name) h in
    unknown_category n unknown ∙ skips (is_value n.name) _ _ _ nos.0 (custom_other n.name nos.1)
told _ _ (had k v h has) = pair_valued k.name v _ h ∙ takes (is_had table_keys (KeyPair k v)) _ _ has
told _ _ (not_had k v h none) = pair_valued k.name v _ h ∙ skips (is_had table_keys (KeyPair k v)) _ _ _ none refl
told _ _ (panic k v e h) = pair_panic k.name v _ e ∙ takes (is_named v panics) _ _ h
told _ _ (no_panic k v e h) = pair_panic k.name v _ e ∙ skips (is_named v panics) _ _ _ h refl
told _ _ (feature k v e h) = pair_feature k.name v _ e ∙ takes (is_named v target_features) _ _ h
told _ _ (no_feature k v e h) = pair_feature k.name v _ e ∙ skips (is_named v target_features) _ _ _ h refl
told _ _ (with_value k v h) = pair_plain k.name v _ h
told _ _ (target_key k v e) = pair_target k.name v _ e
told _ _ (unstable_key k v h) = pair_unstable k.name v _ h
told _ _ (mistaken_key k v unknown h) = pair_unknown k.name v _ unknown ∙ mistaken_other k.name h
told _ _ (custom_key k v unknown h) = pair_unknown k.name v _ unknown ∙ custom_other k.name h

pub has_category : (c : CfgValue) (s : Category) → HasCategoryOfRules c s
has_category c s = (λ e. subst (IsOf c) e (sorted c), told c s)

-- ---- beside what is declared

pub settled : (s : Category) → IsSettled s
settled category.Rustcs = (λ e. cc, λ e. cc)
settled category.Unsupported = (λ e. cc, λ e. cc)
settled category.Mistaken = (λ e. cc, λ e. cc)
settled category.Custom = (λ e. cc, λ e. cc)
settled category.Declared = (λ e. cc, λ e. cc)

pub stays : (declared : Bool) (s : Category) → StaysOrIsDeclared declared s
stays declared category.Rustcs = inl refl
stays declared category.Unsupported = inl refl
stays true category.Mistaken = inr (refl, refl)
stays false category.Mistaken = inl refl
stays true category.Custom = inr (refl, refl)
stays false category.Custom = inl refl
stays declared category.Declared = inl refl

pub of_others : (declared : Bool) → StaysRustcsOrCargos declared
of_others declared = (refl, refl)
