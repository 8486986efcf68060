-- The categories of names and pairs for rustc and Cargo, by rules of which none takes precedence over another.
use Rattle.std.specs.Prelude.{◌≡◌, ◌≢◌, ◌↔◌, ◌⊎◌, ℕ, Bool, true, ◌||◌, List, [], ◌∷◌, codes, bytes_eq, IsTrue}
use Rattle.std.specs.Prelude.{IsFalse}
use Rattle.std.specs.List.{list_any}
use Rattle.cargo_platform.specs.Trees.{Name, CfgValue, Alone, KeyPair}
use Rattle.cargo_platform.specs.Warnings.{is_unsupported_name, attribute_warning}
use Rattle.partial_facts.specs.Partly.{is_named}
use Rattle.known_targets.specs.Table.{table_keys}
use Rattle.known_targets.specs.Listed.{is_had}
use Rattle.predicate_classes.specs.Classes.{valued, flagged, plain_names, unstable_names, unstable_keys}
use Rattle.predicate_classes.specs.Classes.{named_by_value, has_as_value, target_features, panics, is_near}
use Rattle.predicate_classes.specs.Classes.{is_taken_for_rustcs, category_of, with_declaration}
use Rattle.predicate_classes.specs.declared.classes.Category.{Category}
use Rattle.predicate_classes.specs.declared.classes.Category.TheVariants as category

-- the names that rustc sets by the family of a target
abbrev pub families : List (List ℕ)
families = codes "unix" ∷ codes "windows" ∷ []

-- Cargo warns about the name, rustc sets it, or it is a key of rustc's
abbrev pub is_known_name : Name → Bool
is_known_name n =
    is_unsupported_name n || (is_named n.name plain_names || (is_named n.name unstable_names
    || (is_named n.name valued || is_named n.name flagged)))

-- Cargo warns about the key, rustc sets it, it is a name that rustc sets without a value, or the word `target`
abbrev pub is_known_key : List ℕ → Bool
is_known_key key =
    bytes_eq key (codes "feature") || (is_named key flagged || (is_named key valued || (is_named key plain_names
    || (bytes_eq key (codes "target") || is_named key unstable_keys))))

-- some known target has one of the keys with this value
abbrev pub is_value : List ℕ → Bool
is_value text = list_any (has_as_value text) named_by_value

-- people take it for a name or key of rustc's
abbrev pub is_mistakable : List ℕ → Bool
is_mistakable name = is_taken_for_rustcs name || is_near name

-- the categories of names and pairs
pub data IsOf : CfgValue → Category → Type 0 where
  -- Cargo warns about it
  warned : (c : CfgValue) → attribute_warning c ≢ [] → IsOf c category.Unsupported
  -- ---- names
  -- `unix` and `windows`
  family : (n : Name) → IsTrue (is_named n.name families) → IsOf (Alone n) category.Rustcs
  -- only an unstable feature sets the name
  unstable_name : (n : Name) → IsTrue (is_named n.name unstable_names) → IsOf (Alone n) category.Custom
  -- a key that rustc sets with a value, and that no unstable feature sets without one
  without_value : (n : Name) → IsTrue (is_named n.name valued) → IsFalse (is_named n.name unstable_names)
      → IsOf (Alone n) category.Mistaken
  -- a key whose values depend on flags
  flag_alone : (n : Name) → IsTrue (is_named n.name flagged) → IsOf (Alone n) category.Custom
  -- a name that is not known, but is a value of a key, or is taken for a name or key
  mistaken_name : (n : Name) → IsFalse (is_known_name n) → IsTrue (is_value n.name || is_mistakable n.name)
      → IsOf (Alone n) category.Mistaken
  -- a name that is not known, and is not taken for anything
  custom_name : (n : Name) → IsFalse (is_known_name n) → IsFalse (is_value n.name || is_mistakable n.name)
      → IsOf (Alone n) category.Custom
  -- ---- pairs
  -- rustc sets the key with a value, and some known target has this value
  had : (k : Name) (v : List ℕ) → IsTrue (is_named k.name valued) → IsTrue (is_had table_keys (KeyPair k v))
      → IsOf (KeyPair k v) category.Rustcs
  -- rustc sets the key with a value, and no known target has this value
  not_had : (k : Name) (v : List ℕ) → IsTrue (is_named k.name valued) → IsFalse (is_had table_keys (KeyPair k v))
      → IsOf (KeyPair k v) category.Mistaken
  -- flags set `panic` to the value
  panic : (k : Name) (v : List ℕ) → k.name ≡ codes "panic" → IsTrue (is_named v panics)
      → IsOf (KeyPair k v) category.Rustcs
  -- no flag sets `panic` to the value
  no_panic : (k : Name) (v : List ℕ) → k.name ≡ codes "panic" → IsFalse (is_named v panics)
      → IsOf (KeyPair k v) category.Mistaken
  -- rustc has the feature for some architecture
  feature : (k : Name) (v : List ℕ) → k.name ≡ codes "target_feature" → IsTrue (is_named v target_features)
      → IsOf (KeyPair k v) category.Rustcs
  -- rustc has the feature for none
  no_feature : (k : Name) (v : List ℕ) → k.name ≡ codes "target_feature" → IsFalse (is_named v target_features)
      → IsOf (KeyPair k v) category.Mistaken
  -- a name that rustc sets without a value
  with_value : (k : Name) (v : List ℕ) → IsTrue (is_named k.name plain_names) → IsOf (KeyPair k v) category.Mistaken
  -- no target has a fact with this key
  target_key : (k : Name) (v : List ℕ) → k.name ≡ codes "target" → IsOf (KeyPair k v) category.Mistaken
  -- only an unstable feature sets the key
  unstable_key : (k : Name) (v : List ℕ) → IsTrue (is_named k.name unstable_keys) → IsOf (KeyPair k v) category.Custom
  -- a key that is not known, but is taken for a name or key of rustc's
  mistaken_key : (k : Name) (v : List ℕ) → IsFalse (is_known_key k.name) → IsTrue (is_mistakable k.name)
      → IsOf (KeyPair k v) category.Mistaken
  -- a key that is not known, and is not taken for anything
  custom_key : (k : Name) (v : List ℕ) → IsFalse (is_known_key k.name) → IsFalse (is_mistakable k.name)
      → IsOf (KeyPair k v) category.Custom

-- each name and pair has exactly the category of its rules
abbrev pub HasCategoryOfRules : CfgValue → Category → Type 0
HasCategoryOfRules c s = category_of c ≡ s ↔ IsOf c s

-- a fact that some known target has is rustc's, or Cargo warns about it
abbrev pub IsNoMistake : CfgValue → Type 0
IsNoMistake c = IsTrue (is_had table_keys c) → (category_of c ≡ category.Rustcs) ⊎
    (category_of c ≡ category.Unsupported)

-- ---- with declarations

-- a declared fact is neither mistaken nor custom
abbrev pub IsSettled : Category → Type 0
IsSettled s = with_declaration true s ≢ category.Mistaken × with_declaration true s ≢ category.Custom

-- the category stays, or there is a declaration and it becomes declared
abbrev pub StaysOrIsDeclared : Bool → Category → Type 0
StaysOrIsDeclared declared s = (with_declaration declared s ≡ s) ⊎
    (IsTrue declared × (with_declaration declared s ≡ category.Declared))

-- the categories of what rustc sets, and of what Cargo warns about, stay
abbrev pub StaysRustcsOrCargos : Bool → Type 0
StaysRustcsOrCargos declared =
    (with_declaration declared category.Rustcs ≡ category.Rustcs) ×
    (with_declaration declared category.Unsupported ≡ category.Unsupported)
