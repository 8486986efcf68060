-- The categories of the names and pairs of a condition for rustc and Cargo.
use Rattle.std.specs.Prelude.{◌≢◌, ◌<◌, ℕ, Bool, true, false, ◌||◌, ◌&&◌, List, [], ◌∷◌, ◌++◌, map, flat_map, length}
use Rattle.std.specs.Prelude.{cond, codes}
use Rattle.std.specs.Prelude.{bytes_eq, nat_le, nat_eq}
use Rattle.std.specs.Str.{chars, str_eq_ignore_ascii_case}
use Rattle.std.specs.Char.{to_ascii_lowercase}
use Rattle.std.specs.Int.{abs_diff}
use Rattle.std.specs.List.{list_any, starts_with}
use Rattle.cargo_platform.specs.Trees.{CfgValue, Alone, KeyPair, value_of, Condition, Target, Expression}
use Rattle.cargo_platform.specs.Spelling.{name_in}
use Rattle.cargo_platform.specs.Warnings.{is_unsupported_name, condition_values}
use Rattle.partial_facts.specs.Partly.{is_named}
use Rattle.strsim.specs.Edits.{osa_table}
use Rattle.known_targets.specs.Rows.{plain}
use Rattle.known_targets.specs.Table.{table_keys, target_name}
use Rattle.known_targets.specs.declared.table.TheConstants.{COUNT}
use Rattle.known_targets.specs.Listed.{is_had}
use Rattle.manifests.specs.Declarations.{DeclaredEntry, is_declared}
use Rattle.predicate_classes.specs.declared.key_predicates.KeyPredicate.{KeyPredicate}
use Rattle.predicate_classes.specs.declared.key_predicates.TheConstants.{OPEN}
use Rattle.predicate_classes.specs.declared.rustc_names.TheConstants.{KEYS_WITH_VALUES, FLAG_DEPENDENT_KEYS}
use Rattle.predicate_classes.specs.declared.rustc_names.TheConstants.{NAMES_WITHOUT_VALUE}
use Rattle.predicate_classes.specs.declared.rustc_names.TheConstants.{KEYS_WITHOUT_PREFIX, PROFILE_WORDS, OTHER_WORDS}
use Rattle.predicate_classes.specs.declared.rustc_names.TheConstants.{UNSTABLE_NAMES, UNSTABLE_KEYS, PANIC_VALUES}
use Rattle.predicate_classes.specs.declared.target_features.TheConstants.{TARGET_FEATURES}
use Rattle.predicate_classes.specs.declared.classes.Category.{Category}
use Rattle.predicate_classes.specs.declared.classes.Category.TheVariants as category
use Rattle.predicate_classes.specs.declared.classes.TheConstants.{NAMED_BY_VALUE, SHORTEST}
use Rattle.predicate_classes.specs.declared.classes.Class.{Class}
use Rattle.predicate_classes.specs.declared.classes.Class.TheVariants as class

-- rustc's keys and names
abbrev pub valued : List (List ℕ)
valued = map (λ w. w.now) KEYS_WITH_VALUES

abbrev pub flagged : List (List ℕ)
flagged = map (λ w. w.now) FLAG_DEPENDENT_KEYS

abbrev pub plain_names : List (List ℕ)
plain_names = map (λ w. w.now) NAMES_WITHOUT_VALUE

-- the names, and the keys of pairs, that only unstable features of rustc set
abbrev pub unstable_names : List (List ℕ)
unstable_names = map (λ w. w.now) UNSTABLE_NAMES

abbrev pub unstable_keys : List (List ℕ)
unstable_keys = map (λ w. w.now) UNSTABLE_KEYS

abbrev pub named_by_value : List (List ℕ)
named_by_value = map (λ w. w.now) NAMED_BY_VALUE

-- the features that rustc has for some architecture
unfoldable pub target_features : List (List ℕ)
target_features = map (λ w. w.now) TARGET_FEATURES

-- the values of `panic`
abbrev pub panics : List (List ℕ)
panics = map (λ w. w.now) PANIC_VALUES

-- some known target has the text, in lower case, as a value of the key
abbrev pub has_as_value : List ℕ → List ℕ → Bool
has_as_value text key = is_had table_keys (KeyPair (plain key) (map to_ascii_lowercase text))

-- the number of edits from one text to the other: a character is inserted, deleted or changed, or two adjacent ones are
-- swapped
abbrev pub edits : List ℕ → List ℕ → ℕ
edits text word = (osa_table (chars text) (chars word)).last_row (length (chars word))

-- the word differs at most in the case of ASCII letters; or it is one edit away, and the lengths in bytes differ by at
-- most one
abbrev pub is_one_edit_from : List ℕ → List ℕ → Bool
is_one_edit_from text word =
    str_eq_ignore_ascii_case text word
    || (nat_le (abs_diff (length word) (length text)) 1 && nat_eq (edits text word) 1)

-- one of rustc's names or keys is one edit away
abbrev pub is_near_one : List ℕ → Bool
is_near_one name =
    list_any (is_one_edit_from name) plain_names
    || (list_any (is_one_edit_from name) flagged || list_any (is_one_edit_from name) valued)

-- a name that begins as rustc's keys do; and the same whatever the case of ASCII letters
abbrev pub starts_like_key : List ℕ → Bool
starts_like_key name = starts_with nat_eq name (codes "target_")

abbrev pub is_like_key : List ℕ → Bool
is_like_key name = starts_like_key (map to_ascii_lowercase name)

-- a name that is not too short, and one edit away from one of rustc's names or keys, or like its keys
unfoldable pub is_near : List ℕ → Bool
is_near name = nat_le SHORTEST (length name) && (is_near_one name || is_like_key name)

-- a key without `target_`, a setting of a profile, or another word for a fact of rustc's
abbrev pub is_word_for_rustcs : List ℕ → Bool
is_word_for_rustcs name = is_named name (map (λ w. w.now) KEYS_WITHOUT_PREFIX)
    || (is_named name (map (λ w. w.now) PROFILE_WORDS) || is_named name (map (λ w. w.now) OTHER_WORDS))

-- the same whatever the case of ASCII letters
abbrev pub is_taken_for_rustcs : List ℕ → Bool
is_taken_for_rustcs name = is_word_for_rustcs (map to_ascii_lowercase name)

-- the category of a name or key that rustc does not have
abbrev pub category_of_other : List ℕ → Category
category_of_other name = cond (is_taken_for_rustcs name) category.Mistaken
    (cond (is_near name) category.Mistaken category.Custom)

-- the category of a value of `target_feature`
abbrev pub category_of_feature : List ℕ → Category
category_of_feature value = cond (is_named value target_features) category.Rustcs category.Mistaken

-- the category of a value of `panic`
abbrev pub category_of_panic : List ℕ → Category
category_of_panic value = cond (is_named value panics) category.Rustcs category.Mistaken

-- the category of a pair with this key and value, by whether some known target has it
abbrev pub category_of_pair : List ℕ → List ℕ → Bool → Category
category_of_pair key value had =
    cond (bytes_eq key (codes "feature")) category.Unsupported
    (cond (bytes_eq key (codes "target_feature")) (category_of_feature value)
    (cond (is_named key flagged) (category_of_panic value)
    (cond (is_named key valued) (cond had category.Rustcs category.Mistaken)
    (cond (is_named key plain_names) category.Mistaken
    (cond (bytes_eq key (codes "target")) category.Mistaken
    (cond (is_named key unstable_keys) category.Custom (category_of_other key)))))))

-- the category of a name or pair, whatever is declared
abbrev pub category_of : CfgValue → Category
category_of (Alone n) =
    cond (is_unsupported_name n) category.Unsupported
    (cond (is_named n.name plain_names) category.Rustcs
    (cond (is_named n.name unstable_names) category.Custom
    (cond (is_named n.name valued) category.Mistaken
    (cond (is_named n.name flagged) category.Custom
    (cond (list_any (has_as_value n.name) named_by_value) category.Mistaken (category_of_other n.name))))))
category_of (KeyPair k v) = category_of_pair k.name v (is_had table_keys (KeyPair k v))

-- the category, given whether the name or pair is declared
abbrev pub with_declaration : Bool → Category → Category
with_declaration declared category.Rustcs = category.Rustcs
with_declaration declared category.Unsupported = category.Unsupported
with_declaration declared category.Mistaken = cond declared category.Declared category.Mistaken
with_declaration declared category.Custom = cond declared category.Declared category.Custom
with_declaration declared category.Declared = category.Declared

abbrev pub category_in : Class → Category
category_in class.Rustc = category.Rustcs
category_in class.Unsupported = category.Unsupported
category_in (class.ValueAsName key) = category.Mistaken
category_in class.NoValue = category.Mistaken
category_in class.WithValue = category.Mistaken
category_in class.OtherValue = category.Mistaken
category_in class.TargetKey = category.Mistaken
category_in class.Shortened = category.Mistaken
category_in class.OfProfile = category.Mistaken
category_in class.OtherWord = category.Mistaken
category_in (class.Near word) = category.Mistaken
category_in class.LikeKey = category.Mistaken
category_in class.Unstable = category.Custom
category_in class.Custom = category.Custom
category_in class.Declared = category.Declared

abbrev pub is_category : Category → Category → Bool
is_category category.Rustcs category.Rustcs = true
is_category category.Unsupported category.Unsupported = true
is_category category.Mistaken category.Mistaken = true
is_category category.Custom category.Custom = true
is_category category.Declared category.Declared = true
is_category _ _ = false

-- true if facts of this category are open: those that Cargo warns about, those that only `--cfg` or an unstable feature
-- sets, and declared ones
abbrev pub is_open_category : Category → Bool
is_open_category category.Rustcs = false
is_open_category category.Unsupported = true
is_open_category category.Mistaken = false
is_open_category category.Custom = true
is_open_category category.Declared = true

-- ---- the names and pairs of a condition, each with its category

abbrev pub Classified : Type 0
Classified = CfgValue × Category

-- given the declarations
abbrev pub classified_with_declarations : List DeclaredEntry → CfgValue → Classified
classified_with_declarations ds c = (c, with_declaration (is_declared ds c) (category_of c))

abbrev pub classified_of : KeyPredicate → Classified
classified_of f = (value_of f.fact.now, category_in f.class)

abbrev pub classified_by : List KeyPredicate → List Classified
classified_by fs = map classified_of fs

abbrev pub classified_in : List DeclaredEntry → Condition → List Classified
classified_in ds c = map (classified_with_declarations ds) (condition_values c)

-- one of them is of the category
abbrev pub has_category : Category → List Classified → Bool
has_category s fs = list_any (λ f. is_category f.1 s) fs

-- ---- the open names and keys of a condition

abbrev pub flag_names : List (List ℕ)
flag_names = map (λ w. w.now) OPEN

-- the name or key of a fact that is open
abbrev pub opened_by : Classified → List (List ℕ)
opened_by f = cond (is_open_category f.1) ((name_in f.0).name ∷ []) []

-- the open names and keys: those of flags, those that Cargo warns about, and those that only `--cfg` or an unstable
-- feature sets
abbrev pub open_in : List Classified → List (List ℕ)
open_in fs = flag_names ++ flat_map opened_by fs

-- ---- a condition that is a name

-- a name that no known target has
abbrev pub IsUnknownTarget : Condition → Type 0
IsUnknownTarget (Target name) = (k : ℕ) → k < COUNT → target_name k ≢ name
IsUnknownTarget (Expression e) = ⊥
