-- The names and pairs in a key that are reported, and their texts.
use Rattle.std.specs.Prelude.{ℕ, Bool, true, false, not, ◌||◌, ◌&&◌, List, [], ◌∷◌, ◌++◌, codes, cond, bytes_eq}
use Rattle.std.specs.List.{filter}
use Rattle.cargo_platform.specs.Trees.{CfgValue, Alone, KeyPair, value_of}
use Rattle.cargo_platform.specs.Print.{print_value}
use Rattle.cargo_platform.specs.Warnings.{attribute_warning}
use Rattle.predicate_classes.specs.declared.key_predicates.KeyPredicate.{KeyPredicate}
use Rattle.predicate_classes.specs.declared.classes.Class.{Class}
use Rattle.predicate_classes.specs.declared.classes.Class.TheVariants as class
use Rattle.predicate_classes.specs.Classes.{is_category, category_in}
use Rattle.manifest_lints_findings.specs.Known.{is_marked_literal}
use Rattle.manifest_lints_findings.specs.Texts.{quoted_text}
use Rattle.manifest_lints_findings.specs.declared.chosen.Choice.{Choice}
use Rattle.manifest_lints_findings.specs.declared.chosen.Choice.TheVariants as choice

abbrev pub is_unstable : Class → Bool
is_unstable class.Unstable = true
is_unstable _ = false

abbrev pub is_pair : CfgValue → Bool
is_pair (Alone n) = false
is_pair (KeyPair k v) = true

-- a pair of `target_feature`
abbrev pub is_feature : CfgValue → Bool
is_feature (Alone n) = false
is_feature (KeyPair k v) = bytes_eq k.name (codes "target_feature")

-- the first of its kind in the key, and of a category, or the name `r#true` or `r#false`; set only by unstable features
-- of rustc, or not; and a feature of an architecture, or not
abbrev pub is_chosen : Choice → KeyPredicate → Bool
is_chosen (choice.OfCategory s) f = f.is_first && is_category (category_in f.class) s
is_chosen choice.Literal f = f.is_first && is_marked_literal (value_of f.fact.now)
is_chosen choice.Unstable f = is_unstable f.class
is_chosen choice.Stable f = not (is_unstable f.class)
is_chosen choice.Feature f = is_feature (value_of f.fact.now)
is_chosen choice.NoFeature f = not (is_feature (value_of f.fact.now))

-- the selected ones, in their order
abbrev pub chosen : Choice → List KeyPredicate → List KeyPredicate
chosen c fs = filter (is_chosen c) fs

-- a name or pair in backquotes
abbrev pub quoted_value : CfgValue → List ℕ
quoted_value c = quoted_text (print_value c)

abbrev pub fact_text : KeyPredicate → List ℕ
fact_text f = quoted_value (value_of f.fact.now)

-- Cargo's warnings on them; the warning on pairs occurs once, and `is_said` tells whether it has occurred
abbrev pub warnings_on : Bool → List KeyPredicate → List (List ℕ)
warnings_on is_said [] = []
warnings_on is_said (f ∷ fs) =
    cond (is_pair (value_of f.fact.now) && is_said) [] (attribute_warning (value_of f.fact.now))
    ++ warnings_on (is_said || is_pair (value_of f.fact.now)) fs
