-- The properties of a key by itself, and the lints that apply to it.
use Rattle.std.specs.Prelude.{◌≡◌, ◌↔◌, ℕ, Bool, true, false, not, ◌||◌, ◌&&◌, List, [], IsTrue, codes, bytes_eq}
use Rattle.std.specs.Prelude.{string_bytes}
use Rattle.std.specs.List.{list_any}
use Rattle.cargo_platform.specs.Trees.{CfgValue, Alone, KeyPair, condition_of}
use Rattle.cargo_platform.specs.Print.{print_condition}
use Rattle.manifests.specs.Declarations.{DeclaredEntry}
use Rattle.predicate_classes.specs.declared.classes.Category.TheVariants as category
use Rattle.predicate_classes.specs.Classes.{Classified, classified_by, classified_in, has_category, IsUnknownTarget}
use Rattle.manifest_lints_findings.specs.NoTables.{is_no_table, is_empty_list}
use Rattle.manifest_lints_findings.specs.Codes.{CodeSet}
use Rattle.manifest_lints_findings.specs.Spells.{entry_read}
use Rattle.manifest_lints_findings.specs.declared.codes.KeyLint.TheVariants as code
use Rattle.manifest_lints_findings.specs.declared.known_keys.AnalysedKey.{AnalysedKey}
use Rattle.manifest_lints_findings.specs.declared.readings.ReadKey.{ReadKey}
use Rattle.manifest_lints_findings.specs.declared.readings.KeyMeaning.{KeyMeaning}
use Rattle.manifest_lints_findings.specs.declared.readings.KeyMeaning.TheVariants as spelled

-- the name `r#true` or `r#false`, which Cargo reads as a literal
abbrev pub is_marked_literal : CfgValue → Bool
is_marked_literal (Alone n) = n.raw && (bytes_eq n.name (codes "true") || bytes_eq n.name (codes "false"))
is_marked_literal (KeyPair k v) = false

abbrev pub has_marked_literal : List Classified → Bool
has_marked_literal fs = list_any (λ f. is_marked_literal f.0) fs

abbrev pub is_refused : KeyMeaning → Bool
is_refused (spelled.Condition p) = false
is_refused (spelled.ByCargo m) = false
is_refused (spelled.Refused e) = true

abbrev pub is_by_cargo : KeyMeaning → Bool
is_by_cargo (spelled.Condition p) = false
is_by_cargo (spelled.ByCargo m) = true
is_by_cargo (spelled.Refused e) = false

abbrev pub is_condition : KeyMeaning → Bool
is_condition (spelled.Condition p) = true
is_condition (spelled.ByCargo m) = false
is_condition (spelled.Refused e) = false

-- the names and pairs in a key, its canonical form, and whether it is the name of a target that is not known
abbrev pub classified_of_spelled : List DeclaredEntry → KeyMeaning → List Classified
classified_of_spelled ds (spelled.Condition p) = classified_in ds (condition_of p)
classified_of_spelled ds (spelled.ByCargo m) = []
classified_of_spelled ds (spelled.Refused e) = []

abbrev pub print_spelled : KeyMeaning → List ℕ
print_spelled (spelled.Condition p) = print_condition (condition_of p)
print_spelled (spelled.ByCargo m) = []
print_spelled (spelled.Refused e) = []

abbrev pub IsUnknownSpelled : KeyMeaning → Type 0
IsUnknownSpelled (spelled.Condition p) = IsUnknownTarget (condition_of p)
IsUnknownSpelled (spelled.ByCargo m) = ⊥
IsUnknownSpelled (spelled.Refused e) = ⊥

pub record IsKnown (ds : List DeclaredEntry) (r : ReadKey) (k : AnalysedKey) : Type 0 where
  pub read : k.read.now ≡ r
  pub tables : is_empty_list k.non_tables.items ≡ not (is_no_table (entry_read r).1)
  pub predicates : classified_by k.predicates.items ≡ classified_of_spelled ds r.spelled
  pub canonical : string_bytes k.canonical ≡ print_spelled r.spelled
  pub unknown_target : IsTrue k.is_unknown_target ↔ IsUnknownSpelled r.spelled

-- the lints that apply to a key by itself
abbrev pub holds_alone : AnalysedKey → CodeSet
holds_alone k code.Refused = is_refused k.read.now.spelled
holds_alone k code.NoTable = not (is_empty_list k.non_tables.items)
holds_alone k code.ReadOtherwise = is_by_cargo k.read.now.spelled || has_marked_literal
    (classified_by k.predicates.items)
holds_alone k code.Unsupported = has_category category.Unsupported (classified_by k.predicates.items)
holds_alone k code.UnknownTarget = k.is_unknown_target
holds_alone k code.UnknownFact = has_category category.Mistaken (classified_by k.predicates.items)
holds_alone k code.Custom = has_category category.Custom (classified_by k.predicates.items)
holds_alone k code.NotCanonical =
    is_condition k.read.now.spelled && not (bytes_eq (string_bytes k.canonical) k.read.now.text.now)
holds_alone k _ = false
