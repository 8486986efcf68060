-- The parts of a manifest that a diagnostic on a key points to besides the key.
use Rattle.std.specs.Prelude.{◌≡◌, ℕ, List, [], Option, Some, None, codes, flat_map, map, option_map, take}
use Rattle.std.specs.Prelude.{String, string_bytes}
use Rattle.std.specs.Option.{option_to_list}
use Rattle.std.specs.declared.alloc.Global.{Global}
use Rattle.toml.specs.Data.{Data}
use Rattle.toml_spans.specs.declared.spans.Span.{Span}
use Rattle.predicate_classes.specs.declared.key_predicates.KeyPredicate.{KeyPredicate}
use Rattle.predicate_classes.specs.declared.classes.Category.TheVariants as category
use Rattle.manifest_lints_findings.specs.Chosen.{chosen}
use Rattle.manifest_lints_findings.specs.Messages.{NamesKey}
use Rattle.manifest_lints_findings.specs.NoTables.{no_table_names}
use Rattle.manifest_lints_findings.specs.Spells.{data_at}
use Rattle.manifest_lints_findings.specs.declared.chosen.Choice.{Choice}
use Rattle.manifest_lints_findings.specs.declared.chosen.Choice.TheVariants as choice
use Rattle.manifest_lints_findings.specs.declared.codes.KeyLint.{KeyLint}
use Rattle.manifest_lints_findings.specs.declared.codes.KeyLint.TheVariants as code
use Rattle.manifest_lints_findings.specs.declared.codes.Level.TheVariants as level
use Rattle.manifest_lints_findings.specs.declared.findings.Finding.{Finding}
use Rattle.manifest_lints_findings.specs.declared.known_keys.AnalysedKey.{AnalysedKey}
use Rattle.manifest_lints_findings.specs.declared.pointing.SecondarySpans.{SecondarySpans}
use Rattle.manifest_lints_findings.specs.declared.wording.TheConstants.{MAX_SHOWN}

-- the names and pairs that a diagnostic of this lint is about
abbrev pub choice_of : KeyLint → Option Choice
choice_of code.UnknownFact = Some (choice.OfCategory category.Mistaken)
choice_of code.Unsupported = Some (choice.OfCategory category.Unsupported)
choice_of code.Custom = Some (choice.OfCategory category.Custom)
choice_of code.ReadOtherwise = Some choice.Literal
choice_of _ = None

-- the spans of names and pairs in the key, where they are known
abbrev pub spans_in : List KeyPredicate → List Span
spans_in fs = flat_map (λ f. option_to_list f.span) fs

-- the first of these spans
abbrev pub spans_of : Option Choice → List KeyPredicate → List Span
spans_of None fs = []
spans_of (Some c) fs = take MAX_SHOWN (spans_in (chosen c fs))

-- the names of the fields that a diagnostic of this lint is about
abbrev pub fields_of : KeyLint → Data → List (List ℕ)
fields_of code.NoTable value = no_table_names value
fields_of _ value = []

-- the diagnostic points to these names and pairs, and to these fields
pub record PointsTo (c : KeyLint) (key : AnalysedKey) (found : SecondarySpans) : Type 0 where
  pub facts : found.facts.items ≡ spans_of (choice_of c) key.predicates.items
  pub fields : map (λ s. string_bytes s) found.fields.items ≡ fields_of c (data_at key.read.now.value)

-- a diagnostic that compares two keys points to the earlier one, and any other to none
abbrev pub PointsToKey : KeyLint → List ℕ → Option (String Global) → Type 0
PointsToKey code.Same key found = option_map (λ s. string_bytes s) found ≡ Some key
PointsToKey code.Equivalent key found = option_map (λ s. string_bytes s) found ≡ Some key
PointsToKey _ key found = found ≡ None

abbrev pub PointsToNothing : SecondarySpans → Type 0
PointsToNothing found = (found.facts.items ≡ []) × (found.fields.items ≡ []) × (found.earlier ≡ None)

-- the diagnostic on a `target` that is not a table
pub record IsOnTarget (f : Finding) : Type 0 where
  pub level : f.level ≡ level.Error
  pub message : string_bytes f.message ≡ codes "`target` is not a table"
  pub notes : f.children.notes.items ≡ []
  pub helps : f.children.helps.items ≡ []
  pub suggestion : f.suggestion ≡ None
  pub span : f.span ≡ None
  pub snippet : f.snippet ≡ None
  pub pointed : PointsToNothing f.pointed

-- and its message names that key
pub record Names (c : KeyLint) (key : List ℕ) (f : Finding) : Type 0 where
  pub message : NamesKey c key (string_bytes f.message)
  pub earlier : PointsToKey c key f.pointed.earlier
