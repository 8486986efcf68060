-- The results for the keys of a manifest, lint by lint, and the diagnostics that are reported on them.
use Rattle.std.specs.Prelude.{◌≡◌, ◌<◌, ◌+◌, ◌*◌, sum_by, ◌⊎◌, ◌↔◌, ℕ, Bool, true, false, not, IsTrue, List}
use Rattle.std.specs.Prelude.{[], ◌∷◌, ◌++◌, map, length, get_or, cond, bytes_eq, string_bytes, Option, Some, None}
use Rattle.std.specs.Prelude.{IfSome}
use Rattle.std.specs.List.{All}
use Rattle.std.specs.List.Sorted.{IsPermutation}
use Rattle.cargo_platform.specs.Trees.{Condition}
use Rattle.cargo_platform.specs.Nesting.{IsNestedBeyond}
use Rattle.cargo_platform.specs.Platforms.{IsConditionText}
use Rattle.cargo_platform.specs.Print.{print_condition}
use Rattle.toml.specs.Data.{Members}
use Rattle.exact_answers.specs.declared.fact_constraints.FactConstraints.{FactConstraints}
use Rattle.exact_answers.specs.Asking.{NeedsMore}
use Rattle.exact_answers.specs.Targets.{asked_trees}
use Rattle.manifests.specs.Declarations.{DeclaredEntry, IsDeclaredBy}
pub use Rattle.manifests.specs.Entries.{Entry, entry_of}
use Rattle.predicate_classes.specs.declared.classes.Category.TheVariants as category
use Rattle.predicate_classes.specs.Classes.{has_category, classified_in, open_in, IsUnknownTarget}
use Rattle.manifest_lints_findings.specs.declared.codes.KeyLint.{KeyLint}
use Rattle.manifest_lints_findings.specs.declared.codes.KeyLint.TheVariants as code
use Rattle.manifest_lints_findings.specs.declared.findings.Finding.{Finding}
use Rattle.manifest_lints_findings.specs.declared.findings.Report.{Report}
use Rattle.manifest_lints_findings.specs.Codes.{CodeSet, finding_level, is_reported, reported_codes}
use Rattle.manifest_lints_findings.specs.declared.known_keys.AnalysedKey.{AnalysedKey}
use Rattle.manifest_lints_findings.specs.declared.readings.ReadKey.{ReadKey}
use Rattle.manifest_lints_findings.specs.Known.{has_marked_literal, IsKnown}
use Rattle.manifest_lints_findings.specs.Marks.{Mark, marks}
use Rattle.manifest_lints_findings.specs.Messages.{Shows, noted_texts, help_texts, said}
use Rattle.manifest_lints_findings.specs.Pointed.{Names, PointsTo, IsOnTarget}
use Rattle.manifest_lints_findings.specs.Texts.{Mentions}
use Rattle.manifest_lints_findings.specs.NoTables.{is_no_table}
use Rattle.manifest_lints_findings.specs.Shown.{IsMended, IsShownOn}
use Rattle.manifest_lints_findings.specs.Spells.{SpellsNothing, IsRead, entry_read}
pub use Rattle.manifest_lints.specs.Rustcs.{IsRustcs, AllowsRustcs}
use Rattle.manifest_lints.specs.declared.deciding.TheConstants.{MAX_NESTING}
use Rattle.manifest_lints.specs.declared.at_targets.TheConstants.{MAX_OPEN_NAMES}
use Rattle.manifest_lints.specs.declared.earlier.TheConstants.{MAX_COMPARED_KEYS, MAX_COMPARISON_WORK}
use Rattle.manifest_lints.specs.declared.earlier.Earlier.{Earlier}
use Rattle.manifest_lints.specs.declared.earlier.Earlier.TheVariants.{Unlike}
use Rattle.manifest_lints.specs.AtTargets.{SettlesOn}
use Rattle.manifest_lints.specs.Truths.{IsNever, IsAlways, CanHold, CanFail}
use Rattle.manifest_lints.specs.Truths.{budget_of, NeedsMoreFor}
use Rattle.manifest_lints.specs.Sames.{HasOne, HasSame, HasEquivalent, NamesRightly, named_place}
use Rattle.manifest_lints.specs.Missed.{MissesNone}

-- ---- the table: when a lint applies to a key

-- it applies only if it is right; and if it does not apply, and nothing is open, this is so
abbrev pub Settles : Bool → Bool → Type 0 → Type 0 → Type 0
Settles is_open b Is IsNot = (IsTrue b → Is) × (b ≡ false → is_open ≡ false → IsNot)

-- it applies only if the condition never has this truth value on a known target, whichever facts with open names and
-- keys are set; and if it does not apply, there is a reason
abbrev pub SettlesPlaces : Bool → List DeclaredEntry → Condition → Bool → Type 0
SettlesPlaces truth ds c b = SettlesOn truth (length (classified_in ds c)) (open_in (classified_in ds c)) c b

-- the number of case splits for a condition
abbrev pub budget_in : List DeclaredEntry → Condition → ℕ
budget_in ds c = budget_of (length (classified_in ds c))

-- the number of bytes of some keys
abbrev pub bytes_of : List Entry → ℕ
bytes_of es = sum_by (λ e. length e.0) es

-- the keys before one with this text are too many to be compared, for as many bytes as they all have
abbrev pub AreTooLong : List Entry → List ℕ → Type 0
AreTooLong es text = MAX_COMPARISON_WORK < length es * (bytes_of es + length text)

-- the reason why something may be left open about a key after others that is a condition: too many parentheses are
-- nested, or too many names and keys are open; there are too few case splits for the condition, or for comparing it
-- with that of a key before it; or there are too many keys before it, or too many for so many bytes
pub data MayBeOpen (k : FactConstraints) (ds : List DeclaredEntry) (es : List Entry) (text : List ℕ) (c : Condition) :
    Type 0
  where
    too_deep : IsNestedBeyond text MAX_NESTING → MayBeOpen k ds es text c
    many_open : MAX_OPEN_NAMES < length (open_in (classified_in ds c)) → MayBeOpen k ds es text c
    few_splits : NeedsMoreFor k c (budget_in ds c) → MayBeOpen k ds es text c
    few_beside : HasOne (λ d. NeedsMore k (asked_trees (d ∷ c ∷ [])) (budget_in ds c)) es → MayBeOpen k ds es text c
    many_before : MAX_COMPARED_KEYS < length es → MayBeOpen k ds es text c
    long_before : AreTooLong es text → MayBeOpen k ds es text c

-- whether a lint applies to a key after others that is a condition, about which something is left open or not, given
-- the knowledge about each target and the declarations
abbrev pub Holds : FactConstraints → List DeclaredEntry → List Entry → Entry → Condition → Bool → KeyLint → Bool
    → Type 0
Holds k ds es e c is_open code.Refused b = b ≡ false
Holds k ds es e c is_open code.NoTable b = b ≡ is_no_table e.1
Holds k ds es e c is_open code.ReadOtherwise b = b ≡ has_marked_literal (classified_in ds c)
Holds k ds es e c is_open code.Unsupported b = b ≡ has_category category.Unsupported (classified_in ds c)
Holds k ds es e c is_open code.Never b = Settles is_open b (IsNever k c) (CanHold k c)
Holds k ds es e c is_open code.UnknownTarget b = IsTrue b ↔ IsUnknownTarget c
Holds k ds es e c is_open code.UnknownFact b = b ≡ has_category category.Mistaken (classified_in ds c)
Holds k ds es e c is_open code.Nowhere b = SettlesPlaces true ds c b
Holds k ds es e c is_open code.Same b = IsTrue b ↔ HasSame es c
Holds k ds es e c is_open code.Equivalent b = IsTrue b → HasEquivalent k es c
Holds k ds es e c is_open code.Always b = Settles is_open b (IsAlways k c) (CanFail k c)
Holds k ds es e c is_open code.Everywhere b = SettlesPlaces false ds c b
Holds k ds es e c is_open code.Custom b = b ≡ has_category category.Custom (classified_in ds c)
Holds k ds es e c is_open code.NotCanonical b = b ≡ not (bytes_eq (print_condition c) e.0)

-- the same for a key that is not a condition, and that Cargo rejects or accepts
abbrev pub HoldsUnspelled : Bool → Entry → KeyLint → Bool → Type 0
HoldsUnspelled is_refused e code.Refused b = b ≡ is_refused
HoldsUnspelled is_refused e code.NoTable b = b ≡ is_no_table e.1
HoldsUnspelled is_refused e code.ReadOtherwise b = b ≡ not is_refused
HoldsUnspelled is_refused e _ b = b ≡ false

-- the lints that apply to a key that is a condition, after keys of which those at some indexes are left open; the
-- earlier key that is named, and whether something is left open; and the same for a key that is not a condition
pub record IsFoundSpelled (k : FactConstraints) (ds : List DeclaredEntry) (es : List Entry) (ns : List ℕ) (e : Entry)
    (codes : CodeSet) (earlier : Earlier) (is_open : Bool) : Type 0 where
  pub condition : Condition
  pub spelled : IsConditionText e.0 condition
  pub holds : (c : KeyLint) → Holds k ds es e condition is_open c (codes c)
  pub named : NamesRightly k es condition earlier
  pub none_missed : codes code.Equivalent ≡ false → is_open ≡ false → MissesNone k es ns condition
  pub left_open : IsTrue is_open → MayBeOpen k ds es e.0 condition
  pub many : MAX_OPEN_NAMES < length (open_in (classified_in ds condition)) → IsTrue is_open

pub record IsFoundUnspelled (e : Entry) (codes : CodeSet) (earlier : Earlier) (is_open : Bool) : Type 0 where
  pub nothing : SpellsNothing e.0
  pub is_refused : Bool
  pub holds : (c : KeyLint) → HoldsUnspelled is_refused e c (codes c)
  pub unlike : earlier ≡ Unlike
  pub settled : is_open ≡ false

abbrev pub IsFound : FactConstraints → List DeclaredEntry → List Entry → List ℕ → Entry → CodeSet → Earlier → Bool
    → Type 0
IsFound k ds es ns e codes earlier is_open =
    IsFoundSpelled k ds es ns e codes earlier is_open ⊎ IsFoundUnspelled e codes earlier is_open

-- ---- the diagnostics

-- the diagnostic of a lint on the key at an index, if it is reported
abbrev pub told_mark : ℕ → CodeSet → KeyLint → List Mark
told_mark n codes c = cond (is_reported codes c) ((Some n, c) ∷ []) []

-- the diagnostics on the key at an index
abbrev pub told_marks : ℕ → CodeSet → List Mark
told_marks n codes = map (λ c. (Some n, c)) (reported_codes codes)

-- the index of a key, if it is left open
abbrev pub left_open : ℕ → Bool → List ℕ
left_open n is_open = cond is_open (n ∷ []) []

-- a diagnostic `same` or `equivalent` names the key at the index of the earlier one, and points to it
abbrev pub NamesEarlier : List Entry → Earlier → Finding → Type 0
NamesEarlier es earlier f = IfSome (named_place earlier) (λ n. (d : Entry) → Names f.code (get_or es n d).0 f)

-- the properties of a key by itself, given the declarations
pub record IsKnownOf (ds : List DeclaredEntry) (e : Entry) (key : AnalysedKey) : Type 0 where
  pub read : ReadKey
  pub entry : entry_read read ≡ e
  pub spells : IsRead read
  pub known : IsKnown ds read key

-- the diagnostic of a lint on a key has the level of the lint, and the message of the lint on the key's properties; its
-- notes have Cargo's warnings, and its helps the suggestion; it has the position of the key's error if the key is
-- rejected, and else points to the names, pairs and fields that the lint is about; and it has a suggestion only if the
-- lint reports nothing on that
pub record IsDiagnosticOn (c : KeyLint) (key : AnalysedKey) (f : Finding) : Type 0 where
  pub level : f.level ≡ finding_level c (length key.predicates.items)
  pub message : Shows c key (string_bytes f.message)
  pub notes : Mentions (noted_texts c key) (said f.children.notes.items)
  pub helps : Mentions (help_texts c key f.suggestion) (said f.children.helps.items)
  pub shown : IsShownOn c key f
  pub pointed : PointsTo c key f.pointed
  pub suggestion : IfSome f.suggestion (λ s. IsMended c (string_bytes s))

abbrev pub ShowsKey : AnalysedKey → Finding → Type 0
ShowsKey key f = IsDiagnosticOn f.code key f

-- the diagnostics on a key after others are those that are reported on it; they name that key, and show its properties
pub record AreTold (ds : List DeclaredEntry) (es : List Entry) (e : Entry) (codes : CodeSet) (earlier : Earlier)
    (fs : List Finding) : Type 0 where
  pub marks_are : marks fs ≡ told_marks (length es) codes
  pub named : All (NamesEarlier es earlier) fs
  pub key : AnalysedKey
  pub known : IsKnownOf ds e key
  pub shown : All (ShowsKey key) fs

-- the diagnostics on some keys are those that are reported on each, in the order of the keys, and the indexes are those
-- of the keys that are left open
pub data AreFindingsOn (k : FactConstraints) (ds : List DeclaredEntry) : List Entry → List Finding → List ℕ
    → Type 0 where
  on_none : AreFindingsOn k ds [] [] []
  on_more : (es : List Entry) (e : Entry) (codes : CodeSet) (earlier : Earlier) (is_open : Bool)
      (fs told : List Finding) (ns : List ℕ) → AreFindingsOn k ds es fs ns
      → IsFound k ds es ns e codes earlier is_open → AreTold ds es e codes earlier told
      → AreFindingsOn k ds (es ++ e ∷ []) (fs ++ told) (ns ++ left_open (length es) is_open)

-- the same, given the knowledge about each target
abbrev pub AreFindings : List DeclaredEntry → List Entry → List Finding → List ℕ → Type 0
AreFindings ds es fs ns = (k : FactConstraints) × (AllowsRustcs k × AreFindingsOn k ds es fs ns)

-- the old diagnostics are followed by those with these marks, which name this other key, and show the properties of the
-- key
pub record AddsFindings (ms : List Mark) (other : List ℕ) (key : AnalysedKey) (old new : List Finding) : Type 0 where
  pub added : List Finding
  pub are : new ≡ old ++ added
  pub marks_are : marks added ≡ ms
  pub named : All (λ f. Names f.code other f) added
  pub shown : All (ShowsKey key) added

-- ---- the report

-- for a table `target`: its keys in some order, and the diagnostics on them
abbrev pub IsReportOn : Members → List Entry → Report → Type 0
IsReportOn ms es r =
    IsPermutation es (map entry_read r.keys.items)
    × All IsRead r.keys.items
    × ((ds : List DeclaredEntry)
    × IsDeclaredBy ms ds
    × AreFindings ds (map entry_read r.keys.items) r.findings.items r.undecided.items)

-- without a table: no keys, and these diagnostics
abbrev pub IsReportOf : List Mark → Report → Type 0
IsReportOf ms r = (r.keys.items ≡ []) × (marks r.findings.items ≡ ms) × (r.undecided.items ≡ [])

-- for a manifest, by the value of its `target`: a table, none, or not a table
abbrev pub IsReport : Members → Option (Option (List Entry)) → Report → Type 0
IsReport ms (Some (Some es)) r = IsReportOn ms es r
IsReport ms (Some None) r = IsReportOf ((None, code.NoTable) ∷ []) r × All IsOnTarget r.findings.items
IsReport ms None r = IsReportOf [] r
