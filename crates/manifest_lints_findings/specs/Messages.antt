-- The message of each lint by value, and the names and numbers that its notes and its helps contain. The words between
-- those are free.
use Rattle.std.specs.Prelude.{◌≡◌, ℕ, false, List, [], ◌∷◌, ◌++◌, codes, take, string_bytes}
use Rattle.std.specs.Prelude.{flat_map}
use Rattle.std.specs.Prelude.{String}
use Rattle.std.specs.Prelude.{Option, Some, None}
use Rattle.std.specs.List.{join_by}
use Rattle.std.specs.declared.alloc.Global.{Global}
use Rattle.key_answers.specs.Printing.{IsKeyReason}
use Rattle.known_targets.specs.declared.table.TheConstants.{RUSTC_VERSION}
use Rattle.predicate_classes.specs.declared.key_predicates.KeyPredicate.{KeyPredicate}
use Rattle.predicate_classes.specs.declared.classes.Category.TheVariants as category
use Rattle.manifest_lints_findings.specs.Chosen.{chosen, fact_text, warnings_on}
use Rattle.manifest_lints_findings.specs.Texts.{shown_whole, quoted_text, Mentions, and_more}
use Rattle.manifest_lints_findings.specs.Texts.{joined_first, both_texts}
use Rattle.manifest_lints_findings.specs.declared.chosen.Choice.TheVariants as choice
use Rattle.manifest_lints_findings.specs.declared.codes.KeyLint.{KeyLint}
use Rattle.manifest_lints_findings.specs.declared.codes.KeyLint.TheVariants as code
use Rattle.manifest_lints_findings.specs.declared.known_keys.AnalysedKey.{AnalysedKey}
use Rattle.manifest_lints_findings.specs.declared.readings.CargoReading.{CargoReading}
use Rattle.manifest_lints_findings.specs.declared.readings.KeyMeaning.{KeyMeaning}
use Rattle.manifest_lints_findings.specs.declared.readings.KeyMeaning.TheVariants as spelled
use Rattle.manifest_lints_findings.specs.declared.wording.TheConstants.{MAX_SHOWN}

-- ---- parts of messages

-- the first names and pairs in backquotes, and the number of the others
abbrev pub listing : List KeyPredicate → List ℕ
listing fs = joined_first fact_text (codes ", ") fs

abbrev pub no_target : List ℕ
no_target = codes "no target that rustc " ++ (RUSTC_VERSION.now ++ codes " knows")

abbrev pub every_target : List ℕ
every_target = codes "the condition is true on every target that rustc " ++ (RUSTC_VERSION.now ++ codes " knows")

abbrev pub only_unstable : List KeyPredicate → List ℕ
only_unstable fs = listing fs ++ codes " only with unstable features"

-- the sentences on names and pairs that no target has, on features that no architecture has, and on names and pairs
-- that only unstable features set; each is empty without such names and pairs
abbrev pub lacking_text : List KeyPredicate → List ℕ
lacking_text [] = []
lacking_text (f ∷ fs) = no_target ++ (codes " has " ++ listing (f ∷ fs))

abbrev pub features_text : List KeyPredicate → List ℕ
features_text [] = []
features_text (f ∷ fs) =
    codes "no architecture that rustc " ++ (RUSTC_VERSION.now ++ (codes " knows has " ++ listing (f ∷ fs)))

abbrev pub unstable_text : List KeyPredicate → List ℕ
unstable_text [] = []
unstable_text (f ∷ fs) = codes "rustc " ++ (RUSTC_VERSION.now ++ (codes " prints " ++ only_unstable (f ∷ fs)))

-- on the mistaken names and pairs, those that are not features first
abbrev pub mistakes_text : List KeyPredicate → List ℕ
mistakes_text fs = both_texts (lacking_text (chosen choice.NoFeature fs)) (features_text (chosen choice.Feature fs))

-- on the custom ones, those that only unstable features set last
abbrev pub custom_text : List KeyPredicate → List ℕ
custom_text fs = both_texts (lacking_text (chosen choice.Stable fs)) (unstable_text (chosen choice.Unstable fs))

-- the reason why a key is rejected
abbrev pub IsFaultText : List ℕ → KeyMeaning → List ℕ → Type 0
IsFaultText key (spelled.Refused e) reason = IsKeyReason key e reason
IsFaultText key (spelled.Condition p) reason = reason ≡ []
IsFaultText key (spelled.ByCargo m) reason = reason ≡ []

-- Cargo's first warnings on the key, and the number of the others
abbrev pub cargo_words : CargoReading → List ℕ
cargo_words m = shown_whole (join_by (λ s. string_bytes s) (codes " ") (take MAX_SHOWN m.warnings.items) ++ and_more
    m.count)

-- the names that lose their raw mark, unless only Cargo accepts the key
abbrev pub unmarked_text : List KeyPredicate → List ℕ
unmarked_text fs = codes "Cargo reads " ++ (listing (chosen choice.Literal fs) ++ codes " without the raw mark")

abbrev pub read_otherwise : KeyMeaning → List KeyPredicate → List ℕ
read_otherwise (spelled.ByCargo m) fs = codes "Cargo accepts the key with a warning"
read_otherwise (spelled.Condition p) fs = unmarked_text fs
read_otherwise (spelled.Refused e) fs = unmarked_text fs

-- Cargo's warnings on it, if only Cargo accepts the key
abbrev pub cargo_noted : KeyMeaning → List (List ℕ)
cargo_noted (spelled.ByCargo m) = cargo_words m ∷ []
cargo_noted (spelled.Condition p) = []
cargo_noted (spelled.Refused e) = []

-- Cargo's warnings on names and pairs that do not select dependencies
abbrev pub unsupported_in : List KeyPredicate → List ℕ
unsupported_in fs = shown_whole (joined_first (λ t. t) (codes " ") (warnings_on false fs))

-- the text that may be meant
abbrev pub meant_shown : Option (String Global) → List (List ℕ)
meant_shown (Some s) = quoted_text (string_bytes s) ∷ []
meant_shown None = []

-- ---- the message

-- the message about a key that is the same or equivalent, which ends with the earlier key
abbrev pub NamesKey : KeyLint → List ℕ → List ℕ → Type 0
NamesKey code.Same key message = message ≡ codes "the same condition as the earlier key " ++ quoted_text key
NamesKey code.Equivalent key message = message ≡ codes "equivalent to the earlier key " ++ quoted_text key
NamesKey _ key message = Unit {0}

-- the message about any other key
abbrev pub Shows : KeyLint → AnalysedKey → List ℕ → Type 0
Shows code.Refused k message =
    (reason : List ℕ) × (message ≡ codes "invalid key: " ++ reason)
    × IsFaultText k.read.now.text.now k.read.now.spelled reason
Shows code.NoTable k message = message ≡ joined_first (λ s. string_bytes s) (codes ", ") k.non_tables.items
Shows code.ReadOtherwise k message = message ≡ read_otherwise k.read.now.spelled k.predicates.items
Shows code.Unsupported k message =
    message
    ≡ codes "Cargo does not set "
    ++ (listing (chosen (choice.OfCategory category.Unsupported) k.predicates.items) ++ codes
    " when it selects dependencies")
Shows code.Never k message = message ≡ codes "no set of facts makes the condition true"
Shows code.UnknownTarget k message = message ≡ no_target ++ codes " has this name"
Shows code.UnknownFact k message =
    message ≡ mistakes_text (chosen (choice.OfCategory category.Mistaken) k.predicates.items)
Shows code.Nowhere k message = message ≡ no_target ++ codes " has facts that make the condition true"
Shows code.Same k message = Unit {0}
Shows code.Equivalent k message = Unit {0}
Shows code.Always k message = message ≡ codes "every set of facts makes the condition true"
Shows code.Everywhere k message = message ≡ every_target
Shows code.Custom k message = message ≡ custom_text (chosen (choice.OfCategory category.Custom) k.predicates.items)
Shows code.NotCanonical k message = message ≡ codes "the key is not in canonical form"

-- ---- the notes and helps beside the message, each one after the other

abbrev pub said : List (String Global) → List ℕ
said ts = flat_map (λ t. string_bytes t) ts

-- the texts in the notes: Cargo's warnings
abbrev pub noted_texts : KeyLint → AnalysedKey → List (List ℕ)
noted_texts code.ReadOtherwise k = cargo_noted k.read.now.spelled
noted_texts code.Unsupported k = unsupported_in (chosen (choice.OfCategory category.Unsupported) k.predicates.items) ∷
    []
noted_texts _ k = []

-- the texts in the helps: the canonical form of a key that is not in it, and else what can replace the key
abbrev pub help_texts : KeyLint → AnalysedKey → Option (String Global) → List (List ℕ)
help_texts code.NotCanonical k meant = quoted_text (string_bytes k.canonical) ∷ []
help_texts c k meant = meant_shown meant
