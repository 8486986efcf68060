-- The lints: their names, their levels, and which of them hide which.
use Rattle.std.specs.Prelude.{ℕ, Bool, not, ◌&&◌, ◌==◌, cond, codes, List, [], ◌∷◌}
use Rattle.std.specs.List.{list_any, filter}
use Rattle.manifest_lints_findings.specs.declared.codes.KeyLint.{KeyLint}
use Rattle.manifest_lints_findings.specs.declared.codes.KeyLint.TheVariants as code
use Rattle.manifest_lints_findings.specs.declared.codes.TheConstants.{KEY_LINTS}
use Rattle.manifest_lints_findings.specs.declared.codes.Level.{Level}
use Rattle.manifest_lints_findings.specs.declared.codes.Level.TheVariants as level
use Rattle.manifest_lints_findings.specs.declared.lints.Lint.{Lint}
use Rattle.manifest_lints_findings.specs.declared.lints.Lint.TheVariants as lint

-- a set of lints, such as those that apply to a key
abbrev pub CodeSet : Type 0
CodeSet = KeyLint → Bool

-- the name of each
abbrev pub code_word : KeyLint → List ℕ
code_word code.Refused = codes "refused"
code_word code.NoTable = codes "no-table"
code_word code.ReadOtherwise = codes "read-otherwise"
code_word code.Unsupported = codes "unsupported"
code_word code.Never = codes "never"
code_word code.UnknownTarget = codes "unknown-target"
code_word code.UnknownFact = codes "unknown-fact"
code_word code.Nowhere = codes "nowhere"
code_word code.Same = codes "same"
code_word code.Equivalent = codes "equivalent"
code_word code.Always = codes "always"
code_word code.Everywhere = codes "everywhere"
code_word code.Custom = codes "custom"
code_word code.NotCanonical = codes "not-canonical"

-- the name of each lint, of those on keys and of the others
abbrev pub lint_word : Lint → List ℕ
lint_word (lint.Key c) = code_word c
lint_word lint.Former = codes "former"
lint_word lint.Misplaced = codes "misplaced"
lint_word lint.Underscored = codes "underscored"
lint_word lint.UnreadField = codes "unread-field"
lint_word lint.Settings = codes "settings"
lint_word lint.UnneededAllow = codes "unneeded-allow"

abbrev pub level_word : Level → List ℕ
level_word level.Error = codes "error"
level_word level.Warning = codes "warning"
level_word level.Note = codes "note"

-- the level of each
abbrev pub code_level : KeyLint → Level
code_level code.Refused = level.Error
code_level code.NoTable = level.Error
code_level code.ReadOtherwise = level.Warning
code_level code.Unsupported = level.Warning
code_level code.Never = level.Warning
code_level code.UnknownTarget = level.Warning
code_level code.UnknownFact = level.Warning
code_level code.Nowhere = level.Warning
code_level code.Same = level.Warning
code_level code.Equivalent = level.Warning
code_level code.Always = level.Note
code_level code.Everywhere = level.Note
code_level code.Custom = level.Note
code_level code.NotCanonical = level.Note

-- the level on a condition with so many names and pairs
abbrev pub finding_level : KeyLint → ℕ → Level
finding_level code.Never count = cond (count == 0) level.Note level.Warning
finding_level code.Always count = cond (count == 0) level.Note level.Warning
finding_level c count = code_level c

-- the lints that hide it on the same key, whatever names they report
abbrev pub hiders : KeyLint → List KeyLint
hiders code.Nowhere = code.UnknownTarget ∷ code.UnknownFact ∷ code.Never ∷ []
hiders code.Equivalent = code.Never ∷ code.Always ∷ code.Same ∷ []
hiders code.Everywhere = code.Always ∷ []
hiders code.NotCanonical = code.ReadOtherwise ∷ code.UnknownTarget ∷ code.UnknownFact ∷ []
hiders _ = []

-- true if a lint is reported: it applies, and no other lint hides it
abbrev pub is_reported : CodeSet → KeyLint → Bool
is_reported holds c = holds c && not (list_any holds (hiders c))

-- the lints that are reported on a key, in their order
abbrev pub reported_codes : CodeSet → List KeyLint
reported_codes holds = filter (is_reported holds) KEY_LINTS
