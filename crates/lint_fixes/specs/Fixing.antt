-- What fixes make of a text.
use Rattle.std.specs.Prelude.{◌≡◌, ◌+◌, ◌||◌, ℕ, All, Bool, false, Contains, List, Some, String, not, string_bytes}
use Rattle.std.specs.List.{filter, list_any}
use Rattle.std.specs.BTreeMap.{BTreeMap}
use Rattle.std.specs.declared.alloc.Global.{Global}
use Rattle.toml.specs.Data.{Members}
use Rattle.toml.specs.View.{table_view}
use Rattle.text_edits.specs.Edits.{Edited}
use Rattle.workspaces.specs.Documents.{SpellsTable}
use Rattle.lint_fixes.specs.Names.{IsRename}
use Rattle.lint_fixes.specs.Sameness.{IsSameManifest, Renaming, allowed_count, has_key}
use Rattle.lint_fixes.specs.declared.fixing.Fix.{Fix}
use Rattle.lint_fixes.specs.declared.fixing.FixedText.{FixedText}
use Rattle.lint_fixes.specs.declared.fixing.Outcome.{Outcome}
use Rattle.lint_fixes.specs.declared.fixing.Outcome.TheVariants.{Unchanged, Fixed, Refused}

-- one of the fixes gives the name the new one
abbrev pub IsFixOf : List Fix → Renaming
IsFixOf fixes name new = (fix : Fix) × Contains fixes fix × (string_bytes fix.from ≡ name) × (string_bytes fix.to ≡ new)

-- P holds for the fixed text, if there is one
abbrev pub IfFixed : Outcome → (FixedText → Type 0) → Type 0
IfFixed Unchanged P = Unit {0}
IfFixed (Fixed fixed) P = P fixed
IfFixed (Refused reason) P = Unit {0}

-- the recorded edits make the fixed text of the text, but for so many that are left out
abbrev pub IsEditedTo : List ℕ → FixedText → Type 0
IsEditedTo text fixed = (left : ℕ) × Edited text 0 fixed.edits.items (string_bytes fixed.text) left

-- the fixed text is TOML, and spells the recorded table
abbrev pub SpellsItsTable : FixedText → Type 0
SpellsItsTable fixed = SpellsTable (string_bytes fixed.text) (Some (table_view fixed.table))

-- the recorded fixes are among the fixes
abbrev pub AreAmong : List Fix → FixedText → Type 0
AreAmong fixes fixed = All (Contains fixes) fixed.fixes.items

-- The recorded table is that of the text, but for new names that the recorded fixes give, and for so many entries of
-- the lists of allowed lints that are removed.
pub record IsSameDocument (text : List ℕ) (removed : ℕ) (fixed : FixedText) : Type 0 where
  pub manifest : Members
  pub spelled : SpellsTable text (Some manifest)
  pub renames : BTreeMap (String Global) (String Global)
  pub given : (name new : List ℕ) → IsRename renames name new → IsFixOf fixed.fixes.items name new
  pub same : IsSameManifest (IsRename renames) manifest (table_view fixed.table)
  pub count : allowed_count (table_view fixed.table) + removed ≡ allowed_count manifest

-- whether the fix replaces no key, or one that `target` of the manifest has
abbrev pub finds_key : Members → Fix → Bool
finds_key manifest fix = not fix.is_key || has_key (string_bytes fix.from) manifest

-- whether the fix replaces no key, or one that `target` of the manifest lacks
abbrev pub is_replaced : Members → Fix → Bool
is_replaced manifest fix = not fix.is_key || not (has_key (string_bytes fix.from) manifest)

-- each fix replaces a key, and the text is a manifest whose `target` has none of these keys
abbrev pub HasNoneOf : List ℕ → List Fix → Type 0
HasNoneOf text fixes = (manifest : Members) × SpellsTable text (Some manifest)
    × (list_any (finds_key manifest) fixes ≡ false)

-- the fixed text has none of the keys that the recorded fixes replace
abbrev pub LacksReplaced : FixedText → Type 0
LacksReplaced fixed = HasNoneOf (string_bytes fixed.text) (filter (λ fix. fix.is_key) fixed.fixes.items)
