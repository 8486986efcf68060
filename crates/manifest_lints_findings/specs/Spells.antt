-- The meaning of a key.
use Rattle.std.specs.Prelude.{ℕ, List, Option, Some, None}
use Rattle.std.specs.Borrow.{Bor}
use Rattle.cargo_platform.specs.Trees.{Condition, condition_of}
use Rattle.cargo_platform.specs.Platforms.{IsConditionText}
use Rattle.toml.specs.declared.value.Value.{Value}
use Rattle.toml.specs.Data.{Data, table, no_members}
use Rattle.toml.specs.View.{view}
use Rattle.manifests.specs.Entries.{Entry}
use Rattle.manifest_lints_findings.specs.declared.readings.ReadKey.{ReadKey}
use Rattle.manifest_lints_findings.specs.declared.readings.KeyMeaning.{KeyMeaning}
use Rattle.manifest_lints_findings.specs.declared.readings.KeyMeaning.TheVariants as spelled

abbrev pub SpellsNothing : List ℕ → Type 0
SpellsNothing text = (c : Condition) → IsConditionText text c → ⊥

abbrev pub IsSpelledAs : List ℕ → KeyMeaning → Type 0
IsSpelledAs text (spelled.Condition p) = IsConditionText text (condition_of p)
IsSpelledAs text (spelled.ByCargo read) = SpellsNothing text
IsSpelledAs text (spelled.Refused e) = SpellsNothing text

abbrev pub IsRead : ReadKey → Type 0
IsRead r = IsSpelledAs r.text.now r.spelled

-- the value of a key; outside of a manifest, a table without members
abbrev pub data_at : Option (Bor Value) → Data
data_at (Some v) = view v.now
data_at None = table no_members

abbrev pub entry_read : ReadKey → Entry
entry_read r = (r.text.now, data_at r.value)
