-- The keys of a manifest, each with its value.
use Rattle.std.specs.Prelude.{ℕ, List}
use Rattle.toml.specs.Data.{Data}
use Rattle.toml.specs.View.{view}
use Rattle.manifests.specs.declared.tables.TargetKey.{TargetKey}

-- a key, and its value
abbrev pub Entry : Type 0
Entry = List ℕ × Data

abbrev pub entry_of : TargetKey → Entry
entry_of k = (k.key.now, view k.value.now)
