-- Manifests without a key that is nested too deep.
use Rattle.std.specs.Prelude.{List, Option, Some, None}
use Rattle.std.specs.List.{All}
use Rattle.input_limits.specs.Limits.{IsShallow}
use Rattle.manifests.specs.Entries.{Entry}

abbrev pub IsShallowEntry : Entry → Type 0
IsShallowEntry e = IsShallow e.0

-- what is at `target`: where it is a table, each of its keys is nested no deeper than a key may be
abbrev pub HasNoDeepKey : Option (Option (List Entry)) → Type 0
HasNoDeepKey (Some (Some es)) = All IsShallowEntry es
HasNoDeepKey (Some None) = Unit {0}
HasNoDeepKey None = Unit {0}
