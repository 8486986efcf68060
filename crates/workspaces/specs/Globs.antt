-- Globs as Cargo has them: what a pattern matches of a path below the root of a workspace.
use Rattle.std.specs.Prelude.{◌≤◌, ℕ, Bool, true, false, List, Contains}
use Rattle.workspaces.specs.Stretches.{IsMatched}
use Rattle.workspaces.specs.declared.components.CharacterRange.{CharacterRange}
use Rattle.workspaces.specs.declared.components.Part.{Part}
use Rattle.workspaces.specs.declared.components.Part.TheVariants as part
use Rattle.workspaces.specs.declared.components.Component.{Component}
use Rattle.workspaces.specs.declared.components.Component.TheVariants as component

-- some range has the character
abbrev pub IsWithin : List CharacterRange → ℕ → Type 0
IsWithin ranges c = (r : CharacterRange) × Contains ranges r × (r.first ≤ c) × (c ≤ r.last)

-- the ranges have it, or where they are excluded, they have it not
abbrev pub IsInWhere : Bool → List CharacterRange → ℕ → Type 0
IsInWhere false ranges c = IsWithin ranges c
IsInWhere true ranges c = IsWithin ranges c → ⊥

abbrev pub is_any : Part → Bool
is_any part.Any = true
is_any (part.One characters) = false

-- `*` matches no lone character: it matches stretches
abbrev pub IsOne : Part → ℕ → Type 0
IsOne part.Any c = ⊥
IsOne (part.One characters) c = IsInWhere characters.are_excluded characters.ranges.items c

-- `**` stands for any number of folders
abbrev pub is_folders : Component → Bool
is_folders component.Folders = true
is_folders (component.Named parts) = false

-- another component matches a folder whose name is stretches, one for each of its parts
abbrev pub IsNamedBy : Component → List ℕ → Type 0
IsNamedBy component.Folders name = ⊥
IsNamedBy (component.Named parts) name = IsMatched is_any IsOne parts.items name
