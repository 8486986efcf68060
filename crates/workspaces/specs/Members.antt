-- Which folders are members of a workspace.
use Rattle.std.specs.Prelude.{ℕ, List, Contains}
use Rattle.std.specs.declared.vec.Vec.{Vec}
use Rattle.std.specs.declared.alloc.Global.{Global}
use Rattle.workspaces.specs.Stretches.{IsMatched}
use Rattle.workspaces.specs.Globs.{is_folders, IsNamedBy}
use Rattle.workspaces.specs.declared.patterns.Pattern.{Pattern}
use Rattle.workspaces.specs.declared.member_rules.MemberRules.{MemberRules}

-- the names from the root of the workspace to a folder
abbrev pub Path : Type 0
Path = List (Vec ℕ Global)

-- the path is stretches, one for each component of the pattern
abbrev pub IsMatchedBy : Pattern → Path → Type 0
IsMatchedBy pattern path =
    IsMatched is_folders (λ component name. IsNamedBy component name.items) pattern.components.items path

abbrev pub IsMatchedBySome : List Pattern → Path → Type 0
IsMatchedBySome patterns path = (p : Pattern) × Contains patterns p × IsMatchedBy p path

-- it is in or below an excluded folder, and in and below none that `members` names as it is
abbrev pub IsExcluded : MemberRules → Path → Type 0
IsExcluded rules path = IsMatchedBySome rules.excluded.items path × (IsMatchedBySome rules.named.items path → ⊥)

-- a pattern of `members` matches it, and it is not excluded
abbrev pub IsMember : MemberRules → Path → Type 0
IsMember rules path = IsMatchedBySome rules.members.items path × (IsExcluded rules path → ⊥)
