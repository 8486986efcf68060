-- Laws of releases, of verdicts and of the table.
use Rattle.std.specs.Prelude.{◌≡◌, ◌⊎◌, Option}
use Rattle.former_names.specs.Releases.{IsAtMost}
use Rattle.former_names.specs.Verdicts.{IsVerdict}
use Rattle.former_names.specs.declared.releases.Release.{Release}
use Rattle.former_names.specs.declared.rows.RemovalReleases.{RemovalReleases}
use Rattle.former_names.specs.declared.verdicts.Verdict.{Verdict}

abbrev pub IsTotal : Type 0
IsTotal = (a b : Release) → IsAtMost a b ⊎ IsAtMost b a

abbrev pub IsTransitive : Type 0
IsTransitive = (a b c : Release) → IsAtMost a b → IsAtMost b c → IsAtMost a c

abbrev pub IsAntisymmetric : Type 0
IsAntisymmetric = (a b : Release) → IsAtMost a b → IsAtMost b a → a ≡ b

-- a project has exactly one verdict
abbrev pub HasOneVerdict : Type 0
HasOneVerdict = (b : RemovalReleases) (rustc version : Option Release) (v w : Verdict)
    → IsVerdict b rustc version v → IsVerdict b rustc version w → v ≡ w
