-- What it means for a project that rustc no longer knows a name.
use Rattle.std.specs.Prelude.{◌≡◌, ◌⊎◌, ◌+◌, Option}
use Rattle.std.specs.Option.{IsSomeAnd}
use Rattle.former_names.specs.Releases.{IsAtMost}
use Rattle.former_names.specs.declared.releases.Release.{Release}
use Rattle.former_names.specs.declared.rows.RemovalReleases.{RemovalReleases}
use Rattle.former_names.specs.declared.verdicts.Verdict.{Verdict}
use Rattle.former_names.specs.declared.verdicts.Verdict.TheVariants.{Known, Gone, GoneForAll}

-- a rustc is named, and is at most the last release that is known to have the name
abbrev pub IsKnownTo : RemovalReleases → Option Release → Type 0
IsKnownTo b rustc = IsSomeAnd rustc (λ r. IsAtMost r b.last)

-- a release is named, and is at least the first one that is known to lack the name
abbrev pub IsLacking : RemovalReleases → Option Release → Type 0
IsLacking b named = IsSomeAnd named (λ r. IsAtMost b.gone r)

-- the second minor number follows the first
abbrev pub IsClose : RemovalReleases → Type 0
IsClose b = (b.last.major ≡ b.gone.major) × (b.gone.minor ≡ 1 + b.last.minor)

-- the project's rustc lacks the name, or the oldest rustc that may build it does
abbrev pub IsGoneForAll : RemovalReleases → Option Release → Option Release → Type 0
IsGoneForAll b rustc version = IsLacking b rustc ⊎ IsLacking b version

abbrev pub IsVerdict : RemovalReleases → Option Release → Option Release → Verdict → Type 0
IsVerdict b rustc version Known = IsKnownTo b rustc
IsVerdict b rustc version GoneForAll = (IsKnownTo b rustc → ⊥) × IsGoneForAll b rustc version
IsVerdict b rustc version Gone = (IsKnownTo b rustc → ⊥) × (IsGoneForAll b rustc version → ⊥)
