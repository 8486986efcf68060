-- Exceptions: for which packages they count, and what they allow for these.
use Rattle.std.specs.Prelude.{Bool, true, false, not, ◌&&◌, List, [], ◌∷◌, ◌++◌, map, Option, Some, None, bytes_eq}
use Rattle.std.specs.Prelude.{if◌then◌else◌, is_some, string_bytes, Vec}
use Rattle.std.specs.Global.{Global}
use Rattle.std.specs.List.{list_any}
use Rattle.semver.specs.Eval.{matches_all}
use Rattle.semver.specs.declared.Version.{Version}
use Rattle.semver.specs.declared.VersionReq.{VersionReq}
use Rattle.spdx_expressions.specs.Trees.{Term, term_of}
use Rattle.spdx_expressions.specs.declared.Licence.{Licence}
use Rattle.licence_audits.specs.declared.subjects.Subject.{Subject}
use Rattle.licence_audits.specs.declared.subjects.Exception.{Exception}
use Rattle.licence_audits.specs.declared.subjects.PackageSpec.{PackageSpec}

-- the range has the version; without a range, each version is in it
abbrev pub has_version : Option VersionReq → Option Version → Bool
has_version None v = true
has_version (Some req) None = false
has_version (Some req) (Some v) = matches_all req.comparators.items v

-- the package has the name, and its version is in the range
abbrev pub covers : PackageSpec → Subject → Bool
covers p s = bytes_eq (string_bytes p.name) s.name.now && has_version p.versions s.version

-- the exception has no list, and counts for the package
abbrev pub is_free : Exception → Subject → Bool
is_free e s = not (is_some e.licences) && covers e.packages s

-- the package is not audited because of one of the exceptions
abbrev pub is_excepted : List Exception → Subject → Bool
is_excepted exceptions s = list_any (λ e. is_free e s) exceptions

-- the package is in the build, and no exception frees it
abbrev pub is_audited : List Exception → Subject → Bool
is_audited exceptions s = s.is_present && not (is_excepted exceptions s)

-- the licences of a list, and none if there is no list
abbrev pub terms_of : Option (Vec Licence Global) → List Term
terms_of None = []
terms_of (Some licences) = map term_of licences.items

-- what an exception adds for a package to the licences that are allowed: its own, if it counts for the package
abbrev pub added_by : Exception → Subject → List Term
added_by e s = if covers e.packages s then terms_of e.licences else []

-- what the exceptions add, in their order
abbrev pub added : List Exception → Subject → List Term
added [] s = []
added (e ∷ es) s = added_by e s ++ added es s
