-- The result of an audit of packages.
use Rattle.std.specs.Prelude.{◌≡◌, true, false, ◌⊎◌, List, [], ◌∷◌, ◌++◌, length, Option, Some, None, option_map}
use Rattle.spdx_expressions.specs.Trees.{Term}
use Rattle.licence_audits.specs.Findings.{HasFinding}
use Rattle.licence_audits.specs.Exceptions.{is_audited, added}
use Rattle.licence_audits.specs.declared.findings.Finding.{Finding}
use Rattle.licence_audits.specs.declared.subjects.Subject.{Subject}
use Rattle.licence_audits.specs.declared.subjects.Exception.{Exception}
use Rattle.licence_audits.specs.declared.audits.PackageFinding.{PackageFinding}

-- the result for a package: nothing if it is not audited, or else the finding about its licence, over the list and what
-- exceptions add to it for this package
abbrev pub IsFindingOf : List Term → List Exception → Subject → Option Finding → Type 0
IsFindingOf allowed exceptions s found =
    ((is_audited exceptions s ≡ false) × (found ≡ None))
    ⊎ ((is_audited exceptions s ≡ true)
    × HasFinding (added exceptions s ++ allowed) (option_map (λ text. text.now) s.license) found)

-- the results for packages, in their order, each with its index
pub data AreFindings (allowed : List Term) (exceptions : List Exception) : List Subject → List PackageFinding
    → Type 0 where
  of_none : AreFindings allowed exceptions [] []
  passed : (ss : List Subject) (s : Subject) (ts : List PackageFinding) → AreFindings allowed exceptions ss ts
      → IsFindingOf allowed exceptions s None → AreFindings allowed exceptions (ss ++ s ∷ []) ts
  findings : (ss : List Subject) (s : Subject) (ts : List PackageFinding) (t : PackageFinding)
      → AreFindings allowed exceptions ss ts
      → t.place ≡ length ss → IsFindingOf allowed exceptions s (Some t.finding)
      → AreFindings allowed exceptions (ss ++ s ∷ []) (ts ++ t ∷ [])
