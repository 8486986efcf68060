-- The findings on the first packages, and on one more.
use Rattle.std.proofs.Common.{◌≡◌, ℕ, ◌<◌, ◌+◌, List, [], ◌∷◌, ◌++◌, take, length, get_or, sym, ap, ◌∙◌}
use Rattle.std.proofs.Common.{subst, Some, None, arith}
use Rattle.std.proofs.lemmas.List.{take_more, length-take-le}
use Rattle.spdx_expressions.specs.Trees.{Term}
use Rattle.licence_audits.specs.Audits.{AreFindings, of_none, passed, findings, IsFindingOf}
use Rattle.licence_audits.specs.declared.subjects.Subject.{Subject}
use Rattle.licence_audits.specs.declared.subjects.Exception.{Exception}
use Rattle.licence_audits.specs.declared.audits.PackageFinding.{PackageFinding}

-- the first subjects and one more
one_more : (subjects : List Subject) (i : ℕ) (s : Subject) → i < length subjects → s ≡ get_or subjects i s
    → take (i + 1) subjects ≡ take i subjects ++ s ∷ []
one_more subjects i s below is =
    take_more subjects i s below ∙ ap (λ (x : Subject). take i subjects ++ x ∷ []) (sym is)

pub none_found : (allowed : List Term) (exceptions : List Exception) (ts : List PackageFinding) → ts ≡ []
    → AreFindings allowed exceptions [] ts
none_found allowed exceptions ts is =
    subst (λ (us : List PackageFinding). AreFindings allowed exceptions [] us) (sym is) of_none

pub goes_on_passed : (allowed : List Term) (exceptions : List Exception) (subjects : List Subject) (i : ℕ) (s : Subject)
    (ts us : List PackageFinding) → i < length subjects → s ≡ get_or subjects i s → us ≡ ts
    → AreFindings allowed exceptions (take i subjects) ts → IsFindingOf allowed exceptions s None
    → AreFindings allowed exceptions (take (i + 1) subjects) us
goes_on_passed allowed exceptions subjects i s ts us below is same before none =
    subst (λ (vs : List PackageFinding). AreFindings allowed exceptions (take (i + 1) subjects) vs) (sym same)
    (subst (λ (ss : List Subject). AreFindings allowed exceptions ss ts) (sym (one_more subjects i s below is))
    (passed (take i subjects) s ts before none))

pub goes_on_found : (allowed : List Term) (exceptions : List Exception) (subjects : List Subject) (i : ℕ) (s : Subject)
    (ts us : List PackageFinding) (t : PackageFinding) → i < length subjects → s ≡ get_or subjects i s
    → us ≡ ts ++ t ∷ [] → t.place ≡ i
    → AreFindings allowed exceptions (take i subjects) ts → IsFindingOf allowed exceptions s (Some t.finding)
    → AreFindings allowed exceptions (take (i + 1) subjects) us
goes_on_found allowed exceptions subjects i s ts us t below is pushed place before found =
    subst (λ (vs : List PackageFinding). AreFindings allowed exceptions (take (i + 1) subjects) vs) (sym pushed)
    (subst (λ (ss : List Subject). AreFindings allowed exceptions ss (ts ++ t ∷ []))
    (sym (one_more subjects i s below is))
    (findings (take i subjects) s ts t before (place ∙ sym (length-take-le i subjects (omega arith))) found))
