-- The lints, and how many items of a list are printed, by value.
use Rattle.std.specs.Prelude.{◌≡◌, List, [], ◌∷◌}
use Rattle.manifest_lints_findings.specs.declared.codes.KeyLint.{KeyLint}
use Rattle.manifest_lints_findings.specs.declared.codes.KeyLint.TheVariants as code
use Rattle.manifest_lints_findings.specs.declared.codes.TheConstants.{KEY_LINTS}
use Rattle.manifest_lints_findings.specs.declared.wording.TheConstants.{MAX_SHOWN}

-- all lints, each once, in the order in which they are reported for one key
abbrev pub all_codes : List KeyLint
all_codes =
    code.Refused ∷ code.NoTable ∷ code.ReadOtherwise ∷ code.Unsupported ∷ code.Never ∷ code.UnknownTarget
    ∷ code.UnknownFact ∷ code.Nowhere ∷ code.Same ∷ code.Equivalent ∷ code.Always ∷ code.Everywhere ∷ code.Custom
    ∷ code.NotCanonical ∷ []

abbrev pub AreAllCodes : Type 0
AreAllCodes = KEY_LINTS ≡ all_codes

-- the number of items of a list that are printed
abbrev pub IsMostShown : Type 0
IsMostShown = MAX_SHOWN ≡ 3
