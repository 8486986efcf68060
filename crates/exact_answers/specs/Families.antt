-- The rule by which rustc sets the facts of families.
use Rattle.std.specs.Prelude.{◌≡◌, ℕ, List, Some, None, codes}
use Rattle.std.specs.FinSet.{contains}
use Rattle.cargo_platform.specs.Facts.{FactSet}

-- the family's name, as `unix`, is a fact exactly where the pair of `target_family` with it is
abbrev pub IsSetWithFamily : FactSet → List ℕ → Type 0
IsSetWithFamily s family =
    contains s (record { name = family; value = None })
    ≡ contains s (record { name = codes "target_family"; value = Some family })

abbrev pub KeepsFamilyRule : FactSet → Type 0
KeepsFamilyRule s = IsSetWithFamily s (codes "unix") × IsSetWithFamily s (codes "windows")
