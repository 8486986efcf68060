-- Releases of rustc: the texts that mean them, and their order.
use Rattle.std.specs.Prelude.{◌≡◌, ◌⊎◌, ◌<◌, ◌≤◌, ◌^◌, ℕ, List, ◌∷◌, ◌++◌, codes}
use Rattle.std.specs.Fmt.{decimal}
use Rattle.former_names.specs.declared.releases.Release.{Release}

-- each number has at most 64 bits
abbrev pub IsWithin : Release → Type 0
IsWithin r = (r.major < 2 ^ 64) × (r.minor < 2 ^ 64) × (r.patch < 2 ^ 64)

-- all three numbers, with points between them
abbrev pub whole_text : Release → List ℕ
whole_text r = decimal r.major ++ (46 ∷ (decimal r.minor ++ (46 ∷ decimal r.patch)))

-- the text has the second and the third number, or only the second, and the third is 0
abbrev pub SpellsLast : List ℕ → ℕ → ℕ → Type 0
SpellsLast text minor patch =
    ((text ≡ decimal minor) × (patch ≡ 0)) ⊎ (text ≡ decimal minor ++ (46 ∷ decimal patch))

-- the text spells the release
abbrev pub IsSpelled : List ℕ → Release → Type 0
IsSpelled text r = IsWithin r × ((rest : List ℕ)
    × (text ≡ decimal r.major ++ (46 ∷ rest)) × SpellsLast rest r.minor r.patch)

-- the second release is the first one or a later one
abbrev pub IsAtMost : Release → Release → Type 0
IsAtMost a b = (a.major < b.major) ⊎ ((a.major ≡ b.major)
    × ((a.minor < b.minor) ⊎ ((a.minor ≡ b.minor) × (a.patch ≤ b.patch))))
