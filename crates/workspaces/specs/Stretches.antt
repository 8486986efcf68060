-- Lists that are cut into stretches, one for each piece of a pattern.
use Rattle.std.specs.Prelude.{◌≡◌, ◌⊎◌, Bool, IsTrue, IsFalse, List, [], ◌∷◌, ◌++◌}

-- a piece of many matches any stretch, and another one item
abbrev pub Matches : {P T : Type 0} → (P → Bool) → (P → T → Type 0) → P → List T → Type 0
Matches {P} {T} is_many matches p front = IsTrue (is_many p)
    ⊎ (IsFalse (is_many p) × ((x : T) × (front ≡ x ∷ []) × matches p x))

-- the items are stretches, one for each piece in their order, each of which its piece matches
abbrev pub IsMatched : {P T : Type 0} → (P → Bool) → (P → T → Type 0) → List P → List T → Type 0
IsMatched {P} {T} is_many matches [] xs = xs ≡ []
IsMatched {P} {T} is_many matches (p ∷ ps) xs = (front : List T) × (rest : List T) × (xs ≡ front ++ rest)
    × Matches is_many matches p front × IsMatched is_many matches ps rest
