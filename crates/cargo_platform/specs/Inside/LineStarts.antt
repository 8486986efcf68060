-- For proofs: the rest of a text from a line on.
use Rattle.std.specs.Prelude.{◌≡◌, ℕ, ◌+◌, ◌≤◌, List, ◌∷◌, ◌++◌, length}
use Rattle.std.specs.List.{AllByRecursion}
use Rattle.cargo_platform.specs.Lines.{lines_of, IsUnbroken, ended}
use Rattle.cargo_platform.specs.FactLines.{BeginsLine}

-- the rest of the text after this many lines and their ends
abbrev pub IsBehind : List ℕ → ℕ → List ℕ → Type 0
IsBehind text many rest =
    (ls : List (List ℕ)) × AllByRecursion IsUnbroken ls × (text ≡ ended ls ++ rest) × (length ls ≡ many)

-- the line is the first of a text
abbrev pub IsFirstLine : List ℕ → List ℕ → Type 0
IsFirstLine text line = (others : List (List ℕ)) × (lines_of text ≡ line ∷ others) × (length line ≤ length text)

-- the line with this number begins at this byte of the text, and is within it
abbrev pub HoldsLine : List ℕ → ℕ → List ℕ → ℕ → Type 0
HoldsLine text number line place = BeginsLine text number line place × (place + length line ≤ length text)
