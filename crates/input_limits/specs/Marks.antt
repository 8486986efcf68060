-- A byte order mark, which some editors write before a text.
use Rattle.std.specs.Prelude.{◌≡◌, ◌⊎◌, ℕ, List, [], ◌∷◌, ◌++◌}

-- the three bytes of the mark
abbrev pub byte_order_mark : List ℕ
byte_order_mark = 239 ∷ 187 ∷ 191 ∷ []

-- the text is the mark and this rest, or it does not begin with the mark and is the rest
abbrev pub IsUnmarked : List ℕ → List ℕ → Type 0
IsUnmarked text rest =
    (text ≡ byte_order_mark ++ rest) ⊎ (((more : List ℕ) → text ≡ byte_order_mark ++ more → ⊥) × (rest ≡ text))
