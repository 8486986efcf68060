-- The depth of a text: the number of its parentheses that are open at once, apart from those within quotes.
use Rattle.std.specs.Prelude.{List, ℕ}
use Rattle.std.specs.Str.{IsUtf8}
use Rattle.cargo_platform.specs.Nesting.{IsNestedBeyond}
use Rattle.byte_answers.specs.declared.depth.TheConstants.{MAX_OPEN}

-- more than MAX_OPEN parentheses are open somewhere in the text
unfoldable pub IsTooDeep : List ℕ → Type 0
IsTooDeep text = IsNestedBeyond text MAX_OPEN

-- a text that calls accept for parsing: UTF-8, and not too deep
abbrev pub IsReadable : List ℕ → Type 0
IsReadable text = IsUtf8 text × (IsTooDeep text → ⊥)
