-- Names of TOML, as a text spells them.
use Rattle.std.specs.Prelude.{◌≡◌, ◌==◌, if◌then◌else◌, ℕ, List, [], ◌∷◌, ◌++◌, Some, slice_index}
use Rattle.toml_parser.specs.Lexical.{quote, apostrophe}
use Rattle.toml_parser.specs.Strings.{key}

-- the text is a key of TOML that consists of this one name
abbrev pub Spells : List ℕ → List ℕ → Type 0
Spells text name = key text ≡ Some (([], name), [])

-- between two such quotes, the text is a key of TOML that consists of this one name
abbrev pub SpellsBetween : List ℕ → List ℕ → List ℕ → Type 0
SpellsBetween quote text name = Spells ((quote ++ text) ++ quote) name

-- the quote with which the text begins, if that is the one of a literal string, and else the one of a basic string
abbrev pub quote_in : List ℕ → List ℕ
quote_in text = if slice_index text 0 == apostrophe then apostrophe ∷ [] else quote ∷ []
