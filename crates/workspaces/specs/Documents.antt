-- Which document of TOML a text is.
use Rattle.std.specs.Prelude.{◌≡◌, ℕ, List, Option}
use Rattle.toml.specs.Data.{Members}
use Rattle.toml.specs.Parse.{parse_document}
use Rattle.input_limits.specs.Marks.{IsUnmarked}

-- without a byte order mark, the text spells this table or, if there is none, is not TOML
abbrev pub SpellsTable : List ℕ → Option Members → Type 0
SpellsTable text found = (rest : List ℕ) × IsUnmarked text rest × (parse_document rest ≡ found)
