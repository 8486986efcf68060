-- The lines of an input, which are those of the library's definition.
use Rattle.std.specs.Prelude.{ℕ, List, drop}
pub use Rattle.cargo_platform.specs.Lines.{line, lines_of, line_at}

-- the lines of facts: those from the third one on
abbrev pub fact_lines : List (List ℕ) → List (List ℕ)
fact_lines ls = drop 2 ls
