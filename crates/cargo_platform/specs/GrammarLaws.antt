-- Laws of the two grammars of tokens: a list of tokens spells at most one thing, and only well-formed ones.
use Rattle.std.specs.Prelude.{◌≡◌, List}
use Rattle.std.specs.List.{AllByRecursion}
use Rattle.cargo_platform.specs.Tokens.{Lexeme, IsWellWritten}
use Rattle.cargo_platform.specs.Trees.{CfgValue, Tree}
use Rattle.cargo_platform.specs.Spelling.{value_spelling, Spells}
use Rattle.cargo_platform.specs.WellFormed.{IsWellFormedValue, IsWellFormed}

-- a list of tokens spells at most one tree
abbrev pub HasOneTree : List Lexeme → Type 0
HasOneTree ts = (d e : Tree) → Spells d ts → Spells e ts → d ≡ e

-- a list of tokens spells at most one name or pair
abbrev pub HasOneValue : List Lexeme → Type 0
HasOneValue ts = (c d : CfgValue) → ts ≡ value_spelling c → ts ≡ value_spelling d → c ≡ d

-- a list of well-written tokens spells only well-formed values and trees
abbrev pub SpellsWellFormed : List Lexeme → Type 0
SpellsWellFormed ts =
    AllByRecursion IsWellWritten ts
    → ((c : CfgValue) → ts ≡ value_spelling c → IsWellFormedValue c)
    × ((e : Tree) → Spells e ts → IsWellFormed e)
