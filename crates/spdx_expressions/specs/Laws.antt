-- Consequences of the definitions.
use Rattle.std.specs.Prelude.{◌≡◌, ℕ, List, IsTrue, Contains}
use Rattle.spdx_expressions.specs.Trees.{Term, Tree, Piece}
use Rattle.spdx_expressions.specs.Grammar.{IsTreeText, Spells, AreTerms}
use Rattle.spdx_expressions.specs.Allowed.{is_allowed, truth}
use Rattle.spdx_expressions.specs.Print.{print}

-- a text spells at most one tree, and so do parts
abbrev pub SpellsOneTree : Type 0
SpellsOneTree = (text : List ℕ) (t u : Tree) → IsTreeText text t → IsTreeText text u → t ≡ u

abbrev pub PartsSpellOneTree : Type 0
PartsSpellOneTree = (ps : List Piece) (t u : Tree) → Spells 0 t ps → Spells 0 u ps → t ≡ u

-- the printed text of parts spells their tree
abbrev pub PrintSpells : Type 0
PrintSpells = (ps : List Piece) (t : Tree) → Spells 0 t ps → AreTerms ps → IsTreeText (print ps) t

-- the entries of one list are in another
abbrev pub IsWithin : List Term → List Term → Type 0
IsWithin few more = (entry : Term) → Contains few entry → Contains more entry

-- if more licences are allowed, whatever was satisfied is still satisfied
abbrev pub MoreSatisfies : Type 0
MoreSatisfies = (few more : List Term) (t : Tree) → IsWithin few more
    → IsTrue (truth (is_allowed few) t) → IsTrue (truth (is_allowed more) t)

-- neither the order of the entries nor their repetitions play a part
abbrev pub OrderIsIdle : Type 0
OrderIsIdle = (some others : List Term) (t : Tree) → IsWithin some others → IsWithin others some
    → truth (is_allowed some) t ≡ truth (is_allowed others) t
