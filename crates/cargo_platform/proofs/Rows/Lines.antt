-- The lines of some texts, and the first line that spells no fact.
use Rattle.std.proofs.Common.{◌≡◌, refl, arith, [], ◌∷◌, codes}
use Rattle.cargo_platform.specs.Trees.{CfgValue, Alone, KeyPair}
use Rattle.cargo_platform.specs.Spelling.{IsValueText}
use Rattle.cargo_platform.specs.Lines.{lines_of, line_at}
use Rattle.cargo_platform.specs.FactLines.{SpellFacts, SpellsNoFact, IsFirstNoFact}
use Rattle.cargo_platform.proofs.OnLiterals.{value_on_literal}
use Rattle.cargo_platform.proofs.Refused.{refused_spells_no_value}
use Rattle.cargo_platform.proofs.Rows.Trees.{name, marked}
use Rattle.cargo_platform.proofs.Rows.ValueFaults.{empty}

-- ---- lines

-- the empty text has no line, and a newline alone has one, which is empty
no_line : (lines_of [] ≡ []) × (lines_of (codes "\n") ≡ [] ∷ [])
no_line = (refl, refl)

-- the last line is the same with its end and without
last_end : (lines_of (codes "a\nb\n") ≡ codes "a" ∷ codes "b" ∷ [])
    × (lines_of (codes "a\nb") ≡ codes "a" ∷ codes "b" ∷ [])
last_end = (refl, refl)

-- an empty line between two lines is a line, and so is one after the last
empty_lines : (lines_of (codes "a\n\nb") ≡ codes "a" ∷ [] ∷ codes "b" ∷ [])
    × (lines_of (codes "a\n\n") ≡ codes "a" ∷ [] ∷ [])
empty_lines = (refl, refl)

-- a carriage return ends no line
carriage_return : lines_of (0x61 ∷ 0x0D ∷ 0x0A ∷ []) ≡ (0x61 ∷ 0x0D ∷ []) ∷ []
carriage_return = refl

-- lines are counted from 1, and after the last one there is the empty text
numbered : (line_at (lines_of (codes "a\nb")) 1 ≡ codes "a") × (line_at (lines_of (codes "a\nb")) 2 ≡ codes "b")
    × (line_at (lines_of (codes "a\nb")) 3 ≡ [])
numbered = (refl, refl, refl)

-- ---- facts

abbrev unix : CfgValue
unix = Alone (name (codes "unix"))

spells_unix : IsValueText (codes "unix") unix
spells_unix = value_on_literal (codes "unix") unix refl refl

-- spaces play no part, and the mark stays
two_facts : SpellFacts (lines_of (codes "unix\nr#k = \"1\"\n"))
    (unix ∷ KeyPair (marked (codes "k")) (codes "1") ∷ [])
two_facts =
    (spells_unix, (value_on_literal (codes "r#k = \"1\"") (KeyPair (marked (codes "k")) (codes "1")) refl refl, tt))

-- an empty line spells no fact
empty_line : SpellsNoFact []
empty_line c = refused_spells_no_value [] _ c empty

second_line : IsFirstNoFact (lines_of (codes "unix\n\nunix")) 2
second_line = record {
  numbered = (omega arith, omega arith);
  before = (unix ∷ [], (spells_unix, tt));
  here = empty_line;
}
