-- The truths of expressions on a stack, as the records of a flat condition are read from the last one on.
use Rattle.std.specs.Prelude.{◌≡◌, Bool, List, map, reverse}
use Rattle.cargo_platform.specs.Trees.{CfgValue, Tree}
use Rattle.cargo_platform.specs.Facts.{FactSet, pair_of, truth}
use Rattle.byte_answers.specs.declared.truths.Found.{Found}
use Rattle.byte_answers.specs.declared.truths.Found.TheVariants as found
use Rattle.byte_answers.specs.Pieces.{Piece, leaf, yes, no, negation, all_of, any_of}
use Rattle.byte_answers.specs.Prepared.{IsSought}

-- what is found is this piece
abbrev pub IsFound : Found → Piece → Type 0
IsFound (found.Fact sought) p = (c : CfgValue) × ((p ≡ leaf c) × IsSought sought (pair_of c))
IsFound found.True p = p ≡ yes
IsFound found.False p = p ≡ no
IsFound found.Not p = p ≡ negation
IsFound (found.All n) p = p ≡ all_of n
IsFound (found.Any n) p = p ≡ any_of n

-- the truths of a stack of expressions, whose top comes first, are those on a stack of the program
abbrev pub AreTruths : FactSet → List Tree → List Bool → Type 0
AreTruths s st built = map (truth s) st ≡ reverse built
