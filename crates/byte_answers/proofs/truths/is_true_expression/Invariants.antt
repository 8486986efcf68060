use Rattle.std.proofs.Common.{◌≡◌, ◌++◌, List, length}
use Rattle.cargo_platform.specs.Trees.{Tree, trees_of}
use Rattle.cargo_platform.specs.Facts.{FactSet}
use Rattle.byte_answers.specs.Flat.{flats}
use Rattle.byte_answers.specs.Prepared.{Means}
use Rattle.byte_answers.specs.Truths.{AreTruths}
use Rattle.byte_answers.proofs.Building.{Leads}
use Rattle.byte_answers.proofs.truths.is_true_expression.Given as goal

-- the stack has the truths of the expressions that were read, and each expression of the bytes is still led to
abbrev pub invariant-records : goal.invariant-records
invariant-records l =
    (s : FactSet) → Means l.facts.texts.now l.facts.index.now l.facts.filter.now s
    → (st : List Tree) × ((l.bytes ≡ l.left ++ flats (trees_of st)) × Leads l.bytes l.left st
    × AreTruths s st l.built.items)

abbrev pub decreases-records : goal.decreases-records
decreases-records l = length l.left
