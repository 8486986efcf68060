use Rattle.std.proofs.Common.{◌≡◌, ◌++◌, length}
use Rattle.cargo_platform.specs.Trees.{trees_of}
use Rattle.byte_answers.specs.Flat.{flats}
use Rattle.byte_answers.specs.Pieces.{stack_of}
use Rattle.byte_answers.proofs.Building.{Leads}
use Rattle.byte_answers.proofs.unflat.unflat_expression.Given as goal

-- what is left and what was built of the rest; and each expression of the bytes is still led to
abbrev pub invariant-records : goal.invariant-records
invariant-records l =
    (l.bytes ≡ l.left ++ flats (trees_of (stack_of l.built.items))) × Leads l.bytes l.left (stack_of l.built.items)

abbrev pub decreases-records : goal.decreases-records
decreases-records l = length l.left
