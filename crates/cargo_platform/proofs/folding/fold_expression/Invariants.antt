use Rattle.std.proofs.Common.{◌+◌}
use Rattle.cargo_platform.specs.Trees.{tree_of}
use Rattle.cargo_platform.specs.Inside.Folding.{stack, Stands, work, left_of}
use Rattle.cargo_platform.proofs.folding.fold_expression.Given as goal

-- what is next, in the groups around it, makes the whole
abbrev pub invariant-steps : goal.invariant-steps
invariant-steps g l =
    Stands (g.F.Fold.makes l.f) (g.F.Fold.gathers l.f) (stack l.groups) l.next (tree_of l.fn.e)

abbrev pub decreases-steps : goal.decreases-steps
decreases-steps g l = work (stack l.groups) + left_of l.next
