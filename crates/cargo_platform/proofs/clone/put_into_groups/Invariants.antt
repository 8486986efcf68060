use Rattle.std.proofs.Common.{◌≡◌, ◌≤◌}
use Rattle.cargo_platform.specs.Trees.{tree_of}
use Rattle.cargo_platform.specs.Inside.Copying.{whole, work}
use Rattle.cargo_platform.proofs.clone.put_into_groups.Given as goal

-- the copy, in the groups around it, is the whole
abbrev pub invariant-groups : goal.invariant-groups
invariant-groups l =
    (whole l.groups (tree_of l.copy) ≡ whole l.initial.groups (tree_of l.fn.copied))
    × (work l.groups ≤ work l.initial.groups)

abbrev pub decreases-groups : goal.decreases-groups
decreases-groups l = work l.groups
