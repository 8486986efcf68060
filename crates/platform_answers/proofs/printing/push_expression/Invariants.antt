-- What was printed, and what is left to print.
use Rattle.std.proofs.Common.{◌≡◌, ◌+◌, ◌++◌, string_bytes}
use Rattle.cargo_platform.specs.Trees.{tree_of}
use Rattle.cargo_platform.specs.Print.{print}
use Rattle.platform_answers.specs.Printing.{stack, rest, print_next, work, work_of_next}
use Rattle.platform_answers.proofs.printing.push_expression.Given as goal

abbrev pub invariant-steps : goal.invariant-steps
invariant-steps l =
    string_bytes l.text ++ (print_next l.next ++ rest (stack l.groups))
    ≡ string_bytes l.fn.text ++ print (tree_of l.fn.e)

abbrev pub decreases-steps : goal.decreases-steps
decreases-steps l = work (stack l.groups) + work_of_next l.next
