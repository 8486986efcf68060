use Rattle.std.proofs.Common.{ℕ, List}
use Rattle.lint_fixes.specs.Fixing.{IsFixOf}
use Rattle.lint_fixes.specs.Names.{IsRename}
use Rattle.lint_fixes.proofs.fixing.renames_of.Given as goal

abbrev pub invariant-loop-fix : goal.invariant-loop-fix
invariant-loop-fix l = (name new : List ℕ) → IsRename l.renames name new → IsFixOf l.fixes name new
