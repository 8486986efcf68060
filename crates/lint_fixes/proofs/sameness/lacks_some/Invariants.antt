use Rattle.std.proofs.Common.{drop}
use Rattle.toml.specs.View.{items_view}
use Rattle.lint_fixes.specs.Sameness.{LacksSome}
use Rattle.lint_fixes.proofs.sameness.lacks_some.Given as goal

abbrev pub invariant-loop-entry : goal.invariant-loop-entry
invariant-loop-entry l =
    LacksSome (items_view (drop l.entry-index l.entries)) (items_view (drop l.kept l.fixed))
    → LacksSome (items_view l.entries) (items_view l.fixed)
