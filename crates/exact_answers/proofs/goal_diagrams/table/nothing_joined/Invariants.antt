use Rattle.std.proofs.Common.{[]}
use Rattle.std.specs.List.{All}
use Rattle.exact_answers.specs.Diagrams.{IsJoin}
use Rattle.exact_answers.proofs.goal_diagrams.table.nothing_joined.Given as goal

abbrev pub invariant-entries : goal.invariant-entries
invariant-entries l = All (IsJoin []) l.all.items
