use Rattle.std.proofs.Common.{sym, subst, []}
use Rattle.std.specs.List.{All}
use Rattle.std.proofs.lemmas.List.Elements.{All-push, All-nil}
use Rattle.exact_answers.specs.Diagrams.{IsJoin}
use Rattle.exact_answers.proofs.Tables.{first-join}
use Rattle.exact_answers.proofs.goal_diagrams.table.nothing_joined.Goals as goal

pub entries-init : goal.entries-init
entries-init c = subst (All (IsJoin [])) (sym c.in_ok-all.ensures.items) (All-nil (IsJoin []))

pub entries-preserved : goal.entries-preserved
entries-preserved c =
    subst (All (IsJoin [])) (sym c.in_ok-push.ensures.items)
    (All-push (IsJoin []) _ _ c.entries.invariant first-join)
