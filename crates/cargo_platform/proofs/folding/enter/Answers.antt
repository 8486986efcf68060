use Rattle.std.proofs.Common.{◌≡◌, ◌∙◌, ap, sym, subst, [], map}
use Rattle.std.proofs.lemmas.Result.{IfOk-weaker}
use Rattle.cargo_platform.specs.Trees.{tree_of}
use Rattle.cargo_platform.specs.Inside.Folding.{stack, Within}
use Rattle.cargo_platform.proofs.TreeViews.{tree_of-all, tree_of-any}
use Rattle.cargo_platform.proofs.folding.enter.Goals as goal

pub returns-in-All-clause-stands : goal.returns-in-All-clause-stands
returns-in-All-clause-stands g c =
    IfOk-weaker c.go_on.result _ _
    (λ next h whole within. h [] whole c.no_members.ensures
    (subst (λ e. Within (g.F.Fold.gathers c.args.f.now) (stack c.args.groups.now) e whole)
    (tree_of-all _ c.in-All.members _ c.deref-in-All.ensures.value c.in-All.is) within))
    c.go_on.ensures.stands

pub returns-in-Any-clause-stands : goal.returns-in-Any-clause-stands
returns-in-Any-clause-stands g c =
    IfOk-weaker c.go_on-in-Any.result _ _
    (λ next h whole within. h [] whole c.no_members-in-Any.ensures
    (subst (λ e. Within (g.F.Fold.gathers c.args.f.now) (stack c.args.groups.now) e whole)
    (tree_of-any _ c.in-Any.members _ c.deref-in-Any.ensures.value c.in-Any.is) within))
    c.go_on-in-Any.ensures.stands
