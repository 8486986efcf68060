use Rattle.std.proofs.Common.{◌≡◌, ◌∙◌, ap, sym, subst, [], ◌∷◌, ◌++◌, map, append_assoc}
use Rattle.std.proofs.lemmas.Result.{IfOk-weaker}
use Rattle.cargo_platform.specs.Trees.{tree_of}
use Rattle.cargo_platform.specs.Walk.{list_tree}
use Rattle.cargo_platform.specs.Inside.Folding.{stack, Within}
use Rattle.cargo_platform.proofs.folding.close.Goals as goal

pub returns-in-Continue-clause-stands : goal.returns-in-Continue-clause-stands
returns-in-Continue-clause-stands g c =
    let list = c.in-List.list in
    IfOk-weaker c.go_on.result _ _
    (λ next h e whole made within.
    let around = rw c.in-List.is at within in
    let es = around.1.0 in
    let more = rw c.in-Continue.is at (c.in_ok-so_far-in-List.ensures es e around.1.1 made) in
    h (es ++ e ∷ []) whole more
    (subst (λ t. Within (g.F.Fold.gathers c.args.f.now) (stack c.args.groups.now) t whole)
    (around.1.2 ∙ ap (list_tree list.neutral) (sym (append_assoc es (e ∷ []) (map tree_of list.members.now))))
    around.2))
    c.go_on.ensures.stands
