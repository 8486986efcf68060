use Rattle.std.proofs.Common.{◌≡◌, ◌∙◌, sym, ap, subst, string_bytes}
use Rattle.std.proofs.lemmas.Result.{IfOk-weaker}
use Rattle.cargo_platform.specs.Trees.{Tree, tree_of}
use Rattle.cargo_platform.specs.Facts.{FactSet, truth}
use Rattle.cargo_platform.specs.Spelling.{IsTreeText}
use Rattle.cargo_platform.specs.Print.{print}
use Rattle.partial_facts.specs.Residual.{residual_tree}
use Rattle.callers.proofs.partial.planner.plan.Goals as goal

pub returns-clause-stored : goal.returns-clause-stored
returns-clause-stored g c =
    let d : Tree = tree_of c.in_ok-left.left in
    let left : Tree = residual_tree (g.K.Knowledge.told c.args.known.now) (tree_of c.args.e.now) in
    IfOk-weaker c.text_of.result (λ text. string_bytes text ≡ print d) (λ text. string_bytes text ≡ print left)
    (λ text is. is ∙ ap print c.in_ok-left.ensures.exact) c.text_of.ensures

pub returns-clause-asks_the_same : goal.returns-clause-asks_the_same
returns-clause-asks_the_same g c =
    let d : Tree = tree_of c.in_ok-left.left in
    let e : Tree = tree_of c.args.e.now in
    let spelled : IsTreeText (print d) d =
    c.print_spells.ensures.expressions d (c.in_ok-left.ensures.well_formed c.requires) in
    IfOk-weaker c.text_of.result (λ text. string_bytes text ≡ print d)
    (λ text. (x : Tree) × IsTreeText (string_bytes text) x
    × ((s : FactSet) → g.K.Knowledge.allows c.args.known.now s → truth s x ≡ truth s e))
    (λ text is. (d, subst (λ bs. IsTreeText bs d) (sym is) spelled, λ s a. c.in_ok-left.ensures.sound s a))
    c.text_of.ensures
