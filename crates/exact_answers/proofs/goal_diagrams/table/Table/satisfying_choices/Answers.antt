use Rattle.std.proofs.Common.{◌∙◌, subst, refl, arith}
use Rattle.std.proofs.lemmas.Bool.{false≢true}
use Rattle.exact_answers.specs.Diagrams.{Agrees, nodes_of}
use Rattle.exact_answers.proofs.Tables.{agrees-more, way-step, way-end, next-less, next-not-false}
use Rattle.exact_answers.proofs.goal_diagrams.table.Table.satisfying_choices.Goals as goal

pub nodes-init : goal.nodes-init
nodes-init c =
    record { inside = c.requires.place; not_false = c.requires.not_false; means = λ holds agrees. refl }

pub nodes-preserved : goal.nodes-preserved
nodes-preserved c =
    let ns = nodes_of c.args.self.now in
    let less = next-less ns c.in-Some.node c.nodes.at c.chosen-next.result _ c.in-Some.ensures.node
    c.chosen-next.ensures in
    record {
      inside = omega (arith, less, c.nodes.invariant.inside);
      not_false =
          next-not-false ns c.in-Some.node c.nodes.at c.chosen-next.result _ c.in-Some.ensures.node refl
          c.chosen-next.ensures;
      means = λ holds agrees.
          let more =
          agrees-more holds c.nodes.choices.items _ (subst (Agrees holds) c.in_ok-push.ensures.items agrees) in
          c.nodes.invariant.means holds more.0
          ∙ way-step holds ns c.in-Some.node c.nodes.at c.chosen-next.result _ c.in-Some.ensures.node more.1
          c.chosen-next.ensures;
    }

pub nodes-smaller : goal.nodes-smaller
nodes-smaller c =
    next-less (nodes_of c.args.self.now) c.in-Some.node c.nodes.at c.chosen-next.result _ c.in-Some.ensures.node
    c.chosen-next.ensures

pub returns : goal.returns
returns c = λ holds agrees.
    c.nodes.invariant.means holds agrees
    ∙ way-end holds (nodes_of c.args.self.now) c.nodes.at c.nodes.invariant.not_false
    (λ two. false≢true (c.in_default.ensures.some two c.nodes.invariant.inside))
