use Rattle.std.proofs.Common.{ap, sym, ◌∙◌, Vec, Global}
use Rattle.cyclonedx.specs.declared.relations.Relation.{Relation}
use Rattle.cyclonedx.proofs.Relating.{none_related, goes_on_left_out, goes_on_related}
use Rattle.cyclonedx.proofs.relations.relations_of.Goals as goal
use Rattle.cyclonedx.proofs.relations.relations_of.Goals.{then-is_included+in_ok-relation_of+in_ok-push}
use Rattle.cyclonedx.proofs.relations.relations_of.Goals.{else-is_included}

pub nodes-init : goal.nodes-init
nodes-init c = none_related c.args.nodes.now _ c.new-relations.ensures.items

pub nodes-preserved : goal.nodes-preserved
nodes-preserved c =
    let nodes = c.args.nodes.now in
    let node = c.index-nodes-i.result in
    let items = λ (v : Vec Relation Global). v.items in
    let before = c.nodes.invariant in
    elim c.if-is_included.branch [
      | then-is_included+in_ok-relation_of+in_ok-push w ↦
          goes_on_related nodes c.nodes.i node c.nodes.relations.items c.if-is_included.relations.items
          w.in_ok-relation_of.field-0 c.nodes-test.true (sym c.index-nodes-i.is)
          (ap items w.relations-is ∙ w.in_ok-push.ensures.items) before
          (sym c.is_included.ensures ∙ w.if-is_included.true) w.in_ok-relation_of.ensures
      | else-is_included w ↦
          goes_on_left_out nodes c.nodes.i node c.nodes.relations.items c.if-is_included.relations.items
          c.nodes-test.true (sym c.index-nodes-i.is) (ap items w.relations-is) before
          (sym c.is_included.ensures ∙ w.if-is_included.false)
    ]
