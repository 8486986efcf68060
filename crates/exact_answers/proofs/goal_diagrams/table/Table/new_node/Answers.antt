use Rattle.std.proofs.Common.{◌∙◌, ap, subst, sym}
use Rattle.exact_answers.specs.Diagrams.{IsTable, value, nodes_of}
use Rattle.exact_answers.proofs.Tables.{made-along}
use Rattle.exact_answers.proofs.goal_diagrams.table.Table.new_node.Goals as goal

pub returns-clause-made : goal.returns-clause-made
returns-clause-made c =
    made-along c.args.self.now c.push.new.self c.place_last.new.self c.in_ok-place.place
    c.place_last.ensures.nodes
    (subst (λ js. IsTable (nodes_of c.place_last.new.self) js) (ap (λ v. v.items) (sym c.place_last.ensures.joined))
    (subst (λ ns. IsTable ns c.push.new.self.joined.items) (sym c.place_last.ensures.nodes)
    c.in_ok-place.ensures.made.table))
    c.in_ok-place.ensures.made

pub returns-clause-means : goal.returns-clause-means
returns-clause-means c = λ holds.
    ap (λ ns. value holds ns c.in_ok-place.place) c.place_last.ensures.nodes ∙ c.in_ok-place.ensures.means holds
