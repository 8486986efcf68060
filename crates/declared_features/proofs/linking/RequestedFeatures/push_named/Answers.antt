use Rattle.std.proofs.lemmas.Bool.{eq-eqb, ne_eqb}
use Rattle.declared_features.proofs.linking.RequestedFeatures.push_named.Goals as goal

pub returns-in_default : goal.returns-in_default
returns-in_default c = rw c.in_default.is c.push_names_of_root.ensures

pub returns-then-current-node : goal.returns-then-current-node
returns-then-current-node c =
    rw c.in-Some.is (rw (eq-eqb c.in-Some.current c.args.node c.if-current-node.true) c.push_names.ensures)

pub returns-else-current-node : goal.returns-else-current-node
returns-else-current-node c =
    rw c.in-Some.is
    (rw (ne_eqb c.in-Some.current c.args.node c.if-current-node.false) c.push_names_of_other.ensures)
