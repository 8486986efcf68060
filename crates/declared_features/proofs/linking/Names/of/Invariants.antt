use Rattle.declared_features.specs.Inside.Names.{AreNamesBelow}
use Rattle.declared_features.proofs.linking.Names.of.Given as goal

abbrev pub invariant-nodes : goal.invariant-nodes
invariant-nodes l = AreNamesBelow l.node l.declarations (record { features = l.features })
