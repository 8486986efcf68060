use Rattle.std.proofs.Common.{take}
use Rattle.declared_features.specs.Lists.{HasJust}
use Rattle.declared_features.specs.Members.{SomeStandsFor}
use Rattle.declared_features.specs.Inside.Names.{index_in}
use Rattle.declared_features.proofs.linking.Lists.members.Given as goal

abbrev pub invariant-entries : goal.invariant-entries
invariant-entries l =
    HasJust l.members.items
    (SomeStandsFor (index_in l.self.names.now) l.self.node l.self.found.now (take l.i l.entries))
