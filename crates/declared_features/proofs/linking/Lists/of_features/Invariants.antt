use Rattle.std.proofs.Common.{◌≡◌, length, take}
use Rattle.declared_features.specs.Members.{SomeStandsFor, HasListsOf}
use Rattle.declared_features.specs.Inside.Names.{index_in}
use Rattle.declared_features.proofs.linking.Lists.of_features.Given as goal

abbrev pub invariant-features : goal.invariant-features
invariant-features l =
    (length l.features.items ≡ l.i)
    × HasListsOf (SomeStandsFor (index_in l.self.names.now) l.self.node l.self.found.now)
    (take l.i l.manifest.features.items)
    l.features.items
