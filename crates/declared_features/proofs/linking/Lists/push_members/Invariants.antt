use Rattle.declared_features.specs.Lists.{Adds, SomeBelow}
use Rattle.declared_features.specs.Members.{IsOfDependency}
use Rattle.declared_features.specs.Inside.Names.{index_in}
use Rattle.declared_features.proofs.linking.Lists.push_members.Given as goal

abbrev pub invariant-found : goal.invariant-found
invariant-found l =
    Adds l.initial.members.items l.members.items
    (λ m. SomeBelow l.i l.self.found.now (λ i d. IsOfDependency (index_in l.self.names.now) l.entry i d m))
