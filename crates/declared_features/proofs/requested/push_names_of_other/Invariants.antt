use Rattle.std.proofs.Common.{◌≡◌, take}
use Rattle.std.specs.Prelude.{Any}
use Rattle.declared_features.specs.Lists.{Adds}
use Rattle.declared_features.specs.Inside.Names.{texts_in}
use Rattle.declared_features.proofs.requested.push_names_of_other.Given as goal

abbrev pub invariant-others : goal.invariant-others
invariant-others l =
    Adds (texts_in l.initial.texts.items) (texts_in l.texts.items)
    (λ t. Any (λ other. (other.0.now ≡ l.called) × (other.1.now ≡ t)) (take l.i l.others))
