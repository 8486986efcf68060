use Rattle.std.proofs.Common.{◌≡◌, take}
use Rattle.std.specs.Prelude.{Any}
use Rattle.declared_features.specs.Lists.{Adds}
use Rattle.declared_features.specs.Requested.{without_root}
use Rattle.declared_features.specs.Inside.Names.{texts_in}
use Rattle.declared_features.proofs.requested.push_names_of_root.Given as goal

abbrev pub invariant-names : goal.invariant-names
invariant-names l =
    Adds (texts_in l.initial.texts.items) (texts_in l.texts.items)
    (λ t. Any (λ name. without_root l.called name.now ≡ t) (take l.i l.names))
