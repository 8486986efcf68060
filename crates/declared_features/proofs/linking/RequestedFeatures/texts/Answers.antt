use Rattle.std.proofs.Common.{◌≡◌, Bool, true, codes, ap, subst}
use Rattle.declared_features.specs.Lists.{Adds}
use Rattle.declared_features.specs.Requested.{IsDefaultText, IsByName}
use Rattle.declared_features.specs.Inside.Names.{texts_in}
use Rattle.declared_features.proofs.Collecting.{just_two}
use Rattle.declared_features.proofs.linking.RequestedFeatures.texts.Goals as goal

pub returns : goal.returns
returns c =
    let self = c.args.self.now in
    let old = texts_in c.new-texts.result.items in
    let mid = texts_in c.push_if.new.texts.items in
    just_two old mid (texts_in c.push_named.new.texts.items) (IsDefaultText self c.args.node)
    (IsByName self.current self c.args.called.now c.args.node) (ap texts_in c.new-texts.ensures.items)
    (subst (λ (b : Bool). Adds old mid (λ t. (b ≡ true) × (codes "default" ≡ t))) c.has_default.ensures
    c.in_ok-push_if.ensures)
    c.in_ok-push_named.ensures
