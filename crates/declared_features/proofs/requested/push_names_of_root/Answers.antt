use Rattle.std.proofs.Common.{◌≡◌, ℕ, List, subst}
use Rattle.declared_features.specs.Lists.{Adds}
use Rattle.declared_features.specs.Requested.{without_root}
use Rattle.declared_features.specs.Inside.Names.{texts_in}
use Rattle.declared_features.proofs.Collecting.{adding_start, adding_next, adding_end, text_added}
use Rattle.declared_features.proofs.requested.push_names_of_root.Goals as goal

pub names-init : goal.names-init
names-init c = adding_start (texts_in c.args.texts.now.items) c.args.names.now
    (λ name t. without_root c.args.called.now name.now ≡ t)

pub names-preserved : goal.names-preserved
names-preserved c =
    adding_next (texts_in c.args.texts.now.items) (texts_in c.names.texts.items) (texts_in c.push.new.self.items)
    c.args.names.now c.names.i _ (λ name t. without_root c.args.called.now name.now ≡ t) c.names-test.true
    (subst (λ (x : List ℕ). Adds (texts_in c.names.texts.items) (texts_in c.push.new.self.items) (λ t. x ≡ t))
    c.text_requested.ensures
    (text_added c.names.texts.items c.push.new.self.items c.text_requested.result c.in_ok-push.ensures.items))
    c.names.invariant

pub returns : goal.returns
returns c =
    adding_end (texts_in c.args.texts.now.items) (texts_in c.names.texts.items) c.args.names.now c.names.i
    (λ name t. without_root c.args.called.now name.now ≡ t) c.names-test.false c.names.invariant
