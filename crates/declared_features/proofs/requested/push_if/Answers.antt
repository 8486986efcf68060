use Rattle.std.proofs.Common.{◌≡◌, true}
use Rattle.declared_features.specs.Inside.Names.{texts_in}
use Rattle.declared_features.proofs.Collecting.{adds_as, text_added}
use Rattle.declared_features.proofs.requested.push_if.Goals as goal

pub returns-in_ok-push : goal.returns-in_ok-push
returns-in_ok-push c =
    adds_as (texts_in c.args.texts.now.items) (texts_in c.push.new.self.items) (λ t. c.args.text.now ≡ t)
    (λ t. (c.args.is_requested ≡ true) × (c.args.text.now ≡ t))
    (text_added c.args.texts.now.items c.push.new.self.items c.args.text c.in_ok-push.ensures.items)
    (λ t is. (c.if-is_requested.true, is)) (λ t is. is.1)
