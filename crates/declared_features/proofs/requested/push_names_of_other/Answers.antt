use Rattle.std.proofs.Common.{◌≡◌, ◌∙◌, sym, ℕ, List, Bool, true}
use Rattle.std.specs.Prelude.{bytes_eq}
use Rattle.std.proofs.lemmas.Slice.Eq.{bytes_eq-Decides}
use Rattle.declared_features.specs.Lists.{Adds}
use Rattle.declared_features.specs.Inside.Names.{texts_in}
use Rattle.declared_features.proofs.Collecting.{adding_next, adding_end, adds_as}
use Rattle.declared_features.proofs.requested.push_names_of_other.Goals as goal

-- what is added if the names are the same
added_if_same : (old new : List (List ℕ)) (name text called : List ℕ) (is_same : Bool)
    → is_same ≡ bytes_eq name called → Adds old new (λ t. (is_same ≡ true) × (text ≡ t))
    → Adds old new (λ t. (name ≡ called) × (text ≡ t))
added_if_same old new name text called is_same is adds =
    adds_as old new (λ t. (is_same ≡ true) × (text ≡ t)) (λ t. (name ≡ called) × (text ≡ t)) adds
    (λ t h. ((bytes_eq-Decides name called).0 (sym is ∙ h.0), h.1))
    (λ t h. (is ∙ (bytes_eq-Decides name called).1 h.0, h.1))

pub others-preserved : goal.others-preserved
others-preserved c =
    adding_next (texts_in c.args.texts.now.items) (texts_in c.others.texts.items) (texts_in c.push_if.new.texts.items)
    c.args.others.now c.others.i _ (λ other t. (other.0.now ≡ c.args.called.now) × (other.1.now ≡ t))
    c.others-test.true
    (added_if_same (texts_in c.others.texts.items) (texts_in c.push_if.new.texts.items) _ _ c.args.called.now
    c.eq.result c.eq.ensures c.in_ok-push_if.ensures)
    c.others.invariant

pub returns : goal.returns
returns c =
    adding_end (texts_in c.args.texts.now.items) (texts_in c.others.texts.items) c.args.others.now c.others.i
    (λ other t. (other.0.now ≡ c.args.called.now) × (other.1.now ≡ t)) c.others-test.false c.others.invariant
