use Rattle.std.proofs.Common.{refl, true, ◌≡◌, ◌∙◌, sym, ap, ◌∷◌, [], append_assoc, Option, string_bytes}
use Rattle.std.specs.Prelude.{option_and_then}
use Rattle.std.proofs.lemmas.List.{append-nil}
use Rattle.serde_json.specs.Data.{Data}
use Rattle.serde_json.specs.Find.{as_object, as_array}
use Rattle.serde_json.specs.View.{view, members_view}
use Rattle.cargo_metadata.specs.Fields.{is_texts}
use Rattle.declared_features.specs.Documents.{IsFeature}
use Rattle.declared_features.specs.declared.manifests.Feature.{Feature}
use Rattle.declared_features.proofs.manifests.features_of.Goals as goal

pub members-init : goal.members-init
members-init c = (λ more are. rw c.new-features.ensures.items are, refl)

pub members-preserved : goal.members-preserved
members-preserved c =
    let lists : is_texts (as_array (view c.in-Some-2.listed.now)) ≡ true =
    sym (rw c.in-Some-3.is at c.in_ok-lists.ensures.texts) in (
      λ more are.
          let feature : Feature = record { name = c.as_str.result; lists = c.in-Some-3.lists } in
          let this : IsFeature (string_bytes c.in-Some-2.name.now) (view c.in-Some-2.listed.now) feature =
          record { named = c.as_str.ensures.value; entries = rw c.in-Some-3.is at c.in_ok-lists.ensures.entries } in
          let whole = c.members.invariant.0 (feature ∷ more) (rw c.in-Some-2.ensures.steps (this, are)) in
          rw c.in_ok-push.ensures.items (rw append_assoc whole),
      (let before = c.members.invariant.1 in
          rw lists at (rw c.in-Some-2.ensures.steps at before)),
    )

pub returns-clause-features : goal.returns-clause-features
returns-clause-features c =
    let same : c.into_iter-name-iterator.result ≡ c.in-Some-as_object.members.now.entries =
    cc (c.into_iter-name-iterator.ensures.into_iter_gives, c.iter-name-items.ensures.rest) in
    record {
      members = members_view c.in-Some-as_object.members.now.entries;
      stand =
          ap (λ (o : Option Data). option_and_then as_object o) (sym c.in-Some.ensures)
          ∙ sym c.in-Some-as_object.ensures;
      features_are =
          rw (← same) (rw append-nil at (c.members.invariant.0 [] (rw c.in-None.ensures.steps.0 tt)));
    }
