use Rattle.std.proofs.Common.{List, subst}
use Rattle.declared_features.specs.Lists.{HasJust}
use Rattle.declared_features.specs.Members.{SomeStandsFor}
use Rattle.declared_features.specs.Requested.{IsOneOfAll}
use Rattle.declared_features.specs.Inside.Names.{index_in}
use Rattle.declared_features.specs.declared.entries.FeatureEntry.{FeatureEntry}
use Rattle.declared_features.proofs.Collecting.{just_then}
use Rattle.declared_features.proofs.linking.Lists.members_requested.Goals as goal

pub returns : goal.returns
returns c =
    let self = c.args.self.now in
    let entries = c.in_ok-entries.entries.items in
    let members = c.in_ok-members.members.items in
    let StandsForOne = SomeStandsFor (index_in self.names.now) self.node self.found.now in
    record {
      entries = entries;
      spelled = c.in_ok-entries.ensures;
      members_are =
          just_then members c.push_all.new.members.items (StandsForOne entries)
          (IsOneOfAll c.args.requested.now.all c.args.count) (IsOneOfAll c.args.requested.now.all c.args.count)
          (subst (λ (es : List FeatureEntry). HasJust members (StandsForOne es)) c.deref.ensures.value
          c.in_ok-members.ensures)
          c.in_ok-push_all.ensures (λ m h. h) (λ m h. h);
    }
