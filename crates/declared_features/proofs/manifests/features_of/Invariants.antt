use Rattle.std.proofs.Common.{◌≡◌, List, ◌++◌}
use Rattle.serde_json.specs.View.{members_view}
use Rattle.cargo_metadata.specs.Fields.{are_lists}
use Rattle.declared_features.specs.Documents.{AreFeatures}
use Rattle.declared_features.specs.declared.manifests.Feature.{Feature}
use Rattle.declared_features.proofs.manifests.features_of.Given as goal

-- with features for the members that are left, the features are those of all members; and whether all members are lists
-- of texts depends on those that are left
abbrev pub invariant-members : goal.invariant-members
invariant-members l =
    ((more : List Feature) → AreFeatures (members_view l.name-iterator) more
    → AreFeatures (members_view l.initial.name-iterator) (l.features.items ++ more))
    × (are_lists (members_view l.name-iterator) ≡ are_lists (members_view l.initial.name-iterator))
