-- The indexes of features by their names.
use Rattle.std.specs.Prelude.{◌≡◌, ◌<◌, ℕ, List, length, map, Option, slice_get, option_and_then}
use Rattle.std.specs.Borrow.{Bor}
use Rattle.cargo_metadata.specs.Indexes.{index_at}
use Rattle.declared_features.specs.Manifests.{feature_index, features_at}
use Rattle.declared_features.specs.declared.declaring.Declarations.{Declarations}
use Rattle.declared_features.specs.declared.linking.Names.{Names}

-- texts by what they contain
abbrev pub texts_in : List (Bor (List ℕ)) → List (List ℕ)
texts_in texts = map (λ t. t.now) texts

-- the index of a feature of a node by its name
abbrev pub index_in : Names → ℕ → List ℕ → Option ℕ
index_in names node q = option_and_then (λ indexes. index_at indexes q) (slice_get names.features.items node)

-- each name has the index of the feature that the package of the node declares
abbrev pub AreNamesOf : Declarations → Names → Type 0
AreNamesOf declarations names =
    (node : ℕ) (q : List ℕ) → index_in names node q ≡ feature_index (features_at declarations node) q

-- this holds for the first n nodes, and there are no others
pub record AreNamesBelow (n : ℕ) (declarations : Declarations) (names : Names) : Type 0 where
  pub count : length names.features.items ≡ n
  pub each : (node : ℕ) (q : List ℕ) → node < n
      → index_in names node q ≡ feature_index (features_at declarations node) q
