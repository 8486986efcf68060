-- The members that entries stand for: indexes in place of names.
use Rattle.std.specs.Prelude.{◌≡◌, ◌⊎◌, ℕ, List, Option, Some, None, Any, Vec, slice_get}
use Rattle.std.specs.Global.{Global}
use Rattle.declared_features.specs.Lists.{HasJust, SomeAt}
use Rattle.declared_features.specs.declared.entries.FeatureEntry.{FeatureEntry}
use Rattle.declared_features.specs.declared.entries.FeatureEntry.TheVariants as entry
use Rattle.declared_features.specs.declared.linking.Named.{Named}
use Rattle.declared_features.specs.declared.manifests.Feature.{Feature}
use Rattle.cargo_features.specs.declared.packages.FeatureValue.{FeatureValue}
use Rattle.cargo_features.specs.declared.packages.FeatureValue.TheVariants as member

-- where each node has the feature with a name
abbrev pub FeatureIndexes : Type 0
FeatureIndexes = ℕ → List ℕ → Option ℕ

-- `f`: the feature of this name
abbrev pub IsOwn : FeatureIndexes → ℕ → FeatureEntry → FeatureValue → Type 0
IsOwn at node (entry.Feature f) (member.Feature index) = at node f.now ≡ Some index
IsOwn at node _ _ = ⊥

-- the dependency at the index i has the name, and its package has the feature g at this index, if at all
pub record IsNamed (at : FeatureIndexes) (i : ℕ) (d : Named) (name g : List ℕ) (j : ℕ) (found : Option ℕ) : Type 0 where
  pub index : j ≡ i
  pub named : d.name.now ≡ name
  pub feature : at d.dependency.to g ≡ found

-- `dep:d` and `d/g`, and `d?/g` if the package of `d` has `g`. Without a feature `g`, `d/g` is `dep:d`.
abbrev pub IsOfDependency : FeatureIndexes → FeatureEntry → ℕ → Named → FeatureValue → Type 0
IsOfDependency at (entry.Dependency name) i d (member.Dependency j) = (j ≡ i) × (d.name.now ≡ name.now)
IsOfDependency at (entry.Strong name g) i d (member.Dependency j) = IsNamed at i d name.now g.now j None
IsOfDependency at (entry.Strong name g) i d (member.Strong j index) = IsNamed at i d name.now g.now j (Some index)
IsOfDependency at (entry.Weak name g) i d (member.Weak j index) = IsNamed at i d name.now g.now j (Some index)
IsOfDependency at _ i d _ = ⊥

-- the entry, in a list of the node's package, stands for the member: a feature of the package, or one of a dependency
-- of
-- that name
abbrev pub StandsFor : FeatureIndexes → ℕ → List Named → FeatureEntry → FeatureValue → Type 0
StandsFor at node named entry m = IsOwn at node entry m ⊎ SomeAt named (λ i d. IsOfDependency at entry i d m)

-- one of the entries stands for it
abbrev pub SomeStandsFor : FeatureIndexes → ℕ → List Named → List FeatureEntry → FeatureValue → Type 0
SomeStandsFor at node named entries m = Any (λ entry. StandsFor at node named entry m) entries

-- each feature has a list at its index, with just the members that its entries stand for
pub record HasListsOf (IsMember : List FeatureEntry → FeatureValue → Type 0) (features : List Feature)
    (lists : List (Vec FeatureValue Global)) : Type 0 where
  pub each : (k : ℕ) (feature : Feature) → slice_get features k ≡ Some feature
      → (members : Vec FeatureValue Global) × (slice_get lists k ≡ Some members)
      × HasJust members.items (IsMember feature.lists.items)
