-- What objects of a document declare.
use Rattle.std.specs.Prelude.{◌≡◌, ℕ, Bool, false, List, [], ◌∷◌, Option, Some, None, cond, codes, bytes_eq}
use Rattle.std.specs.Prelude.{option_map, option_and_then}
use Rattle.std.specs.List.{list_any}
use Rattle.std.specs.Option.{option_copied}
use Rattle.std.specs.Borrow.{Bor}
use Rattle.serde_json.specs.Data.{Data, Members, no_members, member}
use Rattle.serde_json.specs.Find.{get, as_str, as_array, as_object}
use Rattle.cargo_metadata.specs.Fields.{elements, text_at, list_at, flag_at}
use Rattle.cargo_metadata.specs.Packages.{any_of}
use Rattle.cargo_metadata.specs.Nodes.{kind_at, condition_at}
use Rattle.cargo_metadata.specs.Rows.{AreRows, AreRowsAt}
use Rattle.declared_features.specs.Entries.{IsEntry}
use Rattle.declared_features.specs.declared.entries.FeatureEntry.{FeatureEntry}
use Rattle.declared_features.specs.declared.manifests.DeclaredDependency.{DeclaredDependency}
use Rattle.declared_features.specs.declared.manifests.Feature.{Feature}
use Rattle.declared_features.specs.declared.manifests.PackageDeclaration.{PackageDeclaration}

abbrev pub IsText : Data → Bor (List ℕ) → Type 0
IsText d text = as_str d ≡ Some text.now

-- the dependency that an object declares
pub record IsDeclared (d : Data) (declared : DeclaredDependency) : Type 0 where
  pub name : text_at (codes "name") d ≡ Some declared.name.now
  pub rename : text_at (codes "rename") d ≡ option_copied declared.rename
  pub kind : kind_at d ≡ Some declared.kind
  pub condition : condition_at d ≡ Some (option_copied declared.condition)
  pub optional : flag_at (codes "optional") d ≡ Some declared.is_optional
  pub default : flag_at (codes "uses_default_features") d ≡ Some declared.uses_default
  pub features : AreRowsAt IsText (codes "features") d declared.features.items

-- the value is a text that spells the entry
abbrev pub IsEntryOf : Data → FeatureEntry → Type 0
IsEntryOf d entry = (text : List ℕ) × (as_str d ≡ Some text) × IsEntry text entry

-- the value is a list, with a text for each of the entries, in order
abbrev pub AreEntriesOf : Data → List FeatureEntry → Type 0
AreEntriesOf d entries =
    (ds : List Data) × (option_map elements (as_array d) ≡ Some ds) × AreRows IsEntryOf ds entries

-- ---- features

-- the feature has this name, and the entries of this list
pub record IsFeature (name : List ℕ) (d : Data) (feature : Feature) : Type 0 where
  pub named : feature.name.now ≡ name
  pub entries : AreEntriesOf d feature.lists.items

-- a feature for each member, in order
abbrev pub AreFeatures : Members → List Feature → Type 0
AreFeatures no_members [] = Unit {0}
AreFeatures no_members (feature ∷ features) = ⊥
AreFeatures (member name d ms) [] = ⊥
AreFeatures (member name d ms) (feature ∷ features) = IsFeature name d feature × AreFeatures ms features

-- the field `features` has an object, and these are the features of its members
pub record AreFeaturesOf (d : Data) (features : List Feature) : Type 0 where
  pub members : Members
  pub stand : option_and_then as_object (get (codes "features") d) ≡ Some members
  pub features_are : AreFeatures members features

-- ---- the library

-- a kind of targets that other packages can use
abbrev pub is_library_name : List ℕ → Bool
is_library_name kind =
    list_any (bytes_eq kind)
    (codes "lib" ∷ codes "rlib" ∷ codes "dylib" ∷ codes "cdylib" ∷ codes "staticlib" ∷ codes "proc-macro" ∷ [])

abbrev pub is_library_in : Option (List ℕ) → Bool
is_library_in None = false
is_library_in (Some kind) = is_library_name kind

abbrev pub is_library_kind : Data → Bool
is_library_kind d = is_library_in (as_str d)

-- one of the target's kinds is that of a library
abbrev pub is_library : Data → Bool
is_library d = any_of is_library_kind (list_at (codes "kind") d)

-- the name of the first of these targets that is a library
abbrev pub library_among : List Data → Option (List ℕ)
library_among [] = None
library_among (d ∷ ds) = cond (is_library d) (text_at (codes "name") d) (library_among ds)

abbrev pub library_of : Data → Option (List ℕ)
library_of d = option_and_then library_among (list_at (codes "targets") d)

-- ---- manifests

-- what the object of a package declares
pub record IsManifest (d : Data) (manifest : PackageDeclaration) : Type 0 where
  pub library : library_of d ≡ option_map (λ s. s.now) manifest.library
  pub dependencies : AreRowsAt IsDeclared (codes "dependencies") d manifest.dependencies.items
  pub features : AreFeaturesOf d manifest.features.items
