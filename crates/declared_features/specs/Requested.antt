-- The features that are requested of packages: by their names, or all.
use Rattle.std.specs.Prelude.{◌≡◌, ◌==◌, ◌<◌, ◌+◌, ◌⊎◌, ◌&&◌, ◌||◌, ℕ, Bool, true, false, not, cond, codes}
use Rattle.std.specs.Prelude.{List, Option, Some, None, Any, Vec, length, nat_lt, bytes_eq, slice_get}
use Rattle.std.specs.List.{position_or_len, before_first, after_first}
use Rattle.std.specs.Borrow.{Bor}
use Rattle.std.specs.Global.{Global}
use Rattle.package_graphs.specs.declared.packages.Package.{Package as Unit}
use Rattle.cargo_features.specs.declared.packages.FeatureValue.{FeatureValue}
use Rattle.cargo_features.specs.declared.packages.FeatureValue.TheVariants as member
use Rattle.declared_features.specs.Entries.{IsEntry}
use Rattle.declared_features.specs.Lists.{HasJust, MatchesJust}
use Rattle.declared_features.specs.Members.{FeatureIndexes, SomeStandsFor}
use Rattle.declared_features.specs.declared.entries.FeatureEntry.{FeatureEntry}
use Rattle.declared_features.specs.declared.linking.Named.{Named}
use Rattle.declared_features.specs.declared.linking.RequestedFeatures.{RequestedFeatures}

abbrev pub is_at : Option ℕ → ℕ → Bool
is_at None node = false
is_at (Some current) node = current == node

-- features are requested of the package of a node: it is a root, or that of the current directory
abbrev pub is_concerned : RequestedFeatures → ℕ → Unit → Bool
is_concerned requested node unit = unit.is_root || is_at requested.current node

abbrev pub has_default_by : Option ℕ → Bool → ℕ → Bool
has_default_by None default node = default
has_default_by (Some current) default node = default || not (current == node)

-- `default` is requested of it: as the caller says, and always of a package that is not that of the current directory
abbrev pub has_default : RequestedFeatures → ℕ → Bool
has_default requested node = has_default_by requested.current requested.default node

-- ---- by their names

abbrev pub is_slash : ℕ → Bool
is_slash b = b == 47

-- what stands before the first slash of the text is the name of the root
abbrev pub is_of_root : List ℕ → List ℕ → Bool
is_of_root root text =
    nat_lt (position_or_len is_slash text) (length text) && bytes_eq (before_first is_slash text) root

-- `root/f` of this root is `f`, and other texts are as they are
abbrev pub without_root : List ℕ → List ℕ → List ℕ
without_root root text = cond (is_of_root root text) (after_first is_slash text) text

-- the text is one of the names, without the name of the root
abbrev pub IsOfRoot : List (Bor (List ℕ)) → List ℕ → List ℕ → Type 0
IsOfRoot names called text = Any (λ name. without_root called name.now ≡ text) names

-- the text is one of the names
abbrev pub IsOneOf : List (Bor (List ℕ)) → List ℕ → Type 0
IsOneOf names text = Any (λ name. name.now ≡ text) names

-- the text stands behind the name of the package
abbrev pub IsOfOther : List (Bor (List ℕ) × Bor (List ℕ)) → List ℕ → List ℕ → Type 0
IsOfOther others called text = Any (λ other. (other.0.now ≡ called) × (other.1.now ≡ text)) others

abbrev pub IsNamedAt : Bool → RequestedFeatures → List ℕ → List ℕ → Type 0
IsNamedAt true requested called text = IsOneOf requested.names.now text
IsNamedAt false requested called text = IsOfOther requested.of_others.now called text

-- the text is requested of the package of a node by its name: of the package of the current directory, of another one
-- behind its name, or of all roots, where no directory is current
abbrev pub IsByName : Option ℕ → RequestedFeatures → List ℕ → ℕ → List ℕ → Type 0
IsByName None requested called node text = IsOfRoot requested.names.now called text
IsByName (Some current) requested called node text = IsNamedAt (current == node) requested called text

abbrev pub IsDefaultText : RequestedFeatures → ℕ → List ℕ → Type 0
IsDefaultText requested node text = (has_default requested node ≡ true) × (codes "default" ≡ text)

-- the text is requested of the package of a node
abbrev pub IsRequestedText : RequestedFeatures → List ℕ → ℕ → List ℕ → Type 0
IsRequestedText requested called node text =
    IsDefaultText requested node text ⊎ IsByName requested.current requested called node text

-- ---- the members of the list that requests them

-- all features are requested, and this is one of them
abbrev pub IsOneOfAll : Bool → ℕ → FeatureValue → Type 0
IsOneOfAll all count m = (all ≡ true) × ((i : ℕ) × (i < count) × (m ≡ member.Feature i))

-- the members that the requested texts stand for, and all features if these are requested
pub record AreRequested (requested : RequestedFeatures) (called : List ℕ) (at : FeatureIndexes) (node : ℕ)
    (named : List Named) (count : ℕ) (members : List FeatureValue) : Type 0 where
  pub entries : List FeatureEntry
  pub spelled : MatchesJust (IsRequestedText requested called node) IsEntry entries
  pub members_are : HasJust members
      (λ m. SomeStandsFor at node named entries m ⊎ IsOneOfAll requested.all count m)

-- there is a list more than these, of which this holds, exactly if the package is concerned
pub record HasLast (concerned : Bool) (IsLast : List FeatureValue → Type 0) (count : ℕ)
    (lists : List (Vec FeatureValue Global))
    : Type 0 where
  pub lengths : length lists ≡ cond concerned (count + 1) count
  pub last : concerned ≡ true → (members : Vec FeatureValue Global) × (slice_get lists count ≡ Some members)
      × IsLast members.items
