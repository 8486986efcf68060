-- The same packages, with more features requested.
use Rattle.std.specs.Prelude.{◌≡◌, ◌<◌, ℕ, List, Vec, length, Contains}
use Rattle.std.specs.Global.{Global}
use Rattle.std.specs.List.{slice_index_or}
use Rattle.cargo_features.specs.declared.packages.Package.{Package}

-- the package, with these features requested of it
abbrev pub asking : Package → Vec ℕ Global → Package
asking unit requested = record {
  is_root = unit.is_root;
  is_macro = unit.is_macro;
  dependencies = unit.dependencies;
  features = unit.features;
  requested = requested;
}

-- the other is the same package, and what is requested of the first is requested of it too
pub record AsksMore (unit other : Package) : Type 0 where
  pub same : other ≡ asking unit other.requested
  pub requested : (f : ℕ) → Contains unit.requested.items f → Contains other.requested.items f

-- this holds for each of the packages, by their indexes
pub record AskMore (packages others : List Package) : Type 0 where
  pub count : length others ≡ length packages
  pub each : (p : ℕ) → p < length packages → (x : Package)
      → AsksMore (slice_index_or packages p x) (slice_index_or others p x)
