-- Names that are in one set and not in another one.
use Rattle.std.specs.Prelude.{◌≡◌, true}
use Rattle.declared_features.specs.NameSets.{NameSet, HasName}
use Rattle.declared_features.specs.Requests.{toml_name}
use Rattle.declared_features.specs.declared.manifests.DeclaredDependency.{DeclaredDependency}

-- the dependency is optional, and the first set has its name, but not the second one
pub record IsNewly (enabled before : NameSet) (declared : DeclaredDependency) : Type 0 where
  pub optional : declared.is_optional ≡ true
  pub now_on : HasName enabled (toml_name declared)
  pub not_before : ¬ HasName before (toml_name declared)
