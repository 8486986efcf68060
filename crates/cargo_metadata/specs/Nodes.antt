-- Nodes and their dependencies, as objects have them.
use Rattle.std.specs.Prelude.{◌≡◌, ℕ, List, Option, Some, All, codes}
use Rattle.std.specs.Option.{option_copied}
use Rattle.serde_json.specs.Data.{Data}
use Rattle.serde_json.specs.Find.{get}
use Rattle.cargo_metadata.specs.Fields.{kind_in, condition_in, text_at, Fits, IsFirstWrong}
use Rattle.cargo_metadata.specs.Fields.{fields_of_node, fields_of_dependency, fields_of_kind}
use Rattle.cargo_metadata.specs.Rows.{AreRowsAt, IsFirstAt}
use Rattle.cargo_metadata.specs.declared.nodes.Kind.{Kind}
use Rattle.cargo_metadata.specs.declared.nodes.KindRow.{KindRow}
use Rattle.cargo_metadata.specs.declared.nodes.Dependency.{Dependency}
use Rattle.cargo_metadata.specs.declared.nodes.Node.{Node}
use Rattle.cargo_metadata.specs.declared.refusals.DependencyError.{DependencyError}
use Rattle.cargo_metadata.specs.declared.refusals.DependencyError.TheVariants as in_dependency
use Rattle.cargo_metadata.specs.declared.refusals.NodeError.{NodeError}
use Rattle.cargo_metadata.specs.declared.refusals.NodeError.TheVariants as in_node

abbrev pub kind_at : Data → Option Kind
kind_at d = kind_in (get (codes "kind") d)

abbrev pub condition_at : Data → Option (Option (List ℕ))
condition_at d = condition_in (get (codes "target") d)

pub record IsKindRow (d : Data) (row : KindRow) : Type 0 where
  pub kind : kind_at d ≡ Some row.kind
  pub condition : condition_at d ≡ Some (option_copied row.condition)

pub record IsDependency (d : Data) (dependency : Dependency) : Type 0 where
  pub on : text_at (codes "pkg") d ≡ Some dependency.on.now
  pub name : text_at (codes "name") d ≡ option_copied dependency.name
  pub kinds : AreRowsAt IsKindRow (codes "dep_kinds") d dependency.kinds.items

pub record IsNode (d : Data) (node : Node) : Type 0 where
  pub id : text_at (codes "id") d ≡ Some node.id.now
  pub dependencies : AreRowsAt IsDependency (codes "deps") d node.dependencies.items

-- ---- why they are rejected: the first error

abbrev pub IsInDependency : Data → DependencyError → Type 0
IsInDependency d (in_dependency.Field wrong) = IsFirstWrong fields_of_dependency d wrong
IsInDependency d (in_dependency.Kind i wrong) =
    All (Fits d) fields_of_dependency
    × IsFirstAt IsKindRow (λ e. IsFirstWrong fields_of_kind e wrong) (codes "dep_kinds") i d
IsInDependency d (in_dependency.Memory error) = Unit {0}

abbrev pub IsInNode : Data → NodeError → Type 0
IsInNode d (in_node.Field wrong) = IsFirstWrong fields_of_node d wrong
IsInNode d (in_node.Dependency i wrong) =
    All (Fits d) fields_of_node × IsFirstAt IsDependency (λ e. IsInDependency e wrong) (codes "deps") i d
IsInNode d (in_node.Memory error) = Unit {0}
