-- A whole document.
use Rattle.std.specs.Prelude.{◌≡◌, ℕ, Bool, true, false, List, ◌∷◌, ◌++◌, Some, All, codes, is_some}
use Rattle.std.specs.Borrow.{Bor}
use Rattle.serde_json.specs.Data.{Data}
use Rattle.serde_json.specs.Find.{get, as_str, as_object}
use Rattle.cargo_metadata.specs.Fields.{fits, Field, Fits, IsWrong, IsAt, IsFirstWrong}
use Rattle.cargo_metadata.specs.Fields.{fields_of_document, fields_of_package, fields_of_resolve}
use Rattle.cargo_metadata.specs.Rows.{AreRowsAt, HasRowsAt, IsFirstAt}
use Rattle.cargo_metadata.specs.Packages.{IsPackage}
use Rattle.cargo_metadata.specs.Nodes.{IsNode, IsInNode}
use Rattle.cargo_metadata.specs.declared.metadata.Metadata.{Metadata}
use Rattle.cargo_metadata.specs.declared.refusals.ExpectedValue.TheVariants as expected
use Rattle.cargo_metadata.specs.declared.refusals.DependencyError.{DependencyError}
use Rattle.cargo_metadata.specs.declared.refusals.DependencyError.TheVariants as in_dependency
use Rattle.cargo_metadata.specs.declared.refusals.NodeError.{NodeError}
use Rattle.cargo_metadata.specs.declared.refusals.NodeError.TheVariants as in_node
use Rattle.cargo_metadata.specs.declared.refusals.ResolveError.{ResolveError}
use Rattle.cargo_metadata.specs.declared.refusals.ResolveError.TheVariants as in_resolve
use Rattle.cargo_metadata.specs.declared.refusals.MetadataError.{MetadataError}
use Rattle.cargo_metadata.specs.declared.refusals.MetadataError.TheVariants as refusals

abbrev pub IsMember : Data → Bor (List ℕ) → Type 0
IsMember d id = as_str d ≡ Some id.now

abbrev pub IsVersionOne : Data → Type 0
IsVersionOne d = fits expected.One (get (codes "version") d) ≡ true

-- the value of `resolve` is this object
pub record IsResolve (d : Data) (resolve : Data) : Type 0 where
  pub stands : get (codes "resolve") d ≡ Some resolve
  pub is_object : is_some (as_object resolve) ≡ true

-- this holds for the value of `resolve`
abbrev pub InsideResolve : Data → (Data → Type 0) → Type 0
InsideResolve d Is = (resolve : Data) × IsResolve d resolve × Is resolve

pub record IsMetadata (d : Data) (m : Metadata) : Type 0 where
  pub version : IsVersionOne d
  pub packages : AreRowsAt IsPackage (codes "packages") d m.packages.items
  pub members : AreRowsAt IsMember (codes "workspace_members") d m.members.items
  pub nodes : InsideResolve d (λ resolve. AreRowsAt IsNode (codes "nodes") resolve m.nodes.items)

-- ---- why it is rejected: the first error

abbrev pub IsInResolve : Data → ResolveError → Type 0
IsInResolve d (in_resolve.Field wrong) = IsFirstWrong fields_of_resolve d wrong
IsInResolve d (in_resolve.Node i wrong) = IsFirstAt IsNode (λ e. IsInNode e wrong) (codes "nodes") i d
IsInResolve d (in_resolve.Memory error) = Unit {0}

-- the error is in this field
abbrev pub IsIn : Field → MetadataError → Type 0
IsIn field (refusals.Field wrong) = IsAt field.0 field.1 wrong
IsIn field (refusals.Package i wrong) = field.0 ≡ codes "packages"
IsIn field (refusals.Member i) = field.0 ≡ codes "workspace_members"
IsIn field (refusals.Resolve wrong) = field.0 ≡ codes "resolve"
IsIn field (refusals.Memory error) = Unit {0}

-- it is the first error in its field
abbrev pub IsFault : Data → MetadataError → Type 0
IsFault d (refusals.Field wrong) = IsWrong d wrong
IsFault d (refusals.Package i wrong) =
    IsFirstAt IsPackage (λ e. IsFirstWrong fields_of_package e wrong) (codes "packages") i d
IsFault d (refusals.Member i) = IsFirstAt IsMember (λ e. is_some (as_str e) ≡ false) (codes "workspace_members") i d
IsFault d (refusals.Resolve wrong) = InsideResolve d (λ resolve. IsInResolve resolve wrong)
IsFault d (refusals.Memory error) = Unit {0}

-- the value of the field is as expected, and so is each element, if it is the list of packages or of members
pub record IsWhole (d : Data) (field : Field) : Type 0 where
  pub itself : Fits d field
  pub packages : field.0 ≡ codes "packages" → HasRowsAt IsPackage (codes "packages") d
  pub members : field.0 ≡ codes "workspace_members" → HasRowsAt IsMember (codes "workspace_members") d

-- the error is the first one in its field, and the fields before it have none
pub record IsRefused (d : Data) (refusal : MetadataError) : Type 0 where
  pub before : List Field
  pub field : Field
  pub after : List Field
  pub order : fields_of_document ≡ before ++ field ∷ after
  pub whole : All (IsWhole d) before
  pub within : IsIn field refusal
  pub fault : IsFault d refusal

-- ---- whether memory is the reason

abbrev pub is_memory_of_dependency : DependencyError → Bool
is_memory_of_dependency (in_dependency.Field wrong) = false
is_memory_of_dependency (in_dependency.Kind i wrong) = false
is_memory_of_dependency (in_dependency.Memory error) = true

abbrev pub is_memory_of_node : NodeError → Bool
is_memory_of_node (in_node.Field wrong) = false
is_memory_of_node (in_node.Dependency i wrong) = is_memory_of_dependency wrong
is_memory_of_node (in_node.Memory error) = true

abbrev pub is_memory_of_resolve : ResolveError → Bool
is_memory_of_resolve (in_resolve.Field wrong) = false
is_memory_of_resolve (in_resolve.Node i wrong) = is_memory_of_node wrong
is_memory_of_resolve (in_resolve.Memory error) = true

abbrev pub is_memory : MetadataError → Bool
is_memory (refusals.Field wrong) = false
is_memory (refusals.Package i wrong) = false
is_memory (refusals.Member i) = false
is_memory (refusals.Resolve wrong) = is_memory_of_resolve wrong
is_memory (refusals.Memory error) = true
