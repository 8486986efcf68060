-- The links of edges to declared dependencies that were found so far.
use Rattle.std.specs.Prelude.{◌≡◌, ◌⊎◌, ℕ, List, Some, take, slice_get, Contains}
use Rattle.declared_features.specs.Edges.{IsOf}
use Rattle.declared_features.specs.Requests.{IsLink}
use Rattle.declared_features.specs.declared.declaring.DeclaredGraph.{DeclaredGraph}
use Rattle.declared_features.specs.declared.declaring.DependencyRow.{DependencyRow}
use Rattle.declared_features.specs.declared.manifests.DeclaredDependency.{DeclaredDependency}

-- the edge is the row at the index i, and belongs to this one of the first j declared dependencies
pub record IsLinkAt (graph : DeclaredGraph) (node : ℕ) (rows : List DependencyRow) (i : ℕ)
    (declared : List DeclaredDependency) (j : ℕ)
    (link : DependencyRow × DeclaredDependency) : Type 0 where
  pub row_is : slice_get rows i ≡ Some link.0
  pub declared_is : Contains (take j declared) link.1
  pub belongs : IsOf graph node link.0 link.1

-- the edge is one of the first i rows, or that at i with one of the first j declared dependencies
abbrev pub IsLinkBelow : DeclaredGraph → ℕ → List DependencyRow → ℕ → List DeclaredDependency → ℕ
    → DependencyRow × DeclaredDependency → Type 0
IsLinkBelow graph node rows i declared j link =
    IsLink graph node (take i rows) declared link ⊎ IsLinkAt graph node rows i declared j link
