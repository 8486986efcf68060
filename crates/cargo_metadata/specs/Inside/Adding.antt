-- The edges that are added for a dependency.
use Rattle.std.specs.Prelude.{◌<◌, ℕ, List, ◌++◌, Option, map, take}
use Rattle.std.specs.List.{slice_index_or}
use Rattle.std.specs.Borrow.{Bor}
use Rattle.cargo_metadata.specs.declared.nodes.Dependency.{Dependency as Written}
use Rattle.cargo_metadata.specs.declared.nodes.KindRow.{KindRow}
use Rattle.package_graphs.specs.declared.packages.Dependency.{Dependency}
use Rattle.cargo_metadata.specs.Links.{IsSpelled, IsSound, Asked, asked_as, asked_by, asked_of, IsEdge, AreEach}
use Rattle.cargo_metadata.specs.Refusals.{IsRefusedBy}
use Rattle.cargo_metadata.specs.declared.graphs.edges.ConditionError.{ConditionError}
use Rattle.cargo_metadata.specs.declared.graphs.edges.ConditionError.TheVariants as no_set
use Rattle.cargo_metadata.specs.declared.graphs.refusals.EdgeError.{EdgeError}
use Rattle.cargo_metadata.specs.declared.graphs.refusals.EdgeError.TheVariants as in_dependency

abbrev pub IsNoSet : Option (Bor (List ℕ)) → ConditionError → Type 0
IsNoSet condition (no_set.Refused e) = IsRefusedBy e condition
IsNoSet condition (no_set.Memory error) = Unit {0}

abbrev pub wrong_at : ℕ → ConditionError → EdgeError
wrong_at i (no_set.Refused e) = in_dependency.Condition i e
wrong_at i (no_set.Memory error) = in_dependency.Memory error

-- the first n rows of a dependency on an id have conditions that parse, and have edges
pub record AddsRows (ids : List (List ℕ)) (on : List ℕ) (rows : List KindRow) (n : ℕ) (old new : List Dependency)
    : Type 0 where
  pub spelled : (k : ℕ) (row : KindRow) → k < n → IsSpelled (slice_index_or rows k row).condition
  pub added : (before : List Asked) → AreEach (IsEdge ids) before old
      → AreEach (IsEdge ids) (before ++ map (asked_as on) (take n rows)) new

-- the first n dependencies are valid, and have edges
pub record AreEdgesSoFar (ids : List (List ℕ)) (ds : List Written) (n : ℕ) (edges : List Dependency) : Type 0 where
  pub sound : (k : ℕ) (d : Written) → k < n → IsSound ids (slice_index_or ds k d)
  pub each : AreEach (IsEdge ids) (asked_of (take n ds)) edges

-- whatever the edges before belong to, those after belong to it and to the dependency, which is valid
pub record AddsKinds (ids : List (List ℕ)) (d : Written) (old new : List Dependency) : Type 0 where
  pub sound : IsSound ids d
  pub added : (before : List Asked) → AreEach (IsEdge ids) before old
      → AreEach (IsEdge ids) (before ++ asked_by d) new
