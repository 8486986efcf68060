-- The graph of packages on both sides: two nodes for each package.
use Rattle.std.specs.Prelude.{◌≡◌, ◌<◌, ℕ, Bool, true, false, ◌&&◌, cond, IsTrue, Option, Some, None, List, [], ◌∷◌}
use Rattle.std.specs.Prelude.{flat_map, nat_lt, length, Contains}
use Rattle.known_targets.specs.Sets.{place, is_member}
use Rattle.known_targets.specs.declared.known.KnownTarget.{KnownTarget}
use Rattle.known_targets.specs.declared.table.TheConstants.{COUNT}
use Rattle.known_targets.specs.declared.target_set.TargetSet.{TargetSet}
use Rattle.package_graphs.specs.Graphs.{Edges}
use Rattle.package_graphs.specs.Kinds.{is_followed}
use Rattle.package_graphs.specs.Packages.{node_of, is_root, is_macro, is_of_host, side_after, side}
use Rattle.package_graphs.specs.declared.graph.Edge.{Edge}
use Rattle.package_graphs.specs.declared.packages.Dependency.{Dependency}
use Rattle.package_graphs.specs.declared.packages.Package.{Package}
use Rattle.package_graphs.specs.declared.sides.Side.{Side}
use Rattle.package_graphs.specs.declared.sides.Side.TheVariants.{Target, Host}
use Rattle.package_graphs.specs.declared.two_sided_graph.TraversalQuery.{TraversalQuery}

-- one set has all targets and the other has none
pub record IsTraversalQuery (q : TraversalQuery) : Type 0 where
  pub all : (k : ℕ) → k < COUNT → is_member q.always k ≡ true
  pub none : (k : ℕ) → k < COUNT → is_member q.never k ≡ false

-- the targets of a dependency: all or none, if it is decided for the host
abbrev pub condition_targets : Option KnownTarget → TargetSet → TargetSet → Side → Dependency → TargetSet
condition_targets None always never from d = d.holds
condition_targets (Some host) always never from d =
    cond (is_of_host from d.kind) (cond (is_member d.holds (place host)) always never) d.holds

abbrev pub edge_of : TraversalQuery → List Package → Side → Dependency → Edge
edge_of q packages from d = record {
  to = node_of d.to (side_after from d.kind (is_macro packages d.to));
  holds = condition_targets q.host q.always q.never from d;
}

-- the edge of a dependency that is followed to a package
abbrev pub edges_of : TraversalQuery → List Package → Bool → Side → Dependency → List Edge
edges_of q packages is_root from d =
    cond (nat_lt d.to (length packages) && is_followed q.kinds is_root d.kind) (edge_of q packages from d ∷ []) []

abbrev pub edges_on : TraversalQuery → List Package → Package → Side → List Edge
edges_on q packages unit from = flat_map (edges_of q packages unit.is_root from) unit.dependencies.items

-- two nodes for each of some of the packages
abbrev pub numbered : TraversalQuery → List Package → List Package → Edges
numbered q packages units =
    flat_map (λ unit. edges_on q packages unit Target ∷ edges_on q packages unit Host ∷ []) units

-- the nodes of the roots among the first `count` packages
pub record AreFirst (q : TraversalQuery) (packages : List Package) (count : ℕ) (roots : List ℕ) : Type 0 where
  pub sound : (r : ℕ) → Contains roots r
      → (p : ℕ) × IsTrue (is_root packages p) × (r ≡ node_of p (side (is_macro packages p)))
  pub complete : (p : ℕ) → p < count → IsTrue (is_root packages p)
      → Contains roots (node_of p (side (is_macro packages p)))
