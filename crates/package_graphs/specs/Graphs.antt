-- The nodes of a graph that are reached on each target.
use Rattle.std.specs.Prelude.{◌≡◌, ℕ, Bool, false, IsTrue, List, [], map, Contains}
use Rattle.std.specs.List.{slice_index_or}
use Rattle.known_targets.specs.Sets.{is_member}
use Rattle.known_targets.specs.declared.target_set.TargetSet.{TargetSet}
use Rattle.package_graphs.specs.Reaching.{Reaches}
use Rattle.package_graphs.specs.declared.graph.Edge.{Edge}
use Rattle.package_graphs.specs.declared.graph.Graph.{Graph}

-- the edges that begin at each node
abbrev pub Edges : Type 0
Edges = List (List Edge)

abbrev pub edge_lists : Graph → Edges
edge_lists graph = map (λ edges. edges.items) graph.nodes.items

abbrev pub edges_from : Edges → ℕ → List Edge
edges_from graph n = slice_index_or graph n []

-- an edge from m to n has the target k
pub record LeadsAt (graph : Edges) (k : ℕ) (m n : ℕ) : Type 0 where
  pub edge : Edge
  pub begins : Contains (edges_from graph m) edge
  pub ends : edge.to ≡ n
  pub holds : IsTrue (is_member edge.holds k)

-- The node n is reached on the target k: edges with that target lead to it from a root. A root itself is reached on
-- each target.
abbrev pub IsPresent : Edges → List ℕ → ℕ → ℕ → Type 0
IsPresent graph roots k n = Reaches (λ root. Contains roots root) (λ m n. LeadsAt graph k m n) n

-- true if the set of the node n has the target k
abbrev pub is_in : List TargetSet → ℕ → ℕ → Bool
is_in sets n k = slice_index_or (map (λ set. is_member set) sets) n (λ k. false) k

-- each edge of the first is one of the second
abbrev pub IsPartOf : Edges → Edges → Type 0
IsPartOf graph more = (m : ℕ) (edge : Edge) → Contains (edges_from graph m) edge → Contains (edges_from more m) edge
