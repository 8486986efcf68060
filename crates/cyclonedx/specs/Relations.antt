-- Which packages of a graph are in a document, and on which of them each one depends.
use Rattle.std.specs.Prelude.{◌≡◌, ◌↔◌, ℕ, Bool, true, false, not, ◌&&◌, ◌==◌, List, [], ◌∷◌, ◌++◌, map, filter, length}
use Rattle.std.specs.Prelude.{Contains, slice_get}
use Rattle.std.specs.Option.{option_map_or}
use Rattle.std.specs.List.Sorted.{IsStrictlyIncreasing}
use Rattle.known_targets.specs.Sets.{members}
use Rattle.known_targets.specs.declared.target_set.TargetSet.{TargetSet}
use Rattle.cyclonedx.specs.declared.relations.Edge.{Edge}
use Rattle.cyclonedx.specs.declared.relations.Node.{Node}
use Rattle.cyclonedx.specs.declared.relations.Relation.{Relation}

-- there is a target in the set
abbrev pub is_somewhere : TargetSet → Bool
is_somewhere at = not (length (members at) == 0)

-- the package is in the build on a selected target
abbrev pub is_included : Node → Bool
is_included node = is_somewhere node.at

-- the package at this index is in the document
abbrev pub has_place : List Node → ℕ → Bool
has_place nodes place = option_map_or is_included (slice_get nodes place) false

-- the dependency is followed on a selected target, to a package of the document
abbrev pub is_needed : List Node → Edge → Bool
is_needed nodes edge = is_somewhere edge.at && has_place nodes edge.to

-- the indexes to which these dependencies lead, as far as they are followed
abbrev pub needed_by : List Node → List Edge → List ℕ
needed_by nodes edges = map (λ e. e.to) (filter (is_needed nodes) edges)

-- the reference of the package at this index
abbrev pub reference_at : List Node → ℕ → List ℕ
reference_at nodes place = option_map_or (λ n. n.reference.now) (slice_get nodes place) []

-- It names the package, and the packages of the document to which its dependencies lead on a selected target: each
-- once, in the order of the graph.
pub record IsRelation (nodes : List Node) (node : Node) (relation : Relation) : Type 0 where
  pub of : relation.reference.now ≡ node.reference.now
  pub places : List ℕ
  pub ordered : IsStrictlyIncreasing places
  pub needed : (k : ℕ) → Contains places k ↔ Contains (needed_by nodes node.edges.items) k
  pub names : map (λ name. name.now) relation.depends_on.items ≡ map (reference_at nodes) places

-- Each package that is in the build on a selected target has its relation, in the order of the packages, and no other
-- package has one.
pub data AreRelations (nodes : List Node) : List Node → List Relation → Type 0 where
  of_none : AreRelations nodes [] []
  left_out : (ns : List Node) (n : Node) (rs : List Relation) → AreRelations nodes ns rs → is_included n ≡ false
      → AreRelations nodes (ns ++ n ∷ []) rs
  related : (ns : List Node) (n : Node) (rs : List Relation) (r : Relation) → AreRelations nodes ns rs
      → is_included n ≡ true → IsRelation nodes n r → AreRelations nodes (ns ++ n ∷ []) (rs ++ r ∷ [])
