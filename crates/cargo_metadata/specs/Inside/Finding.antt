-- The knowledge once the ids are found.
use Rattle.std.specs.Prelude.{◌≡◌, ◌<◌, ℕ, List, length, Contains, IsSome}
use Rattle.std.specs.List.{slice_index_or}
use Rattle.cargo_metadata.specs.declared.metadata.Metadata.{Metadata}
use Rattle.cargo_metadata.specs.declared.packages.Package.{Package as Described}
use Rattle.cargo_metadata.specs.declared.nodes.Node.{Node}
use Rattle.package_graphs.specs.declared.packages.Package.{Package}
use Rattle.cargo_metadata.specs.Ids.{package_ids, node_ids, member_ids, id_at}
use Rattle.cargo_metadata.specs.Links.{AreIds, AreMembers, AreSound, IsPackageOf}
use Rattle.cargo_metadata.specs.Indexes.{index_at, IsIndex, AreFound}
use Rattle.cargo_metadata.specs.declared.indexes.Indexes.{Indexes}

-- it is one of the packages, with this id
pub record Describes (m : Metadata) (id : List ℕ) (d : Described) : Type 0 where
  pub described : Contains m.packages.items d
  pub named : d.id.now ≡ id

-- the packages of the first n nodes
pub record AreDescribed (m : Metadata) (ds : List Described) (n : ℕ) : Type 0 where
  pub count : length ds ≡ n
  pub each : (i : ℕ) (d : Described) → i < n → Describes m (id_at (node_ids m.nodes.items) i) (slice_index_or ds i d)

pub record AreNodesFound (m : Metadata) (nodes : Indexes) (ds : List Described) : Type 0 where
  pub ids : AreIds m
  pub found : AreFound nodes (node_ids m.nodes.items)
  pub described : AreDescribed m ds (length m.nodes.items)

-- a text has an index exactly if it is one of the first n members, which are nodes
pub record AreMembersAmong (m : Metadata) (members : Indexes) (n : ℕ) : Type 0 where
  pub nodes : AreMembers m n
  pub sound : (q : List ℕ) → IsSome (index_at members q) → Contains (member_ids m.members.items) q
  pub complete : (i : ℕ) → i < n → IsSome (index_at members (id_at (member_ids m.members.items) i))

abbrev pub AreMembersFound : Metadata → Indexes → Type 0
AreMembersFound m members = AreMembersAmong m members (length m.members.items)

-- the knowledge about the first n nodes
pub record AreNodesSoFar (m : Metadata) (nodes : Indexes) (ds : List Described) (n : ℕ) : Type 0 where
  pub index : IsIndex (index_at nodes) (node_ids m.nodes.items) n
  pub known : (i : ℕ) → i < n → Contains (package_ids m.packages.items) (id_at (node_ids m.nodes.items) i)
  pub described : AreDescribed m ds n

-- the packages of the first n nodes
pub record ArePackagesSoFar (m : Metadata) (ds : List Described) (ps : List Package) (n : ℕ) : Type 0 where
  pub count : length ps ≡ n
  pub sound : (i : ℕ) (node : Node) → i < n → AreSound (node_ids m.nodes.items) (slice_index_or m.nodes.items i node)
  pub each : (i : ℕ) (node : Node) (d : Described) (p : Package) → i < n
      → IsPackageOf m (slice_index_or m.nodes.items i node) (slice_index_or ds i d) (slice_index_or ps i p)
