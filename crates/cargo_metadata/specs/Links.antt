-- The graph of a document.
use Rattle.std.specs.Prelude.{◌≡◌, ◌<◌, ◌↔◌, ℕ, true, List, [], ◌∷◌, ◌++◌, Option, Some, None, map, flat_map}
use Rattle.std.specs.Prelude.{length, Contains, IsTrue, All}
use Rattle.std.specs.List.{slice_index_or}
use Rattle.std.specs.Borrow.{Bor}
use Rattle.cargo_platform.specs.Trees.{Condition}
use Rattle.cargo_platform.specs.Platforms.{IsConditionText}
use Rattle.cargo_platform.specs.Facts.{IsTrueCondition}
use Rattle.known_targets.specs.Sets.{is_member}
use Rattle.known_targets.specs.Table.{target_name, target_facts}
use Rattle.known_targets.specs.declared.table.TheConstants.{COUNT}
use Rattle.known_targets.specs.declared.target_set.TargetSet.{TargetSet}
use Rattle.cargo_metadata.specs.declared.metadata.Metadata.{Metadata}
use Rattle.cargo_metadata.specs.declared.packages.Package.{Package as Described}
use Rattle.cargo_metadata.specs.declared.nodes.Node.{Node}
use Rattle.cargo_metadata.specs.declared.nodes.Dependency.{Dependency as Written}
use Rattle.cargo_metadata.specs.declared.nodes.KindRow.{KindRow}
use Rattle.cargo_metadata.specs.declared.nodes.Kind.{Kind as WrittenKind}
use Rattle.cargo_metadata.specs.declared.nodes.Kind.TheVariants as written
use Rattle.package_graphs.specs.declared.packages.Kind.{Kind}
use Rattle.package_graphs.specs.declared.packages.Kind.TheVariants as kinds
use Rattle.package_graphs.specs.declared.packages.Dependency.{Dependency}
use Rattle.package_graphs.specs.declared.packages.Package.{Package}
use Rattle.cargo_metadata.specs.Ids.{package_ids, node_ids, member_ids, id_at, AreDistinct}
use Rattle.cargo_metadata.specs.declared.graphs.linking.Linked.{Linked}

-- ---- ids that name something

-- the first n nodes: each names a package, and they are different
pub record AreNodes (m : Metadata) (n : ℕ) : Type 0 where
  pub known : (i : ℕ) → i < n → Contains (package_ids m.packages.items) (id_at (node_ids m.nodes.items) i)
  pub distinct : AreDistinct (node_ids m.nodes.items) n

-- the packages are distinct, and so are the nodes, which name them
pub record AreIds (m : Metadata) : Type 0 where
  pub packages : AreDistinct (package_ids m.packages.items) (length m.packages.items)
  pub nodes : AreNodes m (length m.nodes.items)

-- the first n members are nodes
abbrev pub AreMembers : Metadata → ℕ → Type 0
AreMembers m n =
    (i : ℕ) → i < n → Contains (node_ids m.nodes.items) (id_at (member_ids m.members.items) i)

-- ---- conditions

-- there is no condition, or one that parses
abbrev pub IsSpelled : Option (Bor (List ℕ)) → Type 0
IsSpelled None = Unit {0}
IsSpelled (Some text) = (c : Condition) × IsConditionText text.now c

-- the targets on which it is true: all without a condition
abbrev pub HoldsWhere : Option (Bor (List ℕ)) → TargetSet → Type 0
HoldsWhere None set = (k : ℕ) → k < COUNT → is_member set k ≡ true
HoldsWhere (Some text) set =
    (c : Condition) × IsConditionText text.now c
    × ((k : ℕ) → k < COUNT → IsTrue (is_member set k) ↔ IsTrueCondition (target_name k) (target_facts k) c)

-- a dependency names a node, and its conditions parse
pub record IsSound (nodes : List (List ℕ)) (d : Written) : Type 0 where
  pub names : Contains nodes d.on.now
  pub spelled : All (λ row. IsSpelled row.condition) d.kinds.items

abbrev pub AreSound : List (List ℕ) → Node → Type 0
AreSound nodes n = All (λ d. IsSound nodes d) n.dependencies.items

-- ---- the graph

abbrev pub kind_of : WrittenKind → Kind
kind_of written.Normal = kinds.Normal
kind_of written.Build = kinds.Build
kind_of written.Dev = kinds.Dev

-- what a node depends on: an id, with a kind and a condition
abbrev pub Asked : Type 0
Asked = List ℕ × KindRow

abbrev pub asked_as : List ℕ → KindRow → Asked
asked_as on row = (on, row)

abbrev pub asked_by : Written → List Asked
asked_by d = map (asked_as d.on.now) d.kinds.items

abbrev pub asked_of : List Written → List Asked
asked_of ds = flat_map asked_by ds

pub record IsEdge (nodes : List (List ℕ)) (a : Asked) (d : Dependency) : Type 0 where
  pub inside : d.to < length nodes
  pub names : id_at nodes d.to ≡ a.0
  pub kind : d.kind ≡ kind_of a.1.kind
  pub holds : HoldsWhere a.1.condition d.holds

-- each of the second belongs to one of the first, in order
pub data AreEach {X Y : Type 0} (Belongs : X → Y → Type 0) : List X → List Y → Type 0 where
  of_none : AreEach Belongs [] []
  of_more : (xs : List X) (x : X) (ys : List Y) (y : Y) → AreEach Belongs xs ys → Belongs x y
      → AreEach Belongs (xs ++ x ∷ []) (ys ++ y ∷ [])

-- the edges of a node, whose dependencies are valid
pub record AreEdgesOf (nodes : List (List ℕ)) (n : Node) (edges : List Dependency) : Type 0 where
  pub sound : AreSound nodes n
  pub each : AreEach (IsEdge nodes) (asked_of n.dependencies.items) edges

-- the package of a node, as the document describes it, and as the graph has it
pub record IsPackageOf (m : Metadata) (n : Node) (d : Described) (p : Package) : Type 0 where
  pub described : Contains m.packages.items d
  pub named : d.id.now ≡ n.id.now
  pub root : IsTrue p.is_root ↔ Contains (member_ids m.members.items) n.id.now
  pub macro : p.is_macro ≡ d.is_macro
  pub edges : AreEdgesOf (node_ids m.nodes.items) n p.dependencies.items

pub record IsLinked (m : Metadata) (linked : Linked) : Type 0 where
  pub ids : AreIds m
  pub members : AreMembers m (length m.members.items)
  pub described : length linked.described.items ≡ length m.nodes.items
  pub packages : length linked.packages.items ≡ length m.nodes.items
  pub each : (i : ℕ) (n : Node) (d : Described) (p : Package) → i < length m.nodes.items
      → IsPackageOf m (slice_index_or m.nodes.items i n) (slice_index_or linked.described.items i d)
      (slice_index_or linked.packages.items i p)
