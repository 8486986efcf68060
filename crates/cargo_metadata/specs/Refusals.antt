-- The first error of a document: in the ids of packages, of nodes, of members, and then in dependencies.
use Rattle.std.specs.Prelude.{◌<◌, ℕ, Bool, true, false, List, Option, Some, None, length, Contains}
use Rattle.std.specs.List.{slice_index_or}
use Rattle.std.specs.Borrow.{Bor}
use Rattle.cargo_platform.specs.Errors.{orig_of, fault_in, span_in}
use Rattle.cargo_platform.specs.Platforms.{IsRefusedConditionAt}
use Rattle.cargo_platform.specs.declared.error.ParseError.{ParseError}
use Rattle.cargo_metadata.specs.declared.metadata.Metadata.{Metadata}
use Rattle.cargo_metadata.specs.declared.nodes.Node.{Node}
use Rattle.cargo_metadata.specs.declared.nodes.Dependency.{Dependency as Written}
use Rattle.cargo_metadata.specs.Ids.{package_ids, node_ids, member_ids, id_at, AreDistinct, IsFirstRepeat}
use Rattle.cargo_metadata.specs.Links.{AreNodes, AreIds, AreMembers, IsSpelled, IsSound, AreSound}
use Rattle.cargo_metadata.specs.declared.graphs.refusals.EdgeError.{EdgeError}
use Rattle.cargo_metadata.specs.declared.graphs.refusals.EdgeError.TheVariants as in_dependency
use Rattle.cargo_metadata.specs.declared.graphs.refusals.GraphError.{GraphError}
use Rattle.cargo_metadata.specs.declared.graphs.refusals.GraphError.TheVariants as refusals

-- the element at index i has the error, and those before it are valid
pub record IsFirst {X : Type 0} (IsFine IsFault : X → Type 0) (xs : List X) (i : ℕ) : Type 0 where
  pub before : (k : ℕ) (x : X) → k < i → IsFine (slice_index_or xs k x)
  pub inside : i < length xs
  pub fault : (x : X) → IsFault (slice_index_or xs i x)

pub record HasNoPackage (m : Metadata) (i : ℕ) : Type 0 where
  pub packages : AreDistinct (package_ids m.packages.items) (length m.packages.items)
  pub before : AreNodes m i
  pub inside : i < length m.nodes.items
  pub none : Contains (package_ids m.packages.items) (id_at (node_ids m.nodes.items) i) → ⊥

pub record IsNodeAgain (m : Metadata) (first again : ℕ) : Type 0 where
  pub packages : AreDistinct (package_ids m.packages.items) (length m.packages.items)
  pub before : AreNodes m again
  pub repeated : IsFirstRepeat (node_ids m.nodes.items) first again

pub record IsNoNode (m : Metadata) (i : ℕ) : Type 0 where
  pub ids : AreIds m
  pub before : AreMembers m i
  pub inside : i < length m.members.items
  pub none : Contains (node_ids m.nodes.items) (id_at (member_ids m.members.items) i) → ⊥

-- a condition that is rejected, with its error: the text, the fault and the span
abbrev pub IsRefusedBy : ParseError → Option (Bor (List ℕ)) → Type 0
IsRefusedBy e None = ⊥
IsRefusedBy e (Some text) = IsRefusedConditionAt text.now (orig_of e) (fault_in e) (span_in e)

pub record HasCondition (nodes : List (List ℕ)) (i : ℕ) (e : ParseError) (d : Written) : Type 0 where
  pub names : Contains nodes d.on.now
  pub refused : IsFirst (λ row. IsSpelled row.condition) (λ row. IsRefusedBy e row.condition) d.kinds.items i

abbrev pub IsInDependency : List (List ℕ) → EdgeError → Written → Type 0
IsInDependency nodes in_dependency.NoNode d = Contains nodes d.on.now → ⊥
IsInDependency nodes (in_dependency.Condition i e) d = HasCondition nodes i e d
IsInDependency nodes (in_dependency.Memory error) d = Unit {0}

-- the first dependency of a node that is not valid
abbrev pub IsWrongAt : List (List ℕ) → ℕ → EdgeError → Node → Type 0
IsWrongAt nodes j wrong n =
    IsFirst (λ d. IsSound nodes d) (λ d. IsInDependency nodes wrong d) n.dependencies.items j

pub record HasDependency (m : Metadata) (i j : ℕ) (wrong : EdgeError) : Type 0 where
  pub ids : AreIds m
  pub members : AreMembers m (length m.members.items)
  pub first : IsFirst (λ n. AreSound (node_ids m.nodes.items) n)
      (λ n. IsWrongAt (node_ids m.nodes.items) j wrong n) m.nodes.items i

abbrev pub IsUnlinked : Metadata → GraphError → Type 0
IsUnlinked m (refusals.SamePackage first again) = IsFirstRepeat (package_ids m.packages.items) first again
IsUnlinked m (refusals.NoPackage i) = HasNoPackage m i
IsUnlinked m (refusals.SameNode first again) = IsNodeAgain m first again
IsUnlinked m (refusals.NoMember i) = IsNoNode m i
IsUnlinked m (refusals.Dependency i j wrong) = HasDependency m i j wrong
IsUnlinked m (refusals.Memory error) = Unit {0}

-- ---- whether memory is the reason

abbrev pub is_memory_of_dependency : EdgeError → Bool
is_memory_of_dependency in_dependency.NoNode = false
is_memory_of_dependency (in_dependency.Condition i e) = false
is_memory_of_dependency (in_dependency.Memory error) = true

abbrev pub is_memory : GraphError → Bool
is_memory (refusals.SamePackage first again) = false
is_memory (refusals.NoPackage i) = false
is_memory (refusals.SameNode first again) = false
is_memory (refusals.NoMember i) = false
is_memory (refusals.Dependency i j wrong) = is_memory_of_dependency wrong
is_memory (refusals.Memory error) = true
