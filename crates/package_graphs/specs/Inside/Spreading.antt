-- Invariants while targets are carried along edges: the nodes that are queued, and what is still missing.
use Rattle.std.specs.Prelude.{◌≡◌, ◌<◌, ℕ, zero, suc, ◌+◌, Bool, true, false, cond, List, length, sum_by, Contains}
use Rattle.std.specs.Prelude.{All, map, slice_index}
use Rattle.std.specs.List.{slice_index_or}
use Rattle.known_targets.specs.Sets.{is_member}
use Rattle.known_targets.specs.declared.target_set.TargetSet.{TargetSet}
use Rattle.known_targets.specs.declared.table.TheConstants.{COUNT}
use Rattle.package_graphs.specs.Graphs.{Edges, IsPresent, edges_from}
use Rattle.package_graphs.specs.declared.graph.Edge.{Edge}
use Rattle.package_graphs.specs.declared.queue.Queue.{Queue}

abbrev pub waits : Queue → ℕ → Bool
waits queue n = slice_index_or queue.waiting.items n false

-- the queued nodes, those that were queued first before the others
abbrev pub queued : Queue → List ℕ
queued queue = queue.nodes.items

abbrev pub node_count : Queue → ℕ
node_count queue = length queue.waiting.items

-- the nodes of the list are known; those that are queued are in it, each once, and no others are
pub record IsList (waiting : List Bool) (nodes : List ℕ) : Type 0 where
  pub known : All (λ n. n < length waiting) nodes
  pub listed : (n : ℕ) → slice_index_or waiting n false ≡ true → Contains nodes n
  pub flagged : (i : ℕ) → i < length nodes → slice_index_or waiting (slice_index nodes i) false ≡ true
  pub once : (i j : ℕ) → i < length nodes → j < length nodes → slice_index nodes i ≡ slice_index nodes j → i ≡ j

abbrev pub IsQueue : Queue → Type 0
IsQueue queue = IsList queue.waiting.items queue.nodes.items

-- the number of the first numbers that do not pass
unfoldable pub count_lacking : ℕ → (ℕ → Bool) → ℕ
count_lacking zero p = 0
count_lacking (suc n) p = cond (p n) 0 1 + count_lacking n p

abbrev pub lacking : TargetSet → ℕ
lacking set = count_lacking COUNT (is_member set)

-- the number of members that could still be added to all the sets
abbrev pub missing : List TargetSet → ℕ
missing sets = sum_by lacking sets

-- if the edge has a target of the node m, the end of the edge has it too
abbrev pub IsCarried : ℕ → (ℕ → ℕ → Bool) → ℕ → Edge → Type 0
IsCarried count at m edge = (k : ℕ) → k < COUNT → edge.to < count → at m k ≡ true → is_member edge.holds k ≡ true
    → at edge.to k ≡ true

-- the first `many` edges of a node are visited, with the current set of the node
abbrev pub AreCarried : Edges → (ℕ → ℕ → Bool) → ℕ → ℕ → Type 0
AreCarried graph at m many = (j : ℕ) → j < many → (d : Edge) → j < length (edges_from graph m)
    → IsCarried (length graph) at m (slice_index_or (edges_from graph m) j d)

-- each member of the sets is one by the relation
abbrev pub AreSound : Edges → List ℕ → (ℕ → ℕ → Bool) → Type 0
AreSound graph roots at = (n k : ℕ) → k < COUNT → at n k ≡ true → IsPresent graph roots k n
