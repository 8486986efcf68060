use Rattle.std.proofs.Common.{◌≤◌, ◌≡◌, ◌<◌, ◌+◌, ◌*◌, ℕ, true, false, length, get_or, vec_len}
use Rattle.std.specs.VecDeque.{deque_len}
use Rattle.known_targets.specs.declared.table.TheConstants.{COUNT}
use Rattle.package_graphs.specs.Graphs.{edge_lists, edges_from, is_in}
use Rattle.package_graphs.specs.Inside.Spreading.{waits, IsQueue, node_count, missing, AreSound}
use Rattle.package_graphs.specs.Inside.Spreading.{AreCarried}
use Rattle.package_graphs.proofs.presence.reached_targets.Given as goal

abbrev pub invariant-roots : goal.invariant-roots
invariant-roots l = record {
  queue : IsQueue l.queue;
  nodes : node_count l.queue ≡ vec_len l.sets;
  count : vec_len l.sets ≡ length (edge_lists l.graph);
  rooted : (i : ℕ) → i < l.root-index → get_or l.roots i 0 < vec_len l.sets → (k : ℕ) → k < COUNT
      → is_in l.sets.items (get_or l.roots i 0) k ≡ true;
  resting : (n k : ℕ) → k < COUNT → waits l.queue n ≡ false → is_in l.sets.items n k ≡ false;
  sound : AreSound (edge_lists l.graph) l.roots (is_in l.sets.items);
}

abbrev pub invariant-nodes : goal.invariant-nodes
invariant-nodes l = record {
  queue : IsQueue l.queue;
  nodes : node_count l.queue ≡ vec_len l.sets;
  count : vec_len l.sets ≡ length (edge_lists l.graph);
  rooted : (i : ℕ) → i < length l.roots → get_or l.roots i 0 < vec_len l.sets → (k : ℕ) → k < COUNT
      → is_in l.sets.items (get_or l.roots i 0) k ≡ true;
  carried : (m : ℕ) → waits l.queue m ≡ false
      → AreCarried (edge_lists l.graph) (is_in l.sets.items) m (length (edges_from (edge_lists l.graph) m));
  sound : AreSound (edge_lists l.graph) l.roots (is_in l.sets.items);
}

abbrev pub decreases-nodes : goal.decreases-nodes
decreases-nodes l = 2 * missing l.sets.items + deque_len l.queue.nodes
