use Rattle.std.proofs.Common.{◌≡◌, ◌<◌, ◌+◌, ◌*◌, ◌≤◌, ℕ, true, false, List, vec_len}
use Rattle.std.specs.VecDeque.{deque_len}
use Rattle.known_targets.specs.declared.table.TheConstants.{COUNT}
use Rattle.package_graphs.specs.Graphs.{edge_lists, is_in}
use Rattle.package_graphs.specs.Inside.Spreading.{waits, IsQueue, node_count, missing, AreSound}
use Rattle.package_graphs.specs.Inside.Spreading.{AreCarried}
use Rattle.package_graphs.proofs.presence.go_over.Given as goal

abbrev pub invariant-edges : goal.invariant-edges
invariant-edges l = record {
  queue : IsQueue l.queue;
  nodes : node_count l.queue ≡ node_count l.fn.queue;
  count : vec_len l.sets ≡ vec_len l.fn.sets;
  grown : (n k : ℕ) → k < COUNT → is_in l.fn.sets.items n k ≡ true → is_in l.sets.items n k ≡ true;
  waited : (n : ℕ) → waits l.queue n ≡ false → waits l.fn.queue n ≡ false;
  same : (n k : ℕ) → k < COUNT → waits l.queue n ≡ false → is_in l.sets.items n k ≡ is_in l.fn.sets.items n k;
  carried : waits l.queue l.node ≡ false → AreCarried (edge_lists l.graph) (is_in l.sets.items) l.node l.edge-index;
  sound : (roots : List ℕ) → AreSound (edge_lists l.graph) roots (is_in l.fn.sets.items)
      → AreSound (edge_lists l.graph) roots (is_in l.sets.items);
  work : 2 * missing l.sets.items + deque_len l.queue.nodes
      ≤ 2 * missing l.fn.sets.items + deque_len l.fn.queue.nodes;
}
