use Rattle.std.proofs.Common.{◌≡◌, ◌<◌, ◌+◌, ◌*◌, ◌≤◌, ◌⊎◌, ℕ, true, List, length, vec_len}
use Rattle.std.specs.Prelude.{All, Contains}
use Rattle.std.specs.VecDeque.{deque_len}
use Rattle.known_targets.specs.declared.table.TheConstants.{COUNT}
use Rattle.known_targets.specs.declared.target_set.TargetSet.{TargetSet}
use Rattle.package_graphs.specs.Graphs.{is_in}
use Rattle.package_graphs.specs.Inside.Spreading.{missing}
use Rattle.cargo_features.specs.Inside.Working.{IsAsBefore, AreSound, AreApplied}
use Rattle.cargo_features.proofs.applying_rules.apply.Given as goal

abbrev pub invariant-places : goal.invariant-places
invariant-places l = record {
  count : vec_len l.sets ≡ vec_len l.fn.sets;
  grown : (n k : ℕ) → k < COUNT → is_in l.fn.sets.items n k ≡ true → is_in l.sets.items n k ≡ true;
  known : All (λ n. n < vec_len l.fn.sets) l.fn.waiting.items → All (λ n. n < vec_len l.fn.sets) l.waiting.items;
  kept : (n : ℕ) → Contains l.fn.waiting.items n → Contains l.waiting.items n;
  waits : (n : ℕ) → Contains l.waiting.items n ⊎ IsAsBefore l.fn.sets.items l.sets.items n;
  applied : AreApplied l.rules l.done.items l.sets.items l.places l.place-index;
  sound : (sets : List TargetSet) → length sets ≡ vec_len l.fn.sets → AreSound sets l.rules l.done.items
      → AreSound sets l.rules l.fn.sets.items → AreSound sets l.rules l.sets.items;
  work : 2 * missing l.sets.items + deque_len l.waiting ≤ 2 * missing l.fn.sets.items + deque_len l.fn.waiting;
}
