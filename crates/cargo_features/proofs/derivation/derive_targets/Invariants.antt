use Rattle.std.proofs.Common.{◌≡◌, ◌<◌, ◌+◌, ◌*◌, ◌⊎◌, ℕ, true, length, get_or, vec_len}
use Rattle.std.specs.Prelude.{All, Contains}
use Rattle.std.specs.VecDeque.{deque_len}
use Rattle.known_targets.specs.declared.table.TheConstants.{COUNT}
use Rattle.package_graphs.specs.Graphs.{is_in}
use Rattle.package_graphs.specs.Inside.Spreading.{missing}
use Rattle.cargo_features.specs.Inside.Working.{IsAsBefore, AreSound, IsApplied}
use Rattle.cargo_features.specs.declared.rules.Rule.{Rule}
use Rattle.cargo_features.proofs.derivation.derive_targets.Given as goal

abbrev pub invariant-facts : goal.invariant-facts
invariant-facts l = record {
  sets : vec_len l.sets ≡ l.count;
  done : vec_len l.done ≡ l.count;
  known : All (λ n. n < l.count) l.waiting.items;
  has : (n k : ℕ) → k < COUNT → is_in l.fn.given.items n k ≡ true → is_in l.sets.items n k ≡ true;
  within : (n k : ℕ) → k < COUNT → is_in l.done.items n k ≡ true → is_in l.sets.items n k ≡ true;
  waits : (n : ℕ) → n < l.count → Contains l.waiting.items n ⊎ IsAsBefore l.sets.items l.done.items n;
  applied : (j : ℕ) → j < length l.rules → (d : Rule)
      → IsApplied l.done.items l.sets.items (get_or l.rules j d);
  sound : AreSound l.fn.given.items l.rules l.sets.items;
}

abbrev pub decreases-facts : goal.decreases-facts
decreases-facts l = 2 * missing l.sets.items + deque_len l.waiting
