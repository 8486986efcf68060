use Rattle.std.proofs.Common.{◌≡◌, ◌<◌, ℕ, length, get_or, vec_len}
use Rattle.cargo_features.specs.Inside.Listing.{place_lists, IsPlaced}
use Rattle.cargo_features.specs.declared.rules.Rule.{Rule}
use Rattle.cargo_features.proofs.rules_by_premise.Premises.of.Given as goal

abbrev pub invariant-facts : goal.invariant-facts
invariant-facts l = vec_len l.lists ≡ l.counter

abbrev pub invariant-rules : goal.invariant-rules
invariant-rules l = record {
  count : length (place_lists l.premises) ≡ l.count;
  all : (j : ℕ) → j < l.i → (d : Rule) → IsPlaced (place_lists l.premises) j (get_or l.rules j d);
}
