use Rattle.std.proofs.Common.{◌≡◌, sym, ◌∙◌, ◌+◌, ◌-◌, ◌/◌, ◌∷◌, length, take, drop, arith}
use Rattle.std.proofs.lemmas.List.{length-take-le}
use Rattle.std.proofs.lemmas.List.Sorted.{IsNonDecreasingBy-drop, IsNonDecreasingBy-take}
use Rattle.std.specs.Ordering.{ordering_index}
use Rattle.cargo_platform.proofs.Halving.{is_after, above_Less, below_Greater, still_few, still_halved}
use Rattle.cargo_platform.proofs.search.Sorted.has.Goals as goal

pub halves-preserved-in-Less : goal.halves-preserved-in-Less
halves-preserved-in-Less g c =
    let order = g.S.Sought.order c.args.sought.now in
    let left = c.halves.left.now in
    let i = length left / 2 in
    let x = c.in-Some.middle.now in
    let after = c.in-Some.after.now in
    let old = g.T.Tally.asks c.args.tally.now in
    let now = g.T.Tally.asks c.halves.tally in
    let new = g.T.Tally.asks c.compare.new.tally in
    let so_far = c.halves.invariant in
    let cut : drop i left ≡ x ∷ after = sym {b = drop i left} c.split_at.ensures.back ∙ c.in-Some.ensures.cases.0 in
    record {
      rising =
          rw (is_after order left i x after so_far.rising cut) at
          (IsNonDecreasingBy-drop (λ a. ordering_index (order a)) (i + 1) left so_far.rising);
      same = above_Less order left i x after so_far.rising cut (sym c.in-Less.ensures.order) ∙ so_far.same;
      grows = omega arith;
      few = still_few (now - old) (new - old) (length left) 0 _ (omega arith) so_far.halved
          (omega (arith, c.in-Some.ensures.cases.1));
      halved =
          still_halved (now - old) (new - old) (length left) (length after) _ (omega arith) so_far.halved
          (omega (arith, c.in-Some.ensures.cases.1));
    }

pub returns-in-Equal-clause-comparisons : goal.returns-in-Equal-clause-comparisons
returns-in-Equal-clause-comparisons g c =
    let left = c.halves.left.now in
    let old = g.T.Tally.asks c.args.tally.now in
    let now = g.T.Tally.asks c.halves.tally in
    let new = g.T.Tally.asks c.compare.new.tally in
    still_few (now - old) (new - old) (length left) 0 _ (omega arith) c.halves.invariant.halved
    (omega (arith, c.in-Some.ensures.cases.1))

pub halves-preserved : goal.halves-preserved
halves-preserved g c =
    let order = g.S.Sought.order c.args.sought.now in
    let left = c.halves.left.now in
    let i = length left / 2 in
    let x = c.in-Some.middle.now in
    let after = c.in-Some.after.now in
    let old = g.T.Tally.asks c.args.tally.now in
    let now = g.T.Tally.asks c.halves.tally in
    let new = g.T.Tally.asks c.compare.new.tally in
    let so_far = c.halves.invariant in
    let cut : drop i left ≡ x ∷ after = sym {b = drop i left} c.split_at.ensures.back ∙ c.in-Some.ensures.cases.0 in
    rw c.split_at.ensures.front
    record {
      rising = IsNonDecreasingBy-take (λ a. ordering_index (order a)) i left so_far.rising;
      same = below_Greater order left i x after so_far.rising cut (sym c.in-Greater.ensures.order) ∙ so_far.same;
      grows = omega arith;
      few = still_few (now - old) (new - old) (length left) 0 _ (omega arith) so_far.halved
          (omega (arith, c.in-Some.ensures.cases.1));
      halved =
          still_halved (now - old) (new - old) (length left) (length (take i left)) _ (omega arith) so_far.halved
          (omega (arith, length-take-le i left (omega arith)));
    }
