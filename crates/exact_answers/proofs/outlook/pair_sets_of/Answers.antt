use Rattle.std.proofs.Common.{◌≡◌, ◌∙◌, sym, subst, IfSome}
use Rattle.std.specs.FinSet.{contains}
use Rattle.cargo_platform.specs.Trees.{value_of}
use Rattle.cargo_platform.specs.Facts.{pair_of}
use Rattle.exact_answers.specs.Inside.Paths.{base_of, turns}
use Rattle.exact_answers.specs.Inside.Ahead.{AreChosen, AreTold}
use Rattle.exact_answers.proofs.Ahead.{some_chosen}
use Rattle.exact_answers.proofs.Numbers.{told_more, told_pair, pairs_left}
use Rattle.exact_answers.proofs.outlook.pair_sets_of.Goals as goal

pub loop-pair-preserved : goal.loop-pair-preserved
loop-pair-preserved c = record {
  pairs = pairs_left c.loop-pair.table.items _ c.args.pairs.now c.loop-pair.pair-index c.pair-item.result _
      c.loop-pair-test.true c.pair-item.is c.in_ok-push.ensures.items c.next_pair_sets.ensures.same
      c.loop-pair.invariant.pairs;
  told =
      let k = base_of c.args.path.now.known.now in
      let ds = turns c.args.path.now in
      subst (AreTold k ds) (sym c.in_ok-push.ensures.items)
      (told_more k ds c.loop-pair.table.items _ c.loop-pair.invariant.told
      (c.next_pair_sets.ensures.tells ∙ c.tells.ensures ∙ told_pair k ds _ _ c.next_pair_sets.ensures.same));
  chosen = λ s told.
      let p = pair_of (value_of c.pair-item.result.now) in
      let so : IfSome c.tells.result (λ b. contains s p ≡ b) =
      subst (λ t. IfSome t (λ b. contains s p ≡ b)) (sym c.tells.ensures) (told p) in
      subst (AreChosen s c.next_pair_sets.result.1.now) (sym c.in_ok-push.ensures.items)
      (c.next_pair_sets.ensures.next s c.loop-pair.table.items so (c.loop-pair.invariant.chosen s told));
}

pub returns-clause-chosen : goal.returns-clause-chosen
returns-clause-chosen c = λ s told.
    some_chosen s c.loop-pair.left.now c.loop-pair.table.items (c.loop-pair.invariant.chosen s told)
