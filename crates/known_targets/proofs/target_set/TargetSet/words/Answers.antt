use Rattle.std.proofs.Common.{◌≢◌, ◌∙◌, arith, get_or-set_other, get_or-set_same, length-set, below_more}
use Rattle.known_targets.proofs.Bits.{has_in_use, has_none_behind, words_small}
use Rattle.known_targets.proofs.target_set.TargetSet.words.Goals as goal

pub returns-clause-members : goal.returns-clause-members
returns-clause-members c = has_in_use _ _ c.each.invariant.0 (λ j below. c.each.invariant.1 j (omega arith))

pub returns-clause-behind : goal.returns-clause-behind
returns-clause-behind c =
    has_none_behind c.args.self.words _ c.each.invariant.0 (λ j below. c.each.invariant.1 j (omega arith))

pub returns-clause-small : goal.returns-clause-small
returns-clause-small c =
    words_small c.args.self.words _ c.each.invariant.0 (λ j below. c.each.invariant.1 j (omega arith))

pub each-preserved : goal.each-preserved
each-preserved c = (
  length-set c.each.words c.each.i _ ∙ c.each.invariant.0,
  below_more _ _
      (λ j h. let ne : j ≢ c.each.i = omega arith in
      get_or-set_other c.each.words c.each.i j _ 0 ne ∙ c.each.invariant.1 j h)
      (get_or-set_same c.each.words c.each.i _ 0 (omega arith)),
)
