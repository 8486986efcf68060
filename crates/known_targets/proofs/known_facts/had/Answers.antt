use Rattle.known_targets.specs.Rows.{keys_of}
use Rattle.known_targets.specs.Listed.{is_had}
use Rattle.known_targets.proofs.Listed.{row_more}
use Rattle.known_targets.proofs.known_facts.had.Goals as goal

pub keys-preserved : goal.keys-preserved
keys-preserved c = record {
  values =
      row_more (is_had (keys_of c.args.keys.now)) c.args.keys.now c.keys.i _ _ _ _ c.keys-test.true
      c.keys.invariant.values c.in_ok-add_pairs.ensures.values;
  each = c.in_ok-add_pairs.ensures.each c.keys.invariant.each;
}
