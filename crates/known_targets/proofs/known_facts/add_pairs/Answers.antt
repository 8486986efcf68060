use Rattle.std.proofs.Common.{◌∙◌, ◌++◌, [], ◌∷◌}
use Rattle.std.specs.List.{filter}
use Rattle.cargo_platform.specs.Trees.{KeyPair}
use Rattle.known_targets.specs.Rows.{keys_of}
use Rattle.known_targets.specs.Listed.{fact_values, is_had}
use Rattle.known_targets.proofs.Listed.{value_more}
use Rattle.known_targets.proofs.known_facts.add_pairs.Goals as goal

pub values-preserved : goal.values-preserved
values-preserved c =
    let had = is_had (keys_of c.args.keys.now) in
    record {
      values =
          value_more had c.args.key.now c.args.values.now c.values.i _ _ _ _ c.values-test.true
          c.values.invariant.values
          (c.in_ok-add.ensures.values
          ∙ (λ i.
          fact_values c.values.facts.items
          ++ filter had (KeyPair (c.in_ok-unmarked.ensures i) (c.in_ok-from_str.ensures.ok i) ∷ [])));
      each = λ before. c.in_ok-add.ensures.each (c.values.invariant.each before);
    }
