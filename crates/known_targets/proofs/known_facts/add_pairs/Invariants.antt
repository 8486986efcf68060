use Rattle.std.proofs.Common.{◌≡◌, ◌++◌, take}
use Rattle.std.specs.List.{All, filter}
use Rattle.known_targets.specs.Rows.{keys_of, values_of}
use Rattle.known_targets.specs.Listed.{fact_values, IsFactOf, is_had, pairs_of}
use Rattle.known_targets.proofs.known_facts.add_pairs.Given as goal

abbrev pub invariant-values : goal.invariant-values
invariant-values l = record {
  values : fact_values l.facts.items
      ≡ fact_values l.fn.facts.items
      ++ filter (is_had (keys_of l.keys)) (pairs_of l.key (values_of (take l.i l.values)));
  each : All (IsFactOf (keys_of l.keys)) l.fn.facts.items → All (IsFactOf (keys_of l.keys)) l.facts.items;
}
