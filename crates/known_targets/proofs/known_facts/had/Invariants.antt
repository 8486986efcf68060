use Rattle.std.proofs.Common.{◌≡◌, ◌++◌, take}
use Rattle.std.specs.List.{All, filter}
use Rattle.known_targets.specs.Rows.{keys_of}
use Rattle.known_targets.specs.Listed.{fact_values, IsFactOf, is_had, names_in, pairs_in}
use Rattle.known_targets.proofs.known_facts.had.Given as goal

abbrev pub invariant-names : goal.invariant-names
invariant-names l = record {
  values : fact_values l.facts.items ≡ filter (is_had (keys_of l.keys)) (names_in (keys_of (take l.i l.keys)));
  each : All (IsFactOf (keys_of l.keys)) l.facts.items;
}

abbrev pub invariant-keys : goal.invariant-keys
invariant-keys l = record {
  values : fact_values l.facts.items
      ≡ filter (is_had (keys_of l.keys)) (names_in (keys_of l.keys))
      ++ filter (is_had (keys_of l.keys)) (pairs_in (keys_of (take l.i l.keys)));
  each : All (IsFactOf (keys_of l.keys)) l.facts.items;
}
