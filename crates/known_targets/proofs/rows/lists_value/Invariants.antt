use Rattle.std.proofs.Common.{◌≡◌, drop}
use Rattle.known_targets.specs.Rows.{keys_of, lists_value}
use Rattle.known_targets.proofs.rows.lists_value.Given as goal

-- the answer depends on the rows that are left
abbrev pub invariant-keys : goal.invariant-keys
invariant-keys l = lists_value l.text (keys_of (drop l.key-index l.keys)) ≡ lists_value l.text (keys_of l.keys)
