use Rattle.std.proofs.Common.{◌≡◌, drop}
use Rattle.known_targets.specs.Rows.{values_of, lists_text}
use Rattle.known_targets.proofs.rows.lists_text.Given as goal

-- the answer depends on the values that are left
abbrev pub invariant-values : goal.invariant-values
invariant-values l =
    lists_text l.text (values_of (drop l.value-index l.values)) ≡ lists_text l.text (values_of l.values)
