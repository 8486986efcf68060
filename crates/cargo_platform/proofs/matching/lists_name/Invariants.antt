use Rattle.std.proofs.Common.{◌≡◌, false, take}
use Rattle.std.specs.List.{list_any}
use Rattle.std.specs.Ordering.{eq_by_cmp}
use Rattle.cargo_platform.specs.Key.{value_cmp}
use Rattle.cargo_platform.specs.Trees.{Alone, value_of}
use Rattle.cargo_platform.proofs.matching.lists_name.Given as goal

-- none of the facts so far is the name
abbrev pub invariant-loop-fact : goal.invariant-loop-fact
invariant-loop-fact l =
    list_any (λ fact. eq_by_cmp value_cmp (value_of fact) (Alone (record { raw = false; name = l.name })))
    (take l.fact-index l.facts) ≡ false
