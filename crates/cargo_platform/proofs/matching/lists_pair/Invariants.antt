use Rattle.std.proofs.Common.{◌≡◌, false, take}
use Rattle.std.specs.List.{list_any}
use Rattle.std.specs.Ordering.{eq_by_cmp}
use Rattle.cargo_platform.specs.Key.{value_cmp}
use Rattle.cargo_platform.specs.Trees.{KeyPair, value_of}
use Rattle.cargo_platform.proofs.matching.lists_pair.Given as goal

-- none of the facts so far is the pair
abbrev pub invariant-loop-fact : goal.invariant-loop-fact
invariant-loop-fact l =
    list_any
    (λ fact. eq_by_cmp value_cmp (value_of fact) (KeyPair (record { raw = false; name = l.key }) l.value))
    (take l.fact-index l.facts) ≡ false
