use Rattle.std.proofs.Common.{◌≡◌, ◌+◌, ◌++◌, Bool, List, length, reverse}
use Rattle.std.specs.List.{list_all, list_any}
use Rattle.byte_answers.proofs.truths.take_truths.Given as goal

abbrev pub invariant-members : goal.invariant-members
invariant-members l =
    (taken : List Bool) × ((reverse l.initial.built.items ≡ taken ++ reverse l.built.items)
    × (length taken + l.left ≡ l.count) × (l.taken.all ≡ list_all (λ b. b) taken)
    × (l.taken.any ≡ list_any (λ b. b) taken))

abbrev pub decreases-members : goal.decreases-members
decreases-members l = l.left
