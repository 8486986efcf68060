use Rattle.std.proofs.Common.{◌≡◌, ◌≤◌, ◌-◌, ◌++◌, reverse, vec_len}
use Rattle.byte_answers.proofs.unflat.take_members.Given as goal

abbrev pub invariant-members : goal.invariant-members
invariant-members l =
    (reverse l.initial.built.items ≡ l.members.items ++ reverse l.built.items)
    × (vec_len l.members ≤ l.count)

abbrev pub decreases-members : goal.decreases-members
decreases-members l = l.count - vec_len l.members
