-- Targets by their places in the table, and sets of them.
use Rattle.std.specs.Prelude.{ℕ, zero, suc, ◌+◌, ◌-◌, Bool, true, false, List, [], ◌∷◌}
use Rattle.known_targets.specs.Bits.{has}
use Rattle.known_targets.specs.declared.known.KnownTarget.{KnownTarget}
use Rattle.known_targets.specs.declared.target_set.TargetSet.{TargetSet}
use Rattle.known_targets.specs.declared.members.Targets.{Targets}
use Rattle.known_targets.specs.declared.table.TheConstants.{COUNT}

abbrev pub place : KnownTarget → ℕ
place target = target.index

-- whether the target at a place is in the set
abbrev pub is_member : TargetSet → ℕ → Bool
is_member set k = has set.words k

abbrev pub place_where : Bool → ℕ → List ℕ → List ℕ
place_where true k ks = k ∷ ks
place_where false k ks = ks

-- the places of the members among this many from k on, in order
unfoldable pub members_among : ℕ → TargetSet → ℕ → List ℕ
members_among zero set k = []
members_among (suc n) set k = place_where (is_member set k) k (members_among n set (k + 1))

abbrev pub members_from : TargetSet → ℕ → List ℕ
members_from set k = members_among (COUNT - k) set k

-- the places of all members, in order
abbrev pub members : TargetSet → List ℕ
members set = members_from set 0

-- the places that an iterator has left
abbrev pub left : Targets → List ℕ
left targets = members_from targets.set targets.next
