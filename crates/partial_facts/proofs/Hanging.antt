-- What an answer depends on, where a group comes down to its last member.
use Rattle.std.proofs.Common.{◌≡◌, Bool, true, false, Option, Some, None}
use Rattle.cargo_platform.specs.Trees.{Trees}
use Rattle.cargo_platform.specs.Facts.{Pair}
use Rattle.partial_facts.specs.Inside.Groups.{both, members_known, so_far}

-- what is known of the members es depends on those that are left, and on whether each before them is known
abbrev pub HangsOn : Bool → (Pair → Option Bool) → Bool → Trees → Trees → Type 0
HangsOn neutral told is_known left es =
    both neutral (so_far neutral is_known) (members_known neutral told left) ≡ members_known neutral told es

-- the answer, by what is known of the expression that it depends on
abbrev pub answer_by : Option Bool → Option Bool → Option Bool → Option Bool
answer_by if_true if_false (Some true) = if_true
answer_by if_true if_false (Some false) = if_false
answer_by if_true if_false None = None
