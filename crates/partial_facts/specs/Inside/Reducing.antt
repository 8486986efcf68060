-- The residual of a group, member by member.
use Rattle.std.specs.Prelude.{◌≡◌, Bool, true, false, Option, Some, None, List, [], ◌∷◌, ◌++◌}
use Rattle.cargo_platform.specs.Trees.{Tree, True, False, Trees, tree, trees_of}
use Rattle.cargo_platform.specs.Facts.{Pair}
use Rattle.cargo_platform.specs.Walk.{list_tree}
use Rattle.partial_facts.specs.Inside.Groups.{both, members_known, grouped}
use Rattle.partial_facts.specs.Residual.{literal, unless_known, group, unknown_members, residual_tree}

-- what is known of the members so far, by the residuals among them that are not literals
abbrev pub left_so_far : Bool → List Tree → Option Bool
left_so_far n [] = Some n
left_so_far n (x ∷ xs) = None

abbrev pub in_front : List Tree → Trees → Trees
in_front [] ts = ts
in_front (x ∷ xs) ts = tree x (in_front xs ts)

-- the residual of a group, by the residuals of the members so far, what is known of the remaining ones, and the
-- residuals of these
abbrev pub left_by : Bool → List Tree → Option Bool → Trees → Tree
left_by n xs y ts = unless_known (both n (left_so_far n xs) y) (group (literal n) (grouped n) (in_front xs ts))

abbrev pub left_behind : (Pair → Option Bool) → Bool → List Tree → Trees → Tree
left_behind told n xs es = left_by n xs (members_known n told es) (unknown_members told es)

-- a member with the neutral truth is skipped, and one with the other truth decides the group
abbrev pub unless_settled : Bool → Bool → Tree → Tree
unless_settled true true t = t
unless_settled true false t = False
unless_settled false true t = True
unless_settled false false t = t

-- the residual of a group with one more member, whose residual is t, by the truth of t if it is a literal
abbrev pub left_with : (Pair → Option Bool) → Bool → List Tree → Option Bool → Tree → Trees → Tree
left_with told n xs (Some b) t es = unless_settled n b (left_behind told n xs es)
left_with told n xs None t es = left_behind told n (xs ++ t ∷ []) es

-- these are the residuals of the first members of a group: whatever others follow, they determine the residual of the
-- whole
abbrev pub IsLeftOf : (Pair → Option Bool) → Bool → List Tree → List Tree → Type 0
IsLeftOf told n es xs = (others : List Tree)
    → left_behind told n xs (trees_of others) ≡ residual_tree told (list_tree n (es ++ others))
