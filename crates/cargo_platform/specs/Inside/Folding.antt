-- For proofs: the groups around an expression that is folded, the whole that they make, and the work that is left.
use Rattle.std.specs.Prelude.{◌≡◌, ℕ, ◌+◌, ◌*◌, Bool, List, [], ◌∷◌, ◌++◌, map, reverse}
use Rattle.cargo_platform.specs.Trees.{Tree, Not, tree_of}
use Rattle.cargo_platform.specs.ExpressionSizes.{node_count, node_counts}
use Rattle.cargo_platform.specs.Walk.{list_tree}
use Rattle.cargo_platform.specs.declared.folding.Next.{Next}
use Rattle.cargo_platform.specs.declared.folding.Next.TheVariants as next
use Rattle.cargo_platform.specs.declared.folding.groups.EnteredGroup.{EnteredGroup}
use Rattle.cargo_platform.specs.declared.folding.groups.EnteredGroup.TheVariants as groups
use Rattle.cargo_platform.specs.declared.folding.groups.EnteredGroups.{EnteredGroups}

-- the innermost group first
abbrev pub stack : {M : Type 0} → EnteredGroups M → List (EnteredGroup M)
stack c = reverse c.groups.items

-- the expression that a group makes with the current part
abbrev pub Around : {M : Type 0} → (Bool → List Tree → M → Type 0) → EnteredGroup M → Tree → Tree → Type 0
Around gathers groups.Not e around = around ≡ Not e
Around gathers (groups.List l) e around =
    (es : List Tree) × gathers l.neutral es l.so_far
    × (around ≡ list_tree l.neutral (es ++ e ∷ map tree_of l.members.now))

-- the whole that all groups make with the current part
abbrev pub Within : {M : Type 0} → (Bool → List Tree → M → Type 0) → List (EnteredGroup M) → Tree → Tree → Type 0
Within gathers [] e whole = whole ≡ e
Within gathers (g ∷ gs) e whole = (around : Tree) × Around gathers g e around × Within gathers gs around whole

-- the next thing to handle is inside the groups, which make the whole
abbrev pub Stands : {M P : Type 0} → (Tree → P → Type 0) → (Bool → List Tree → M → Type 0) → List (EnteredGroup M)
    → Next P → Tree → Type 0
Stands makes gathers gs (next.Expression e) whole = Within gathers gs (tree_of e.now) whole
Stands makes gathers gs (next.Part part) whole = (e : Tree) × makes e part × Within gathers gs e whole

-- what decreases with each step
abbrev pub left_in : {M : Type 0} → EnteredGroup M → ℕ
left_in groups.Not = 1
left_in (groups.List l) = 2 * node_counts l.members.now + 1

abbrev pub work : {M : Type 0} → List (EnteredGroup M) → ℕ
work [] = 0
work (g ∷ gs) = left_in g + work gs

abbrev pub left_of : {P : Type 0} → Next P → ℕ
left_of (next.Expression e) = 2 * node_count e.now
left_of (next.Part part) = 1
