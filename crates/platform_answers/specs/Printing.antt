-- For proofs: the part of an expression that remains to be printed, while it is printed part by part.
use Rattle.std.specs.Prelude.{ℕ, ◌+◌, ◌*◌, List, [], ◌∷◌, ◌++◌, Option, Some, None, codes, map, reverse}
use Rattle.std.specs.Borrow.{Bor}
use Rattle.cargo_platform.specs.declared.cfg.CfgExpr.{CfgExpr}
use Rattle.cargo_platform.specs.Trees.{tree_of, trees_of}
use Rattle.cargo_platform.specs.Print.{print, print_members}
use Rattle.cargo_platform.specs.ExpressionSizes.{node_count, node_counts}
use Rattle.platform_answers.specs.declared.printing.OpenGroups.{OpenGroups}

-- the remaining members of each open group, the innermost group first
abbrev pub stack : OpenGroups → List (Bor (List CfgExpr))
stack opened = reverse opened.groups.items

-- the remaining members, with what precedes the next one and the parenthesis after the last one
abbrev pub members_from : List ℕ → List CfgExpr → List ℕ
members_from separator [] = codes ")"
members_from separator (e ∷ es) = separator ++ (print_members (trees_of (map tree_of (e ∷ es))) ++ codes ")")

-- the rest of all open groups
abbrev pub rest : List (Bor (List CfgExpr)) → List ℕ
rest [] = []
rest (es ∷ gs) = members_from (codes ", ") es.now ++ rest gs

-- the expression that is next, if there is one
abbrev pub print_next : Option (Bor CfgExpr) → List ℕ
print_next None = []
print_next (Some e) = print (tree_of e.now)

-- the measure that decreases with each step
abbrev pub work : List (Bor (List CfgExpr)) → ℕ
work [] = 0
work (es ∷ gs) = 2 * node_counts es.now + 1 + work gs

abbrev pub work_of_next : Option (Bor CfgExpr) → ℕ
work_of_next None = 1
work_of_next (Some e) = 2 * node_count e.now
