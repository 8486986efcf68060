-- The members of a group, as a list of the program.
use Rattle.std.proofs.Common.{◌≡◌, refl, ap, ℕ, suc, ◌-◌, List, [], ◌∷◌, length, drop, map, min, arith, length-drop}
use Rattle.std.specs.declared.cmp.Ordering.TheVariants.{Less, Equal, Greater}
use Rattle.std.specs.Ordering.{nat_cmp}
use Rattle.std.specs.Cmp.{nat_cmp_is}
use Rattle.cargo_platform.specs.declared.cfg.CfgExpr.{CfgExpr}
use Rattle.cargo_platform.specs.Trees.{tree_of, trees_of}
use Rattle.cargo_platform.specs.Key.{trees_cmp}
use Rattle.cargo_platform.specs.Hashing.{count}

left_of : (ds es : List CfgExpr) (m n k : ℕ) → length ds ≡ m - k → length es ≡ n - k → k ≡ min m n
    → trees_cmp (trees_of (map tree_of ds)) (trees_of (map tree_of es)) ≡ nat_cmp m n
left_of [] [] m n k p q r = nat_cmp_is m n Equal (omega arith)
left_of [] (e ∷ es) m n k p q r = nat_cmp_is m n Less (omega arith)
left_of (d ∷ ds) [] m n k p q r = nat_cmp_is m n Greater (omega arith)
left_of (d ∷ ds) (e ∷ es) m n k p q r = absurd (omega arith)

-- where one of two lists has ended, their lengths decide
pub ended : (ds es : List CfgExpr) (k : ℕ) → k ≡ min (length ds) (length es)
    → trees_cmp (trees_of (map tree_of (drop k ds))) (trees_of (map tree_of (drop k es))) ≡ nat_cmp (length ds)
    (length es)
ended ds es k r = left_of (drop k ds) (drop k es) (length ds) (length es) k (length-drop k ds) (length-drop k es) r

pub count_members : (es : List CfgExpr) → count (trees_of (map tree_of es)) ≡ length es
count_members [] = refl
count_members (e ∷ es) = ap suc (count_members es)
