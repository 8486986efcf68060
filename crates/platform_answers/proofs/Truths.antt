-- Members of a group that have its neutral truth, and one after them.
use Rattle.std.proofs.Common.{◌≡◌, ◌≢◌, Bool, true, false, List, [], ◌∷◌, ◌++◌, refl, arith}
use Rattle.cargo_platform.specs.Trees.{Tree, trees_of}
use Rattle.cargo_platform.specs.Facts.{FactSet, truth, all_true, any_true}
use Rattle.cargo_platform.specs.Walk.{list_tree}

module _ (facts : FactSet) where
  all_from : (es others : List Tree) → all_true facts (trees_of es) ≡ true
      → all_true facts (trees_of (es ++ others)) ≡ all_true facts (trees_of others)
  all_from [] others h = refl
  all_from (e ∷ es) others h = grind (arith, all_from es others)

  any_from : (es others : List Tree) → any_true facts (trees_of es) ≡ false
      → any_true facts (trees_of (es ++ others)) ≡ any_true facts (trees_of others)
  any_from [] others h = refl
  any_from (e ∷ es) others h = grind (arith, any_from es others)

  -- one more member has it
  pub one_more : (neutral : Bool) (es : List Tree) (e : Tree) → truth facts (list_tree neutral es) ≡ neutral
      → truth facts e ≡ neutral → truth facts (list_tree neutral (es ++ e ∷ [])) ≡ neutral
  one_more true es e so_far more = grind (arith, all_from es (e ∷ []) so_far)
  one_more false es e so_far more = grind (arith, any_from es (e ∷ []) so_far)

  -- a member without it settles the group
  pub settled : (neutral : Bool) (es others : List Tree) (e : Tree) → truth facts (list_tree neutral es) ≡ neutral
      → truth facts e ≢ neutral → truth facts e ≡ truth facts (list_tree neutral (es ++ e ∷ others))
  settled true es others e so_far other = grind (arith, all_from es (e ∷ others) so_far)
  settled false es others e so_far other = grind (arith, any_from es (e ∷ others) so_far)
