use Rattle.std.proofs.Common.{◌≡◌, ◌+◌, ◌++◌, Bool, true, map, reverse, length}
use Rattle.std.specs.List.{All}
use Rattle.cargo_platform.specs.Trees.{tree_of, trees_of}
use Rattle.cargo_platform.specs.Facts.{Pair, FactSet}
use Rattle.exact_answers.specs.Asking.{some_asks}
use Rattle.cargo_platform.specs.ExpressionSizes.{node_counts}
use Rattle.exact_answers.specs.Inside.Ahead.{meets, goals_size, AsksAmong}
use Rattle.exact_answers.proofs.Ahead.{wanted_of}
use Rattle.exact_answers.proofs.outlook.add_members.Given as goal

-- what is left, and what is added
abbrev pub invariant-members : goal.invariant-members
invariant-members l = record {
  met : (s : FactSet) → map (wanted_of s l.wanted) l.left ++ map (meets s) (reverse l.pending.items)
      ≡ map (wanted_of s l.wanted) l.members ++ map (meets s) (reverse l.fn.pending.items);
  size : node_counts l.left + goals_size l.pending.items ≡ node_counts l.members + goals_size l.fn.pending.items;
  within : (p : Pair) → some_asks (trees_of (map tree_of l.left)) p ≡ true
      → some_asks (trees_of (map tree_of l.members)) p ≡ true;
  asked : (among : Pair → Bool)
      → ((p : Pair) → some_asks (trees_of (map tree_of l.members)) p ≡ true → among p ≡ true)
      → All (AsksAmong among) l.fn.pending.items → All (AsksAmong among) l.pending.items;
}

abbrev pub decreases-members : goal.decreases-members
decreases-members l = length l.left
