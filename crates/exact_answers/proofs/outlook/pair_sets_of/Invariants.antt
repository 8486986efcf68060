use Rattle.std.proofs.Common.{◌≡◌, ◌++◌, drop}
use Rattle.cargo_platform.specs.Facts.{FactSet}
use Rattle.exact_answers.specs.Goals.{pairs_of, IsAsTold}
use Rattle.exact_answers.specs.Inside.Paths.{told_by_path, base_of, turns}
use Rattle.exact_answers.specs.Inside.Ahead.{AreChosen, AreTold, table_pairs}
use Rattle.exact_answers.proofs.outlook.pair_sets_of.Given as goal

-- the words so far, and the patterns that are left
abbrev pub invariant-loop-pair : goal.invariant-loop-pair
invariant-loop-pair l = record {
  pairs : table_pairs l.table.items ++ pairs_of (drop l.pair-index l.pairs) ≡ pairs_of l.pairs;
  told : AreTold (base_of l.path.known.now) (turns l.path) l.table.items;
  chosen : (s : FactSet) → IsAsTold (told_by_path l.path) s → AreChosen s l.left l.table.items;
}
