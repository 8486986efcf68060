use Rattle.std.proofs.Common.{◌≡◌, drop, map}
use Rattle.cargo_platform.specs.Trees.{value_of}
use Rattle.cargo_platform.specs.Facts.{pair_of}
use Rattle.exact_answers.specs.Asking.{is_pair}
use Rattle.exact_answers.specs.Inside.Paths.{takes, turn_of}
use Rattle.exact_answers.proofs.path.takes.Given as goal

-- the answer depends on the splits that are left
abbrev pub invariant-loop-split : goal.invariant-loop-split
invariant-loop-split l =
    takes (is_pair (pair_of (value_of l.c))) (map turn_of (drop l.split-index l.splits))
    ≡ takes (is_pair (pair_of (value_of l.c))) (map turn_of l.splits)
