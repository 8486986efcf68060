use Rattle.std.proofs.Common.{◌≡◌, ◌≤◌, map, drop}
use Rattle.spdx_expressions.specs.Trees.{term_of, pieces}
use Rattle.spdx_expressions.specs.Allowed.{is_allowed}
use Rattle.spdx_expressions.specs.Inside.Walking.{walk, walk_of, live}
use Rattle.std.proofs.Common.{false}
use Rattle.spdx_expressions.proofs.allowed.walk_over.Given as goal

abbrev pub invariant-loop-part : goal.invariant-loop-part
invariant-loop-part l = record {
  left : walk (is_allowed (map term_of l.allowed)) (live false) (pieces l.parts)
      ≡ walk (is_allowed (map term_of l.allowed)) (walk_of l.reached) (pieces (drop l.part-index l.parts));
  depth : l.reached.depth ≤ l.part-index;
}
