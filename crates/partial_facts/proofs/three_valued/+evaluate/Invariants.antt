use Rattle.std.proofs.Common.{◌≡◌, ◌∷◌, ◌+◌, ◌*◌, ◌≤◌, length, map}
use Rattle.cargo_platform.specs.Trees.{tree_of, trees_of}
use Rattle.cargo_platform.specs.ExpressionSizes.{node_count, node_counts}
use Rattle.partial_facts.specs.Kleene.{kleene}
use Rattle.partial_facts.proofs.Hanging.{HangsOn, answer_by}
use Rattle.partial_facts.proofs.three_valued.+evaluate.Given as goal

abbrev pub decreases-evaluate : goal.decreases-evaluate
decreases-evaluate g l = 2 * node_count l.e.now

abbrev pub decreases-last_member : goal.decreases-last_member
decreases-last_member g l = 2 * node_counts l.members.now + 1

-- the answer depends on what the loop has come to
abbrev pub invariant-evaluate-levels : goal.invariant-evaluate-levels
invariant-evaluate-levels g l = record {
  answer : answer_by l.if_true l.if_false (kleene (g.K.Knowledge.told l.known) (tree_of l.e))
      ≡ kleene (g.K.Knowledge.told l.known) (tree_of l.fn.e);
  within : node_count l.e ≤ node_count l.fn.e;
}

abbrev pub decreases-evaluate-levels : goal.decreases-evaluate-levels
decreases-evaluate-levels g l = node_count l.e

-- the truth depends on the members that are left
abbrev pub invariant-last_member-members : goal.invariant-last_member-members
invariant-last_member-members g l = record {
  truth : HangsOn l.neutral (g.K.Knowledge.told l.known) l.is_known (trees_of (map tree_of (l.e ∷ l.left)))
      (trees_of (map tree_of l.members));
  within : node_count l.e + node_counts l.left ≤ node_counts l.members;
}

abbrev pub decreases-last_member-members : goal.decreases-last_member-members
decreases-last_member-members g l = length l.left
