use Rattle.std.proofs.Common.{◌≡◌, ℕ, ◌<◌, Bool}
use Rattle.exact_answers.specs.Diagrams.{Agrees, value, nodes_of, places}
use Rattle.exact_answers.proofs.goal_diagrams.table.Table.satisfying_choices.Given as goal

-- where which pairs hold agrees with the choices so far, the first place says what this one says
abbrev pub invariant-nodes : goal.invariant-nodes
invariant-nodes l = record {
  inside : l.at < places (nodes_of l.self);
  not_false : l.at ≡ 0 → ⊥;
  means : (holds : ℕ → Bool) → Agrees holds l.choices.items
      → value holds (nodes_of l.self) l.place ≡ value holds (nodes_of l.self) l.at;
}

abbrev pub decreases-nodes : goal.decreases-nodes
decreases-nodes l = l.at
