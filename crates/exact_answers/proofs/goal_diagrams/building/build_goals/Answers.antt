use Rattle.std.proofs.Common.{◌≡◌, ◌∙◌, refl, sym, ap, ◌+◌, ◌∷◌, drop, arith, length-drop}
use Rattle.std.proofs.lemmas.List.{drop_more}
use Rattle.exact_answers.proofs.Tables.{none-made, made-twice}
use Rattle.exact_answers.proofs.Steps.{goals_on, goals_end}
use Rattle.exact_answers.proofs.goal_diagrams.building.build_goals.Goals as goal

pub loop-goal-init : goal.loop-goal-init
loop-goal-init g c =
    record {
      made = none-made c.args.table.now c.args.among c.requires.table c.requires.among;
      means = λ s told. refl;
    }

pub loop-goal-preserved : goal.loop-goal-preserved
loop-goal-preserved g c =
    let gs = c.args.goals.now in
    let at = c.loop-goal.goal-index in
    let item = c.goal-item.result in
    let more : drop at gs ≡ item ∷ drop (at + 1) gs =
    drop_more gs at item c.loop-goal-test.true ∙ ap (λ x. x ∷ drop (at + 1) gs) (sym c.goal-item.is) in
    record {
      made = made-twice c.args.table.now c.loop-goal.table c.build.new.table c.loop-goal.place c.in_ok-next.next
          c.loop-goal.invariant.made c.in_ok-next.ensures.made;
      means = λ s told.
          goals_on s (drop at gs) (drop (at + 1) gs) item _ _ _ more (c.loop-goal.invariant.means s told)
          (c.in_ok-next.ensures.means s told);
    }

pub returns-clause-means : goal.returns-clause-means
returns-clause-means g c = λ s told.
    goals_end s (drop c.loop-goal.goal-index c.args.goals.now) _ _
    (omega (arith, length-drop c.loop-goal.goal-index c.args.goals.now, c.loop-goal-test.false))
    (c.loop-goal.invariant.means s told)
