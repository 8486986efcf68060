use Rattle.std.proofs.Common.{◌≡◌, ◌∙◌, sym, ap, ◌+◌, box_value, map, reverse, ◌∷◌, arith}
use Rattle.std.proofs.lemmas.Result.{IfOk-weaker}
use Rattle.cargo_platform.specs.ExpressionSizes.{node_count}
use Rattle.exact_answers.specs.Inside.Ahead.{meets, goals_size}
use Rattle.exact_answers.proofs.Ahead.{size_last}
use Rattle.exact_answers.proofs.Adding.{pushed_goal, not_meets, not_size, pushed_operation, all_done, any_done}
use Rattle.exact_answers.proofs.Adding.{value_meets, true_meets, false_meets}
use Rattle.exact_answers.proofs.Adding.{more_numbered, pair_numbered, pushed_asks, not_asks, all_asks, any_asks}
use Rattle.exact_answers.proofs.OpenMembers.{value_asks}
use Rattle.exact_answers.proofs.outlook.GoalEvaluator.add.Goals as goal

pub returns-in_ok-push-in-Not-clause-same : goal.returns-in_ok-push-in-Not-clause-same
returns-in_ok-push-in-Not-clause-same c = λ s.
    let inner : c.deref.result.now ≡ box_value c.in-Not.inner = cc in
    pushed_goal s (reverse c.args.self.now.operations.items) c.args.pending.now.items c.push.new.self.items _
    (meets s c.args.goal) c.in_ok-push-in-Not.ensures.items
    (not_meets s c.args.goal.wanted c.args.goal.e.now c.deref.result.now c.in-Not.inner inner c.in-Not.is)

pub returns-in_ok-push-in-Not-clause-size : goal.returns-in_ok-push-in-Not-clause-size
returns-in_ok-push-in-Not-clause-size c =
    let inner : c.deref.result.now ≡ box_value c.in-Not.inner = cc in
    let k = not_size c.args.goal.e.now c.deref.result.now c.in-Not.inner inner c.in-Not.is in
    let more : goals_size c.push.new.self.items
    ≡ goals_size c.args.pending.now.items + node_count c.deref.result.now =
    ap goals_size c.in_ok-push-in-Not.ensures.items ∙ size_last c.args.pending.now.items _ in
    omega (arith, k, more)

pub returns-in_ok-push-in-All-clause-same : goal.returns-in_ok-push-in-All-clause-same
returns-in_ok-push-in-All-clause-same c =
    IfOk-weaker c.add_members.result _ _
    (λ done met s.
    pushed_operation s c.args.self.now.operations.items c.push-in-All.new.self.items _
    (map (meets s) (reverse c.add_members.new.pending.items)) _ c.in_ok-push-in-All.ensures.items
    (all_done s c.args.goal.wanted c.args.goal.e.now c.in-All.members c.deref-in-All.result.now c.len.result
    (map (meets s) (reverse c.add_members.new.pending.items)) (map (meets s) (reverse c.args.pending.now.items))
    c.in-All.is c.deref-in-All.ensures.value (c.len.ensures ∙ sym c.deref-in-All.ensures.len) (met s)))
    c.add_members.ensures.met

pub returns-in_ok-push-in-Any-clause-same : goal.returns-in_ok-push-in-Any-clause-same
returns-in_ok-push-in-Any-clause-same c =
    IfOk-weaker c.add_members-in-Any.result _ _
    (λ done met s.
    pushed_operation s c.args.self.now.operations.items c.push-in-Any.new.self.items _
    (map (meets s) (reverse c.add_members-in-Any.new.pending.items)) _ c.in_ok-push-in-Any.ensures.items
    (any_done s c.args.goal.wanted c.args.goal.e.now c.in-Any.members c.deref-in-Any.result.now c.len-in-Any.result
    (map (meets s) (reverse c.add_members-in-Any.new.pending.items)) (map (meets s) (reverse c.args.pending.now.items))
    c.in-Any.is c.deref-in-Any.ensures.value (c.len-in-Any.ensures ∙ sym c.deref-in-Any.ensures.len) (met s)))
    c.add_members-in-Any.ensures.met

pub returns-in_ok-push-in-Value-clause-same : goal.returns-in_ok-push-in-Value-clause-same
returns-in_ok-push-in-Value-clause-same c = λ s.
    let bs = map (meets s) (reverse c.args.pending.now.items) in
    pushed_operation s c.args.self.now.operations.items c.push-in-Value.new.self.items _ bs _
    c.in_ok-push-in-Value.ensures.items
    (ap (λ b. b ∷ bs) (value_meets s c.args.goal.wanted c.args.goal.e.now c.in-Value.c c.in-Value.is))

pub returns-in_ok-push-in-True-clause-same : goal.returns-in_ok-push-in-True-clause-same
returns-in_ok-push-in-True-clause-same c = λ s.
    let bs = map (meets s) (reverse c.args.pending.now.items) in
    pushed_operation s c.args.self.now.operations.items c.push-in-True.new.self.items _ bs _
    c.in_ok-push-in-True.ensures.items
    (ap (λ b. b ∷ bs) (true_meets s c.args.goal.wanted c.args.goal.e.now c.in-True.is))

pub returns-in_ok-push-in-False-clause-same : goal.returns-in_ok-push-in-False-clause-same
returns-in_ok-push-in-False-clause-same c = λ s.
    let bs = map (meets s) (reverse c.args.pending.now.items) in
    pushed_operation s c.args.self.now.operations.items c.push-in-False.new.self.items _ bs _
    c.in_ok-push-in-False.ensures.items
    (ap (λ b. b ∷ bs) (false_meets s c.args.goal.wanted c.args.goal.e.now c.in-False.is))

pub returns-in_ok-push-in-Not-clause-asked : goal.returns-in_ok-push-in-Not-clause-asked
returns-in_ok-push-in-Not-clause-asked c = λ among is all pairs.
    let inner : c.deref.result.now ≡ box_value c.in-Not.inner = cc in (
      pushed_asks among c.args.pending.now.items c.push.new.self.items _ c.in_ok-push-in-Not.ensures.items
          (not_asks among c.args.goal.e.now c.deref.result.now c.in-Not.inner inner c.in-Not.is is) all,
      pairs,
    )

pub returns-in_ok-push-in-All-clause-numbered : goal.returns-in_ok-push-in-All-clause-numbered
returns-in_ok-push-in-All-clause-numbered c =
    IfOk-weaker c.add_members.result _ _
    (λ done asked all. more_numbered _ c.args.self.now.operations.items c.push-in-All.new.self.items _
    c.in_ok-push-in-All.ensures.items tt all)
    c.add_members.ensures.asked

pub returns-in_ok-push-in-All-clause-asked : goal.returns-in_ok-push-in-All-clause-asked
returns-in_ok-push-in-All-clause-asked c =
    IfOk-weaker c.add_members.result _ _
    (λ done asked among is all pairs. (
      asked among
          (all_asks among c.args.goal.e.now c.in-All.members c.deref-in-All.result.now c.in-All.is
          c.deref-in-All.ensures.value is) all,
      pairs,
    ))
    c.add_members.ensures.asked

pub returns-in_ok-push-in-Any-clause-numbered : goal.returns-in_ok-push-in-Any-clause-numbered
returns-in_ok-push-in-Any-clause-numbered c =
    IfOk-weaker c.add_members-in-Any.result _ _
    (λ done asked all. more_numbered _ c.args.self.now.operations.items c.push-in-Any.new.self.items _
    c.in_ok-push-in-Any.ensures.items tt all)
    c.add_members-in-Any.ensures.asked

pub returns-in_ok-push-in-Any-clause-asked : goal.returns-in_ok-push-in-Any-clause-asked
returns-in_ok-push-in-Any-clause-asked c =
    IfOk-weaker c.add_members-in-Any.result _ _
    (λ done asked among is all pairs. (
      asked among
          (any_asks among c.args.goal.e.now c.in-Any.members c.deref-in-Any.result.now c.in-Any.is
          c.deref-in-Any.ensures.value is) all,
      pairs,
    ))
    c.add_members-in-Any.ensures.asked

pub returns-in_ok-push-in-Value-clause-numbered : goal.returns-in_ok-push-in-Value-clause-numbered
returns-in_ok-push-in-Value-clause-numbered c = λ all.
    pair_numbered _ _ c.args.self.now.operations.items c.push-in-Value.new.self.items _
    c.in_ok-push-in-Value.ensures.items c.in_ok-number-in-Value.ensures.kept c.in_ok-number-in-Value.ensures.number all

pub returns-in_ok-push-in-Value-clause-asked : goal.returns-in_ok-push-in-Value-clause-asked
returns-in_ok-push-in-Value-clause-asked c = λ among is all pairs.
    let asked = value_asks c.args.goal.e.now c.in-Value.c c.in-Value.is in
    (all, c.in_ok-number-in-Value.ensures.among among (is _ asked) pairs)

pub returns-in_ok-push-in-True-clause-numbered : goal.returns-in_ok-push-in-True-clause-numbered
returns-in_ok-push-in-True-clause-numbered c = λ all.
    more_numbered _ c.args.self.now.operations.items c.push-in-True.new.self.items _ c.in_ok-push-in-True.ensures.items
    tt all

pub returns-in_ok-push-in-False-clause-numbered : goal.returns-in_ok-push-in-False-clause-numbered
returns-in_ok-push-in-False-clause-numbered c = λ all.
    more_numbered _ c.args.self.now.operations.items c.push-in-False.new.self.items _
    c.in_ok-push-in-False.ensures.items tt all
