use Rattle.std.proofs.Common.{◌≡◌, ◌∙◌, refl, sym, ap, ◌&&◌, not, map, box_value, arith}
use Rattle.std.proofs.lemmas.Result.{IfOk-weaker}
use Rattle.cargo_platform.specs.Trees.{tree_of}
use Rattle.exact_answers.specs.Inside.Making.{says, group_wanted}
use Rattle.exact_answers.proofs.Tables.{none-made, made-twice}
use Rattle.exact_answers.proofs.Members.{of_not, of_all, of_any, of_value, of_true, of_false}
use Rattle.exact_answers.proofs.Steps.{and-step, or-step, literal-step, each_on, some_on, each_end, some_end}
use Rattle.exact_answers.proofs.Steps.{none_yet}
use Rattle.exact_answers.proofs.goal_diagrams.building.+build.Goals as goal

-- ---- an expression

pub build-returns-in-Not-clause-means : goal.build-returns-in-Not-clause-means
build-returns-in-Not-clause-means g t c =
    IfOk-weaker c.build.result _ _
    (λ place is s told.
    let inner : c.deref.result.now ≡ box_value c.in-Not.inner = cc in
    is s told
    ∙ ap (λ b. says s c.args.query.now.pairs.now c.args.table.now c.args.among && b)
    (of_not s c.args.goal.wanted c.args.goal.e.now c.deref.result.now c.in-Not.inner inner c.in-Not.is))
    c.build.ensures.means

pub build-returns-in-All-clause-means : goal.build-returns-in-All-clause-means
build-returns-in-All-clause-means g t c =
    IfOk-weaker c.build_group.result _ _
    (λ place is s told.
    is s told
    ∙ ap (λ b. says s c.args.query.now.pairs.now c.args.table.now c.args.among && b)
    (of_all s c.args.goal.wanted c.args.goal.e.now c.in-All.members c.deref-in-All.result.now c.in-All.is
    c.deref-in-All.ensures.value))
    c.build_group.ensures.means

pub build-returns-in-Any-clause-means : goal.build-returns-in-Any-clause-means
build-returns-in-Any-clause-means g t c =
    IfOk-weaker c.build_group-in-Any.result _ _
    (λ place is s told.
    is s told
    ∙ ap (λ b. says s c.args.query.now.pairs.now c.args.table.now c.args.among && b)
    (of_any s c.args.goal.wanted c.args.goal.e.now c.in-Any.members c.deref-in-Any.result.now c.in-Any.is
    c.deref-in-Any.ensures.value))
    c.build_group-in-Any.ensures.means

pub build-returns-in-Value-clause-means : goal.build-returns-in-Value-clause-means
build-returns-in-Value-clause-means g t c =
    IfOk-weaker c.join_value.result _ _
    (λ place is s told.
    is s told
    ∙ ap (λ b. says s c.args.query.now.pairs.now c.args.table.now c.args.among && b)
    (of_value s c.args.goal.wanted c.args.goal.e.now c.in-Value.c c.in-Value.is))
    c.join_value.ensures.means

pub build-returns-in-True-clause-means : goal.build-returns-in-True-clause-means
build-returns-in-True-clause-means g t c =
    IfOk-weaker c.join.result _ _
    (λ place is s told.
    literal-step s c.args.query.now.pairs.now c.args.table.now c.join.new.self c.args.among c.literal.result place
    c.args.goal.wanted c.literal.ensures is
    ∙ ap (λ b. says s c.args.query.now.pairs.now c.args.table.now c.args.among && b)
    (of_true s c.args.goal.wanted c.args.goal.e.now c.in-True.is))
    c.join.ensures.means

pub build-returns-in-False-clause-means : goal.build-returns-in-False-clause-means
build-returns-in-False-clause-means g t c =
    IfOk-weaker c.join-in-False.result _ _
    (λ place is s told.
    literal-step s c.args.query.now.pairs.now c.args.table.now c.join-in-False.new.self c.args.among
    c.literal-in-False.result place (not c.args.goal.wanted) c.literal-in-False.ensures is
    ∙ ap (λ b. says s c.args.query.now.pairs.now c.args.table.now c.args.among && b)
    (of_false s c.args.goal.wanted c.args.goal.e.now c.in-False.is))
    c.join-in-False.ensures.means

-- ---- a group

pub build_group-returns-then-group-clause-means : goal.build_group-returns-then-group-clause-means
build_group-returns-then-group-clause-means g t c =
    IfOk-weaker c.build_each.result _ _
    (λ place is s told.
    is s told
    ∙ ap (λ b. says s c.args.query.now.pairs.now c.args.table.now c.args.among
    && group_wanted b c.args.group.wanted s (map tree_of c.args.group.members.now)) (sym c.if-group.true))
    c.build_each.ensures.means

pub build_group-returns-in_ok-place-clause-made : goal.build_group-returns-in_ok-place-clause-made
build_group-returns-in_ok-place-clause-made g t c =
    IfOk-weaker c.join.result _ _
    (λ both made. made-twice c.args.table.now c.build_some.new.table c.join.new.self c.in_ok-place.place both
    c.in_ok-place.ensures.made made)
    c.join.ensures.made

pub build_group-returns-in_ok-place-clause-means : goal.build_group-returns-in_ok-place-clause-means
build_group-returns-in_ok-place-clause-means g t c =
    IfOk-weaker c.join.result _ _
    (λ both is s told.
    and-step s c.args.query.now.pairs.now c.args.table.now c.build_some.new.table c.join.new.self c.args.among
    c.in_ok-place.place both _ c.requires.among c.in_ok-place.ensures.made (c.in_ok-place.ensures.means s told) is
    ∙ ap (λ b. says s c.args.query.now.pairs.now c.args.table.now c.args.among
    && group_wanted b c.args.group.wanted s (map tree_of c.args.group.members.now)) (sym c.if-group.false))
    c.join.ensures.means

-- ---- each member

pub build_each-members-init : goal.build_each-members-init
build_each-members-init g t c =
    record {
      made = none-made c.args.table.now c.args.among c.requires.table c.requires.among;
      means = λ s told. refl;
    }

pub build_each-members-preserved : goal.build_each-members-preserved
build_each-members-preserved g t c =
    record {
      made = made-twice c.args.table.now c.members.table c.build.new.table c.members.place c.in_ok-next.next
          c.members.invariant.made c.in_ok-next.ensures.made;
      means = λ s told.
          each_on s c.args.group.wanted c.members.left.now c.in-Some.others.now c.in-Some.e.now _ _ _
          c.in-Some.ensures.cases.0 (c.members.invariant.means s told) (c.in_ok-next.ensures.means s told);
    }

pub build_each-returns-clause-means : goal.build_each-returns-clause-means
build_each-returns-clause-means g t c = λ s told.
    each_end s c.args.group.wanted c.members.left.now _ _ c.in_default.ensures.cases (c.members.invariant.means s told)

-- ---- some member

pub build_some-members-init : goal.build_some-members-init
build_some-members-init g t c =
    record {
      made = none-made c.args.table.now 0 c.requires (omega arith);
      means = λ s told. none_yet s c.args.query.now.pairs.now c.args.table.now _;
    }

pub build_some-members-preserved : goal.build_some-members-preserved
build_some-members-preserved g t c =
    let first = c.members.table in
    let second = c.build.new.table in
    let third = c.join.new.self in
    record {
      made = made-twice c.args.table.now second third c.in_ok-next.next c.in_ok-both.both
          (made-twice c.args.table.now first second c.members.place c.in_ok-next.next c.members.invariant.made
          c.in_ok-next.ensures.made)
          c.in_ok-both.ensures.made;
      means = λ s told.
          some_on s c.args.group.wanted c.members.left.now c.in-Some.others.now c.in-Some.e.now _ _ _
          c.in-Some.ensures.cases.0 (c.members.invariant.means s told)
          (or-step s c.args.query.now.pairs.now first second third c.members.place c.in_ok-next.next
          c.in_ok-both.both _ c.members.invariant.made.inside c.in_ok-next.ensures.made
          (c.in_ok-next.ensures.means s told) c.in_ok-both.ensures.means);
    }

pub build_some-returns-clause-means : goal.build_some-returns-clause-means
build_some-returns-clause-means g t c = λ s told.
    some_end s c.args.group.wanted c.members.left.now _ _ c.in_default.ensures.cases (c.members.invariant.means s told)
