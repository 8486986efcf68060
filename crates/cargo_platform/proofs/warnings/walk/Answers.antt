use Rattle.std.proofs.Common.{arith, rules, ◌≡◌, ◌∙◌, ap, sym, ◌==◌, true, false, ◌++◌, ◌∷◌, [], length, append_assoc}
use Rattle.std.proofs.Common.{flat_map, reverse}
use Rattle.std.proofs.lemmas.List.{length-append}
use Rattle.cargo_platform.specs.ExpressionSizes.{node_counts}
use Rattle.cargo_platform.specs.Trees.{value_of, tree_of}
use Rattle.cargo_platform.specs.Errors.{texts}
use Rattle.cargo_platform.specs.Warnings.{values, IsLonger}
use Rattle.cargo_platform.proofs.Printing.{others_smaller}
use Rattle.cargo_platform.proofs.TreeViews.{tree_of-Value}
use Rattle.cargo_platform.proofs.WarningWalks.{is_opened, values_of, first_values, nodes_kept}
use Rattle.cargo_platform.proofs.WarningWalks.{opened_last, opened_first, opened_within, nodes_of_first, warned_on}
use Rattle.cargo_platform.proofs.WarningWalks.{at_most_one, one_if_any}
use Rattle.cargo_platform.proofs.warnings.walk.Goals as goal

pub returns-in_err-check-in-Value-clause-err : goal.returns-in_err-check-in-Value-clause-err
returns-in_err-check-in-Value-clause-err g c =
    let longer : IsLonger (texts c.check.new.warnings) (texts c.args.warnings.now) = (
      flat_map (g.L.Lint.warning c.args.lint.now) c.members.invariant.0,
      c.in_err-check-in-Value.ensures.err ∙ c.members.invariant.1,
    ) in
    search rules

pub returns-in_err-push-clause-err : goal.returns-in_err-push-clause-err
returns-in_err-push-clause-err g c =
    let longer : IsLonger (texts c.members.warnings) (texts c.args.warnings.now) = (
      flat_map (g.L.Lint.warning c.args.lint.now) c.members.invariant.0,
      c.members.invariant.1,
    ) in
    search rules

pub members-smaller-in-Value : goal.members-smaller-in-Value
members-smaller-in-Value g c =
    omega (
      arith,
      others_smaller c.members.members.now c.in-Some.others.now c.in-Some.first.now
          c.in-Some.ensures.cases.0,
    )

pub members-smaller-in-True : goal.members-smaller-in-True
members-smaller-in-True g c =
    omega (
      arith,
      others_smaller c.members.members.now c.in-Some.others.now c.in-Some.first.now
          c.in-Some.ensures.cases.0,
    )

pub members-smaller-in-True-2 : goal.members-smaller-in-True-2
members-smaller-in-True-2 g c =
    omega (
      arith,
      others_smaller c.members.members.now c.in-Some.others.now c.in-Some.first.now
          c.in-Some.ensures.cases.0,
    )

pub members-preserved-in-Value : goal.members-preserved-in-Value
members-preserved-in-Value g c =
    let over = c.members.invariant.0 in
    let f = g.L.Lint.warning c.args.lint.now in
    let v = value_of c.in-Value.c in
    let rest = values_of c.members.around.now
    ++ flat_map (λ es. values_of es.now) (reverse c.members.outer.items) in
    let first = first_values c.members.members.now c.in-Some.others.now c.in-Some.first.now (v ∷ []) rest
    c.in-Some.ensures.cases.0 (ap (λ e. values (tree_of e)) c.in-Value.is ∙ ap values (tree_of-Value c.in-Value.c)) in (
      over ++ v ∷ [],
      warned_on f (texts c.args.warnings.now) (texts c.members.warnings) (texts c.check.new.warnings) over v
          c.members.invariant.1 c.in_ok-check-in-Value.ensures.ok,
      append_assoc over (v ∷ []) (values_of c.in-Some.others.now ++ rest)
          ∙ sym (ap (λ vs. over ++ vs) first)
          ∙ c.members.invariant.2,
    )

pub members-smaller : goal.members-smaller
members-smaller g c =
    let opens = is_opened c.in-Some.first.now c.in-Not.is in
    let first = nodes_of_first c.members.members.now c.in-Some.others.now c.in-Some.first.now
    c.in-Some.ensures.cases.0 in
    omega (arith, c.opened-group.ensures.size opens, first)

pub members-preserved : goal.members-preserved
members-preserved g c =
    let opens = is_opened c.in-Some.first.now c.in-Not.is in
    let none : (length c.in-Some.others.now == 0) ≡ true = search rules in (
      c.members.invariant.0,
      c.members.invariant.1,
      opened_last c.members.invariant.0 (values (tree_of c.args.e.now)) c.members.members.now c.in-Some.others.now
          c.opened-group.result.now c.in-Some.first.now c.in-Some.ensures.cases.0 (c.opened-group.ensures.values opens)
          (values_of c.members.around.now ++ flat_map (λ es. values_of es.now) (reverse c.members.outer.items)) none
          c.members.invariant.2,
    )

pub members-smaller-else-not-is_empty-3 : goal.members-smaller-else-not-is_empty-3
members-smaller-else-not-is_empty-3 g c =
    let opens = is_opened c.in-Some.first.now c.in-Not.is in
    let first = nodes_of_first c.members.members.now c.in-Some.others.now c.in-Some.first.now
    c.in-Some.ensures.cases.0 in
    omega (arith, c.opened-group.ensures.size opens, first, at_most_one c.in-Some.others.now)

pub members-preserved-else-not-is_empty-3 : goal.members-preserved-else-not-is_empty-3
members-preserved-else-not-is_empty-3 g c =
    let opens = is_opened c.in-Some.first.now c.in-Not.is in
    let none : (length c.members.around.now == 0) ≡ true = search rules in (
      c.members.invariant.0,
      c.members.invariant.1,
      opened_first c.members.invariant.0 (values (tree_of c.args.e.now)) c.members.members.now c.in-Some.others.now
          c.opened-group.result.now c.in-Some.first.now c.in-Some.ensures.cases.0
          (c.opened-group.ensures.values opens) c.members.around.now
          (flat_map (λ es. values_of es.now) (reverse c.members.outer.items)) none c.members.invariant.2,
    )

pub members-smaller-in_ok-push : goal.members-smaller-in_ok-push
members-smaller-in_ok-push g c =
    let opens = is_opened c.in-Some.first.now c.in-Not.is in
    let first = nodes_of_first c.members.members.now c.in-Some.others.now c.in-Some.first.now
    c.in-Some.ensures.cases.0 in
    let some : (length c.members.around.now == 0) ≡ false = search rules in
    let kept = nodes_kept (λ es. node_counts es.now) c.members.outer.items c.push.new.self.items c.members.around
    c.in_ok-push.ensures.items in
    omega (
      arith,
      c.opened-group.ensures.size opens,
      first,
      at_most_one c.in-Some.others.now,
      one_if_any c.members.around.now some,
      kept,
      ap length c.in_ok-push.ensures.items,
      length-append c.members.outer.items (c.members.around ∷ []),
    )

pub members-preserved-in_ok-push : goal.members-preserved-in_ok-push
members-preserved-in_ok-push g c =
    let opens = is_opened c.in-Some.first.now c.in-Not.is in (
      c.members.invariant.0,
      c.members.invariant.1,
      opened_within c.members.invariant.0 (values (tree_of c.args.e.now)) c.members.members.now c.in-Some.others.now
          c.opened-group.result.now c.in-Some.first.now c.in-Some.ensures.cases.0
          (c.opened-group.ensures.values opens) (λ es. values_of es.now)
          c.members.outer.items c.push.new.self.items c.members.around c.in_ok-push.ensures.items c.members.invariant.2,
    )
