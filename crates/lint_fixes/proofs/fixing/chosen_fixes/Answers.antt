use Rattle.std.proofs.Common.{◌≡◌, true, All, Contains, [], ◌∷◌, ◌++◌, append_assoc, arith, sym, ap, ◌∙◌, subst}
use Rattle.std.proofs.lemmas.List.Elements.{All-push}
use Rattle.std.specs.List.{list_all}
use Rattle.toml.specs.View.{table_view}
use Rattle.lint_fixes.proofs.GivenNames.{contains_middle}
use Rattle.lint_fixes.proofs.Replaced.{all_push}
use Rattle.lint_fixes.specs.Fixing.{finds_key}
use Rattle.lint_fixes.proofs.fixing.chosen_fixes.Goals as goal

pub loop-fix-init : goal.loop-fix-init
loop-fix-init c = (
  [],
  sym c.into_iter-fix-iterator.ensures.into_iter_gives.0,
  subst (λ xs. All (Contains c.args.fixes.items) xs) (sym c.new-chosen.ensures.items) (λ k d h. absurd (omega arith)),
  ap (list_all (finds_key (table_view c.args.manifest.now))) c.new-chosen.ensures.items,
)

pub loop-fix-preserved-in-Continue-branch-2 : goal.loop-fix-preserved-in-Continue-branch-2
loop-fix-preserved-in-Continue-branch-2 c =
    let (done, mine, among, found) = c.loop-fix.invariant in
    let fix = c.in-Some.fix in
    let left = c.next.new.self.rest.items in
    let all : c.args.fixes.items ≡ done ++ fix ∷ left = mine ∙ ap (λ xs. done ++ xs) c.in-Some.ensures.steps.0 in
    let is_among : Contains c.args.fixes.items fix = subst (λ xs. Contains xs fix) (sym all)
    (contains_middle done fix left) in (
      done ++ fix ∷ [],
      all ∙ sym (append_assoc done (fix ∷ []) left),
      subst (λ xs. All (Contains c.args.fixes.items) xs) (sym c.in_ok-push.ensures.items) (All-push
          (Contains c.args.fixes.items) c.loop-fix.chosen.items fix among is_among),
      subst (λ xs. list_all (finds_key (table_view c.args.manifest.now)) xs ≡ true) (sym c.in_ok-push.ensures.items)
          (all_push (finds_key (table_view c.args.manifest.now)) c.loop-fix.chosen.items fix found
          (c.in_ok-add.ensures c.if-branch.true)),
    )

pub loop-fix-preserved : goal.loop-fix-preserved
loop-fix-preserved c =
    let (done, mine, among, found) = c.loop-fix.invariant in
    let fix = c.in-Some.fix in (
      done ++ fix ∷ [],
      mine ∙ ap (λ xs. done ++ xs) c.in-Some.ensures.steps.0 ∙ sym (append_assoc done
          (fix ∷ []) c.next.new.self.rest.items),
      among,
      found,
    )

pub returns-clause-among : goal.returns-clause-among
returns-clause-among c = c.loop-fix.invariant.2

pub returns-clause-found : goal.returns-clause-found
returns-clause-found c = c.loop-fix.invariant.3
