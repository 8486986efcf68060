use Rattle.std.proofs.Common.{◌≡◌, ◌∙◌, sym, ap, subst, drop, ◌+◌, ◌∷◌}
use Rattle.std.proofs.lemmas.List.Elements.{All-get_or}
use Rattle.std.proofs.lemmas.List.{drop_more}
use Rattle.exact_answers.specs.Inside.Ahead.{HasNumber, table_pairs, done, worked_out}
use Rattle.exact_answers.proofs.outlook.work_out_all.Goals as goal

pub loop-operation-preserved : goal.loop-operation-preserved
loop-operation-preserved c = λ s i low fit.
    let so_far = c.loop-operation.invariant s i low fit in
    let os = c.args.operations.now in
    let at = c.loop-operation.operation-index in
    let o = c.operation-item.result in
    let more : drop at os ≡ o ∷ drop (at + 1) os =
    drop_more os at o c.loop-operation-test.true ∙ ap (λ x. x ∷ drop (at + 1) os) (sym c.operation-item.is) in (
      done s o so_far.0,
      c.in_ok-work_out.ensures s i so_far.0 low fit so_far.1,
      sym (ap (λ os. worked_out s os so_far.0) more) ∙ so_far.2,
    )

pub work_out-requires : goal.work_out-requires
work_out-requires c =
    let P = HasNumber (table_pairs c.args.table.now) in
    subst P (sym c.operation-item.is)
    (All-get_or P c.args.operations.now c.loop-operation.operation-index c.operation-item.result
    c.loop-operation-test.true c.requires)
