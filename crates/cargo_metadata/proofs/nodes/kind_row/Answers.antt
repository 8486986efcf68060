use Rattle.std.proofs.Common.{Option, ap}
use Rattle.std.specs.Option.{is_some}
use Rattle.std.proofs.lemmas.Result.{err_from_is_err_and}
use Rattle.serde_json.specs.View.{view}
use Rattle.cargo_metadata.specs.declared.nodes.Kind.{Kind}
use Rattle.cargo_metadata.proofs.Elements.{wrong_first, wrong_second}
use Rattle.cargo_metadata.proofs.nodes.kind_row.Goals as goal

pub returns-in_err-kind : goal.returns-in_err-kind
returns-in_err-kind c =
    let p = err_from_is_err_and c.from_residual.result c.from_residual.ensures.1 in
    let wrong = c.in_err-kind.ensures in
    rw (p.1, p.2) (wrong_first _ _ _ (view c.args.value.now) c.in_err-kind.field-0.0 wrong.0 wrong.1)

pub returns-in_err-condition : goal.returns-in_err-condition
returns-in_err-condition c =
    let p = err_from_is_err_and c.from_residual-in_err-condition.result c.from_residual-in_err-condition.ensures.1 in
    let wrong = c.in_err-condition.ensures in
    rw (p.1, p.2)
    (wrong_second _ _ _ _ (view c.args.value.now) c.in_err-condition.field-0.0
    (ap (λ (o : Option Kind). is_some o) c.in_ok-kind.ensures) wrong.0 wrong.1)
