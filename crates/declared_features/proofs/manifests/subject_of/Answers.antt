use Rattle.std.proofs.Common.{ap, codes, Option}
use Rattle.std.specs.Option.{is_some}
use Rattle.cargo_metadata.specs.declared.nodes.Kind.{Kind}
use Rattle.std.proofs.lemmas.Result.{err_from_is_err_and}
use Rattle.serde_json.specs.View.{view}
use Rattle.cargo_metadata.proofs.Elements.{text_fits, wrong_first, wrong_second, wrong_third}
use Rattle.declared_features.proofs.manifests.subject_of.Goals as goal

pub returns-in_err-name-clause-fault : goal.returns-in_err-name-clause-fault
returns-in_err-name-clause-fault c =
    let p = err_from_is_err_and c.from_residual.result c.from_residual.ensures.1 in
    let wrong = c.in_err-name.ensures in
    rw (p.1, p.2) (wrong_first _ _ _ (view c.args.value.now) c.in_err-name.field-0.0 wrong.0 wrong.1)

pub returns-in_err-kind-clause-fault : goal.returns-in_err-kind-clause-fault
returns-in_err-kind-clause-fault c =
    let p = err_from_is_err_and c.from_residual-in_err-kind.result c.from_residual-in_err-kind.ensures.1 in
    let wrong = c.in_err-kind.ensures in
    rw (p.1, p.2)
    (wrong_second _ _ _ _ (view c.args.value.now) c.in_err-kind.field-0.0 (text_fits (codes "name")
    (view c.args.value.now) _ c.in_ok-name.ensures) wrong.0
    wrong.1)

pub returns-in_err-condition-clause-fault : goal.returns-in_err-condition-clause-fault
returns-in_err-condition-clause-fault c =
    let p = err_from_is_err_and c.from_residual-in_err-condition.result c.from_residual-in_err-condition.ensures.1 in
    let wrong = c.in_err-condition.ensures in
    rw (p.1, p.2)
    (wrong_third _ _ _ _ _ (view c.args.value.now) c.in_err-condition.field-0.0 (text_fits (codes "name")
    (view c.args.value.now) _ c.in_ok-name.ensures)
    (ap (λ (o : Option Kind). is_some o) c.in_ok-kind.ensures) wrong.0 wrong.1)
