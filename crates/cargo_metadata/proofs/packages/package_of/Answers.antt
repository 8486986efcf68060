use Rattle.std.proofs.Common.{codes}
use Rattle.std.proofs.lemmas.Result.{err_from_is_err_and}
use Rattle.serde_json.specs.View.{view}
use Rattle.cargo_metadata.proofs.Elements.{text_fits, wrong_first, wrong_second, wrong_third}
use Rattle.cargo_metadata.proofs.packages.package_of.Goals as goal

pub returns-in_err-id : goal.returns-in_err-id
returns-in_err-id c =
    let p = err_from_is_err_and c.from_residual.result c.from_residual.ensures.1 in
    let wrong = c.in_err-id.ensures in
    rw (p.1, p.2) (wrong_first _ _ _ (view c.args.value.now) c.in_err-id.field-0.0 wrong.0 wrong.1)

pub returns-in_err-name : goal.returns-in_err-name
returns-in_err-name c =
    let p = err_from_is_err_and c.from_residual-in_err-name.result c.from_residual-in_err-name.ensures.1 in
    let wrong = c.in_err-name.ensures in
    rw (p.1, p.2)
    (wrong_second _ _ _ _ (view c.args.value.now) c.in_err-name.field-0.0 (text_fits (codes "id")
    (view c.args.value.now) _ c.in_ok-id.ensures) wrong.0
    wrong.1)

pub returns-in_err-version : goal.returns-in_err-version
returns-in_err-version c =
    let p = err_from_is_err_and c.from_residual-in_err-version.result c.from_residual-in_err-version.ensures.1 in
    let wrong = c.in_err-version.ensures in
    rw (p.1, p.2)
    (wrong_third _ _ _ _ _ (view c.args.value.now) c.in_err-version.field-0.0 (text_fits (codes "id")
    (view c.args.value.now) _ c.in_ok-id.ensures)
    (text_fits (codes "name") (view c.args.value.now) _ c.in_ok-name.ensures) wrong.0 wrong.1)
