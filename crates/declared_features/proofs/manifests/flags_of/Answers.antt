use Rattle.std.proofs.Common.{ap, Bool, Option}
use Rattle.std.specs.Option.{is_some}
use Rattle.std.proofs.lemmas.Result.{err_from_is_err_and}
use Rattle.serde_json.specs.View.{view}
use Rattle.cargo_metadata.proofs.Elements.{wrong_first, wrong_second}
use Rattle.declared_features.proofs.manifests.flags_of.Goals as goal

pub returns-in_err-is_optional-clause-fault : goal.returns-in_err-is_optional-clause-fault
returns-in_err-is_optional-clause-fault c =
    let p = err_from_is_err_and c.from_residual.result c.from_residual.ensures.1 in
    let wrong = c.in_err-is_optional.ensures in
    rw (p.1, p.2) (wrong_first _ _ _ (view c.args.value.now) c.in_err-is_optional.field-0.0 wrong.0 wrong.1)

pub returns-in_err-uses_default-clause-fault : goal.returns-in_err-uses_default-clause-fault
returns-in_err-uses_default-clause-fault c =
    let p =
    err_from_is_err_and c.from_residual-in_err-uses_default.result c.from_residual-in_err-uses_default.ensures.1 in
    let wrong = c.in_err-uses_default.ensures in
    rw (p.1, p.2)
    (wrong_second _ _ _ _ (view c.args.value.now) c.in_err-uses_default.field-0.0
    (ap (λ (o : Option Bool). is_some o) c.in_ok-is_optional.ensures) wrong.0 wrong.1)
