use Rattle.std.proofs.lemmas.Result.{err_from_is_err_and}
use Rattle.manifests.proofs.Chosen.{none_added, one_key, first_error}
use Rattle.manifests.proofs.selection.add_keys.Goals as goal

pub keys-init : goal.keys-init
keys-init c = none_added _ _

pub keys-preserved : goal.keys-preserved
keys-preserved c =
    one_key _ c.args.keys.now c.keys.key-index c.key-item.result _ _ _ c.keys-test.true c.key-item.is
    c.keys.invariant c.in_ok-add_rows.ensures.rows

pub returns-in_err-add_rows-clause-error : goal.returns-in_err-add_rows-clause-error
returns-in_err-add_rows-clause-error c =
    let p = err_from_is_err_and c.from_residual.result c.from_residual.ensures.1 in
    rw (p.1, p.2)
    (first_error _ c.args.keys.now c.keys.key-index c.key-item.result c.keys.invariant.added _ c.keys-test.true
    c.key-item.is c.keys.invariant.such c.in_err-add_rows.ensures.error)
