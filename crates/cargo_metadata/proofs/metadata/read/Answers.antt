use Rattle.std.proofs.Common.{refl}
use Rattle.std.proofs.lemmas.Result.{err_from_is_err_and}
use Rattle.serde_json.specs.View.{view}
use Rattle.cargo_metadata.proofs.Refused.{in_version, in_packages, in_members, in_resolve}
use Rattle.cargo_metadata.proofs.metadata.read.Goals as goal

pub returns-in-Err : goal.returns-in-Err
returns-in-Err c =
    let wrong = c.in-Err.ensures in
    in_version (view c.args.document.now) _ wrong.0 wrong.1

pub returns-in_err-packages : goal.returns-in_err-packages
returns-in_err-packages c =
    let p = err_from_is_err_and c.from_residual.result c.from_residual.ensures.1 in
    let fault = c.in_err-packages.ensures in
    rw (p.1, p.2)
    (in_packages (view c.args.document.now) c.in_err-packages.field-0.0 c.in_default.ensures fault.0 fault.1)

pub returns-in_err-members : goal.returns-in_err-members
returns-in_err-members c =
    let p = err_from_is_err_and c.from_residual-in_err-members.result c.from_residual-in_err-members.ensures.1 in
    let fault = c.in_err-members.ensures in
    rw (p.1, p.2)
    (in_members (view c.args.document.now) c.in_err-members.field-0.0 c.in_default.ensures fault.0
    c.in_ok-packages.packages.items c.in_ok-packages.ensures fault.1)

pub returns-in-Err-resolve_at : goal.returns-in-Err-resolve_at
returns-in-Err-resolve_at c =
    let wrong = c.in-Err-resolve_at.ensures in
    in_resolve (view c.args.document.now) _ c.in_default.ensures wrong.0 c.in_ok-packages.packages.items
    c.in_ok-packages.ensures c.in_ok-members.members.items c.in_ok-members.ensures wrong.1

pub returns : goal.returns
returns c =
    in_resolve (view c.args.document.now) _ c.in_default.ensures
    (view c.in-Ok.resolve.now, c.in-Ok.ensures, c.in-Err-nodes_at.ensures) c.in_ok-packages.packages.items
    c.in_ok-packages.ensures c.in_ok-members.members.items c.in_ok-members.ensures refl
