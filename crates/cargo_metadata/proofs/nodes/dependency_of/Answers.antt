use Rattle.std.proofs.Common.{codes}
use Rattle.serde_json.specs.View.{view}
use Rattle.cargo_metadata.specs.Nodes.{IsKindRow}
use Rattle.cargo_metadata.proofs.Elements.{rows_none, rows_more, first_at, text_fits, list_fits, two_fit}
use Rattle.cargo_metadata.proofs.Elements.{wrong_first, wrong_second}
use Rattle.cargo_metadata.proofs.nodes.dependency_of.Goals as goal

pub kinds-init : goal.kinds-init
kinds-init c = rows_none IsKindRow c.new-kinds.result.items c.new-kinds.ensures.items

pub kinds-preserved : goal.kinds-preserved
kinds-preserved c =
    rows_more IsKindRow c.in-Ok-require_list.items.now c.kinds.i c.index-items-i.result c.kinds.kinds.items
    c.push.new.self.items c.in-Ok-kind_row.row c.kinds-test.true c.index-items-i.is c.in_default.ensures.items
    c.kinds.invariant c.in-Ok-kind_row.ensures

pub returns-in-Err : goal.returns-in-Err
returns-in-Err c =
    let wrong = c.in-Err.ensures in
    wrong_first _ _ _ (view c.args.value.now) c.in-Err.wrong wrong.0 wrong.1

pub returns-in-Err-require_list : goal.returns-in-Err-require_list
returns-in-Err-require_list c =
    let wrong = c.in-Err-require_list.ensures in
    wrong_second _ _ _ _ (view c.args.value.now) c.in-Err-require_list.wrong (text_fits (codes "pkg")
    (view c.args.value.now) _ c.in-Ok.ensures) wrong.0
    wrong.1

pub returns-in-Err-kind_row : goal.returns-in-Err-kind_row
returns-in-Err-kind_row c =
    let d = view c.args.value.now in
    let items = c.in-Ok-require_list.items.now in (
      two_fit d _ _ (text_fits (codes "pkg") (view c.args.value.now) _ c.in-Ok.ensures) (list_fits
          (codes "dep_kinds") (view c.args.value.now) _ c.in-Ok-require_list.ensures),
      first_at IsKindRow _ _ d items c.kinds.i c.index-items-i.result c.kinds.kinds.items c.in-Ok-require_list.ensures
          c.kinds-test.true c.index-items-i.is c.kinds.invariant c.in-Err-kind_row.ensures,
    )
