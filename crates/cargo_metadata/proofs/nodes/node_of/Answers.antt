use Rattle.std.proofs.Common.{codes}
use Rattle.serde_json.specs.View.{view}
use Rattle.cargo_metadata.specs.Nodes.{IsDependency}
use Rattle.cargo_metadata.proofs.Elements.{rows_none, rows_more, first_at, text_fits, list_fits, two_fit}
use Rattle.cargo_metadata.proofs.Elements.{wrong_first, wrong_second}
use Rattle.cargo_metadata.proofs.nodes.node_of.Goals as goal

pub dependencies-init : goal.dependencies-init
dependencies-init c = rows_none IsDependency c.new-dependencies.result.items c.new-dependencies.ensures.items

pub dependencies-preserved : goal.dependencies-preserved
dependencies-preserved c =
    rows_more IsDependency c.in-Ok-require_list.items.now c.dependencies.i c.index-items-i.result
    c.dependencies.dependencies.items c.push.new.self.items c.in-Ok-dependency_of.dependency c.dependencies-test.true
    c.index-items-i.is c.in_default.ensures.items c.dependencies.invariant c.in-Ok-dependency_of.ensures

pub returns-in-Err : goal.returns-in-Err
returns-in-Err c =
    let wrong = c.in-Err.ensures in
    wrong_first _ _ _ (view c.args.value.now) c.in-Err.wrong wrong.0 wrong.1

pub returns-in-Err-require_list : goal.returns-in-Err-require_list
returns-in-Err-require_list c =
    let wrong = c.in-Err-require_list.ensures in
    wrong_second _ _ _ _ (view c.args.value.now) c.in-Err-require_list.wrong (text_fits (codes "id")
    (view c.args.value.now) _ c.in-Ok.ensures) wrong.0
    wrong.1

pub returns-in-Err-dependency_of : goal.returns-in-Err-dependency_of
returns-in-Err-dependency_of c =
    let d = view c.args.value.now in
    let items = c.in-Ok-require_list.items.now in (
      two_fit d _ _ (text_fits (codes "id") (view c.args.value.now) _ c.in-Ok.ensures) (list_fits (codes "deps")
          (view c.args.value.now) _ c.in-Ok-require_list.ensures),
      first_at IsDependency _ _ d items c.dependencies.i c.index-items-i.result c.dependencies.dependencies.items
          c.in-Ok-require_list.ensures c.dependencies-test.true c.index-items-i.is c.dependencies.invariant
          c.in-Err-dependency_of.ensures,
    )
