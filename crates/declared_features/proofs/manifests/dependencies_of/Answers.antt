use Rattle.cargo_metadata.proofs.Elements.{rows_none, rows_more}
use Rattle.declared_features.specs.Documents.{IsDeclared}
use Rattle.std.proofs.Common.{◌≡◌, sym, ◌∙◌, codes}
use Rattle.serde_json.specs.View.{view}
use Rattle.cargo_metadata.proofs.Elements.{first_at, wrong_first}
use Rattle.declared_features.proofs.manifests.dependencies_of.Goals as goal

pub dependencies-init : goal.dependencies-init
dependencies-init c = rows_none IsDeclared c.new-dependencies.result.items c.new-dependencies.ensures.items

pub dependencies-preserved : goal.dependencies-preserved
dependencies-preserved c =
    rows_more IsDeclared c.in-Ok.items.now c.dependencies.i c.index-items-i.result c.dependencies.dependencies.items
    c.push.new.self.items
    c.in-Ok-declared_of.declared c.dependencies-test.true c.index-items-i.is c.in_default.ensures.items
    c.dependencies.invariant c.in-Ok-declared_of.ensures

pub returns-in-Err : goal.returns-in-Err
returns-in-Err c =
    let d = view c.args.value.now in
    let wrong = c.in-Err.ensures in (
      wrong_first _ _ _ d c.in-Err.wrong wrong.0 wrong.1,
      λ e. absurd (let other : codes "dependencies" ≡ codes "features" = sym wrong.1.0 ∙ e in cc),
    )

pub returns-in-Err-declared_of : goal.returns-in-Err-declared_of
returns-in-Err-declared_of c =
    first_at IsDeclared _ _ (view c.args.value.now) c.in-Ok.items.now c.dependencies.i c.index-items-i.result
    c.dependencies.dependencies.items c.in-Ok.ensures c.dependencies-test.true c.index-items-i.is
    c.dependencies.invariant c.in-Err-declared_of.ensures
