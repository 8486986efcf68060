use Rattle.cargo_metadata.proofs.Elements.{rows_none, rows_more}
use Rattle.declared_features.specs.Documents.{IsManifest}
use Rattle.serde_json.specs.View.{view}
use Rattle.cargo_metadata.proofs.Elements.{first_at, wrong_first}
use Rattle.declared_features.proofs.manifests.read_manifests.Goals as goal

pub packages-init : goal.packages-init
packages-init c = rows_none IsManifest c.new-manifests.result.items c.new-manifests.ensures.items

pub packages-preserved : goal.packages-preserved
packages-preserved c =
    rows_more IsManifest c.in-Ok.items.now c.packages.i c.index-items-i.result c.packages.manifests.items
    c.push.new.self.items
    c.in-Ok-manifest_of.manifest c.packages-test.true c.index-items-i.is c.in_default.ensures.items
    c.packages.invariant c.in-Ok-manifest_of.ensures

pub returns-in-Err : goal.returns-in-Err
returns-in-Err c =
    let wrong = c.in-Err.ensures in
    wrong_first _ _ _ (view c.args.document.now) c.in-Err.wrong wrong.0 wrong.1

pub returns-in-Err-manifest_of : goal.returns-in-Err-manifest_of
returns-in-Err-manifest_of c =
    first_at IsManifest _ _ (view c.args.document.now) c.in-Ok.items.now c.packages.i c.index-items-i.result
    c.packages.manifests.items c.in-Ok.ensures c.packages-test.true c.index-items-i.is c.packages.invariant
    c.in-Err-manifest_of.ensures
