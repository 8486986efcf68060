use Rattle.std.proofs.Common.{refl}
use Rattle.serde_json.specs.View.{view}
use Rattle.cargo_metadata.specs.Packages.{IsPackage}
use Rattle.cargo_metadata.proofs.Elements.{rows_none, rows_more, first_at}
use Rattle.cargo_metadata.proofs.metadata.packages_at.Goals as goal

pub packages-init : goal.packages-init
packages-init c = rows_none IsPackage c.new-packages.result.items c.new-packages.ensures.items

pub packages-preserved : goal.packages-preserved
packages-preserved c =
    rows_more IsPackage c.in-Ok.items.now c.packages.i c.index-items-i.result c.packages.packages.items
    c.push.new.self.items
    c.in-Ok-package_of.unit c.packages-test.true c.index-items-i.is c.in_default.ensures.items
    c.packages.invariant c.in-Ok-package_of.ensures

pub returns-in-Err-package_of : goal.returns-in-Err-package_of
returns-in-Err-package_of c = (
  first_at IsPackage _ _ (view c.args.document.now) c.in-Ok.items.now c.packages.i c.index-items-i.result
      c.packages.packages.items c.in-Ok.ensures c.packages-test.true c.index-items-i.is c.packages.invariant
      c.in-Err-package_of.ensures,
  refl,
)
