use Rattle.cargo_metadata.specs.Indexes.{index_at}
use Rattle.cargo_metadata.specs.declared.packages.Package.{Package}
use Rattle.declared_features.proofs.Positions.{index_copied, index_whole}
use Rattle.declared_features.proofs.declaring.indexes_of_ids.Goals as goal

pub packages-init : goal.packages-init
packages-init c = c.new-ids.ensures

pub packages-preserved : goal.packages-preserved
packages-preserved c =
    index_copied (λ (p : Package). p.id.now) c.args.packages.now c.packages.i _ (index_at c.packages.ids)
    (index_at c.add.new.self) c.packages-test.true c.in_ok-add.ensures.added c.packages.invariant

pub returns : goal.returns
returns c =
    index_whole (λ (p : Package). p.id.now) c.args.packages.now c.packages.i (index_at c.packages.ids)
    c.packages-test.false c.packages.invariant
