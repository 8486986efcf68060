use Rattle.std.proofs.Common.{◌∙◌}
use Rattle.manifest_lints.specs.Samples.{holds_beside}
use Rattle.manifest_lints.proofs.Samples.{no_member}
use Rattle.manifest_lints.proofs.sample_sets.OverSamplesFold.no_members.Goals as goal

pub returns : goal.returns
returns c = λ l below.
    c.everywhere.ensures l below ∙ no_member c.args.neutral (holds_beside c.args.self.now.other l)
