use Rattle.std.proofs.Common.{◌∙◌, Bool}
use Rattle.cargo_platform.specs.Facts.{Pair}
use Rattle.known_targets.specs.Groups.{both}
use Rattle.manifest_lints.specs.Samples.{holds_beside}
use Rattle.manifest_lints.proofs.Samples.{one_more}
use Rattle.manifest_lints.proofs.sample_sets.OverSamplesFold.add.Goals as goal

pub returns : goal.returns
returns c = λ es e so_far made l below.
    let n = c.args.neutral in
    let h : Pair → Bool = holds_beside c.args.self.now.other l in
    c.joined.ensures l below ∙ (λ i. both n (so_far l below i) (made l below i)) ∙ one_more n h es e
