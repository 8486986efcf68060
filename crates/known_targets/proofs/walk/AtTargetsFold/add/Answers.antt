use Rattle.std.proofs.Common.{◌∙◌, ℕ, Bool, Option, true, false}
use Rattle.cargo_platform.specs.Facts.{Pair}
use Rattle.partial_facts.specs.Partly.{names_of}
use Rattle.known_targets.specs.Rows.{keys_of}
use Rattle.known_targets.specs.Groups.{told_in, both}
use Rattle.known_targets.proofs.Steps.{one_more}
use Rattle.known_targets.proofs.walk.AtTargetsFold.add.Goals as goal

pub returns : goal.returns
returns c = λ es e so_far made.
    let n = c.args.neutral in
    let told : ℕ → Pair → Option Bool =
    λ k. told_in k (keys_of c.args.self.now.keys.now) (names_of c.args.self.now.open.now.names.now) in
    record {
      certain = λ k below. c.joined.ensures k below
          ∙ (λ i. both n (so_far.certain k below i) (made.certain k below i)) ∙ one_more n false (told k) es e;
      possible = λ k below. c.joined-2.ensures k below
          ∙ (λ i. both n (so_far.possible k below i) (made.possible k below i)) ∙ one_more n true (told k) es e;
    }
