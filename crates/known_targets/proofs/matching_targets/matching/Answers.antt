use Rattle.std.proofs.lemmas.Result.{IfOk-weaker}
use Rattle.std.proofs.Common.{◌∙◌, sym}
use Rattle.cargo_platform.specs.Trees.{condition_of}
use Rattle.known_targets.specs.Table.{target_name, target_facts}
use Rattle.known_targets.proofs.Taken.{closed}
use Rattle.known_targets.proofs.matching_targets.matching.Goals as goal

pub returns : goal.returns
returns c =
    IfOk-weaker c.taken_at.result _ _
    (λ set h k below.
    let both = closed (target_name k) (target_facts k) (condition_of c.args.platform.now) in
    (λ is. both.0 (sym (h k below) ∙ is), λ holds. h k below ∙ both.1 holds)) c.taken_at.ensures
