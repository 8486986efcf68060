use Rattle.std.proofs.lemmas.Result.{IfOk-weaker}
use Rattle.cargo_platform.specs.Trees.{condition_of}
use Rattle.partial_facts.specs.Partly.{names_of}
use Rattle.known_targets.specs.Sets.{is_member}
use Rattle.known_targets.specs.Table.{target_name, target_facts}
use Rattle.known_targets.proofs.Taken.{holds_certainly}
use Rattle.known_targets.proofs.matching_targets.certainly_matching.Goals as goal

pub returns-clause-sound : goal.returns-clause-sound
returns-clause-sound c =
    IfOk-weaker c.taken_at.result _ _
    (λ set h k s below is same.
    holds_certainly (target_name k) (target_facts k) (names_of c.args.open_keys.now) s same
    (condition_of c.args.platform.now) (is_member set k) (h k below) is) c.taken_at.ensures
