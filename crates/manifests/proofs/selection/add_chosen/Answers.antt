use Rattle.manifests.proofs.Chosen.{one_chosen}
use Rattle.manifests.proofs.selection.add_chosen.Goals as goal

pub dependencies-preserved : goal.dependencies-preserved
dependencies-preserved c =
    one_chosen _ _ c.args.dependencies.now c.dependencies.dependency-index _ c.in_ok-decision.decision _ _ _
    c.dependencies-test.true c.dependencies.invariant c.in_ok-decision.ensures c.in_ok-push.ensures.items
