use Rattle.std.proofs.lemmas.List.{get_or_default}
use Rattle.package_graphs.specs.Paths.{starts}
use Rattle.package_graphs.proofs.Distances.{path_more}
use Rattle.package_graphs.proofs.paths.Search.end_of.Goals as goal

pub steps-init : goal.steps-init
steps-init c = starts c.in_ok-place.place c.in_ok-place.ensures.1

pub steps-preserved : goal.steps-preserved
steps-preserved c =
    path_more c.args.self.now c.args.steps.now c.steps.step-index _ c.steps.place c.in_ok-place-2.place
    c.steps-test.true
    (get_or_default c.args.steps.now c.steps.step-index _ _ c.steps-test.true) c.steps.invariant c.in_ok-place-2.ensures
