use Rattle.cargo_platform.specs.Trees.{condition_of}
use Rattle.partial_facts.specs.Partly.{names_of}
use Rattle.manifest_lints.specs.AtTargets.{IsNeverAt}
use Rattle.manifest_lints.proofs.AtTargets.{Settles}
use Rattle.manifest_lints.proofs.at_targets.is_never_on.Given as goal

abbrev pub invariant-targets : goal.invariant-targets
invariant-targets l =
    Settles (IsNeverAt l.truth (names_of l.open_keys) (condition_of l.platform)) l.fn.targets l.target-iterator
