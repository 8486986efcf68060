use Rattle.std.proofs.Common.{◌≡◌, ◌++◌, drop}
use Rattle.manifest_lints_findings.specs.Chosen.{chosen}
use Rattle.manifest_lints_findings.proofs.chosen.chosen.Given as goal

-- what was found, and is found in what is left
abbrev pub invariant-predicates : goal.invariant-predicates
invariant-predicates l = l.found.items ++ chosen l.choice (drop l.each-index l.predicates)
    ≡ chosen l.choice l.predicates
