use Rattle.std.proofs.Common.{take}
use Rattle.package_graphs.specs.Inside.Searching.{IsPathOf}
use Rattle.package_graphs.proofs.paths.Search.end_of.Given as goal

abbrev pub invariant-steps : goal.invariant-steps
invariant-steps l = IsPathOf l.self (take l.step-index l.steps) l.place
