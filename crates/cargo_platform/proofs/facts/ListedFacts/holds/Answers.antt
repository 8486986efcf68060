use Rattle.std.proofs.Common.{◌∙◌}
use Rattle.cargo_platform.specs.Trees.{value_of}
use Rattle.cargo_platform.proofs.FactSets.{is_in_list}
use Rattle.cargo_platform.proofs.facts.ListedFacts.holds.Goals as goal

pub returns : goal.returns
returns c = c.is_listed.ensures ∙ is_in_list (value_of c.args.c.now) c.args.self.now.0.now
