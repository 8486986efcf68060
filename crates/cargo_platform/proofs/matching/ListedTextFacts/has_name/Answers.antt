use Rattle.std.proofs.Common.{◌∙◌, false}
use Rattle.cargo_platform.specs.Trees.{Alone}
use Rattle.cargo_platform.proofs.FactSets.{is_in_list}
use Rattle.cargo_platform.proofs.matching.ListedTextFacts.has_name.Goals as goal

pub returns : goal.returns
returns c =
    c.lists_name.ensures
    ∙ is_in_list (Alone (record { raw = false; name = c.args.name.now })) c.args.self.now.0.now
