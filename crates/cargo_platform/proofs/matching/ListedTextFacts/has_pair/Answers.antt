use Rattle.std.proofs.Common.{◌∙◌, false}
use Rattle.cargo_platform.specs.Trees.{KeyPair}
use Rattle.cargo_platform.proofs.FactSets.{is_in_list}
use Rattle.cargo_platform.proofs.matching.ListedTextFacts.has_pair.Goals as goal

pub returns : goal.returns
returns c =
    c.lists_pair.ensures
    ∙ is_in_list (KeyPair (record { raw = false; name = c.args.key.now }) c.args.value.now) c.args.self.now.0.now
