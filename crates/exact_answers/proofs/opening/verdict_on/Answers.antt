use Rattle.std.proofs.Common.{◌≡◌, ◌∙◌, sym, None}
use Rattle.cargo_platform.specs.Trees.{value_of}
use Rattle.cargo_platform.specs.Facts.{pair_of}
use Rattle.exact_answers.proofs.Telling.{itself}
use Rattle.exact_answers.proofs.opening.verdict_on.Goals as goal

pub returns-in-None : goal.returns-in-None
returns-in-None g c =
    let is : g.K.Knowledge.told c.args.known.now (pair_of (value_of c.args.c.now)) ≡ None =
    sym c.tells.ensures ∙ c.in-None.is in
    (is, (is, itself (pair_of (value_of c.args.c.now))))
