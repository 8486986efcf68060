use Rattle.std.specs.BTreeSet.{IsFromIterResult}
use Rattle.std.proofs.lemmas.Iterator.{YieldsList-from_slice}
use Rattle.std.proofs.lemmas.Iterator.Adapters.{fact_from_collect}
use Rattle.std.proofs.lemmas.Iterator.Consumers.{YieldsList-from_copied}
use Rattle.std.proofs.lemmas.Result.{IfOk-weaker}
use Rattle.cargo_platform.specs.Key.{text_cmp}
use Rattle.known_targets.proofs.Named.{has_names}
use Rattle.known_targets.proofs.open_names.set_of.Goals as goal

pub returns : goal.returns
returns c =
    IfOk-weaker c.collect.result (IsFromIterResult (λ x y. text_cmp x.now y.now) c.args.names.now) _
    (has_names c.args.names.now)
    (fact_from_collect (IsFromIterResult (λ x y. text_cmp x.now y.now)) c.collect.result c.collect.ensures.ran
    (YieldsList-from_copied (YieldsList-from_slice c.args.names.now cc)))
