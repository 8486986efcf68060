use Rattle.std.proofs.Common.{sym, ◌∙◌, rules}
use Rattle.std.proofs.lemmas.Grind.{common_steps}
use Rattle.cargo_platform.specs.Errors.{fault_meant}
use Rattle.cargo_platform.proofs.KeySpans.{stands_not}
use Rattle.cargo_platform.proofs.in_key.place_in.Goals as goal

pub returns-else-eq-2 : goal.returns-else-eq-2
returns-else-eq-2 c =
    stands_not c.args.key.now c.args.text.now c.in_ok-inner.inner.now (fault_meant c.args.kind.now)
    (sym c.is_of_name.ensures ∙ c.if-is_of_name.false) c.in_ok-inner.ensures
    (λ same. search (rules, common_steps))
