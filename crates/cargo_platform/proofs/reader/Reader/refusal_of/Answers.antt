use Rattle.std.proofs.Common.{◌≡◌, false, sym, subst, rules, Option, Some}
use Rattle.std.specs.Prelude.{Ok, IfSome}
use Rattle.cargo_platform.specs.Cut.{Token}
use Rattle.cargo_platform.specs.Tokens.{called, placed}
use Rattle.cargo_platform.specs.Faults.{UnexpectedToken, from_to}
use Rattle.cargo_platform.specs.Inside.Refusals.{FaultAt, fault_at_of}
use Rattle.cargo_platform.specs.Inside.Parsing.{Takes}
use Rattle.cargo_platform.proofs.reader.Reader.refusal_of.Goals as goal

pub returns-in-Some-Ok-clause-refused : goal.returns-in-Some-Ok-clause-refused
returns-in-Some-Ok-clause-refused c = λ old h.
    let t = placed c.in-Some-Ok.taken in
    let is : c.args.taken ≡ Some (Ok c.in-Some-Ok.taken) = search rules in
    let taken = subst (Takes old c.args.self.now.ahead) is h in (
      Token t,
      record { to = t.end; comes = taken.comes },
      λ g last wants _.
          subst (λ (o : Option FaultAt). IfSome o (λ fault. fault_at_of g old.text false last (Token t) ≡ Some fault))
          (sym c.unexpected.ensures)
          (λ i. Some (record { fault = UnexpectedToken (wants i) (called t.token); span = from_to t.start t.end })),
    )
