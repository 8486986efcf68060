use Rattle.std.proofs.Common.{sym, subst}
use Rattle.cargo_metadata.specs.Refusals.{IsRefusedBy}
use Rattle.cargo_metadata.proofs.graphs.edges.holds_at.Goals as goal

pub returns-in-Err-Parse : goal.returns-in-Err-Parse
returns-in-Err-Parse c =
    let read = rw c.in-Err-Parse.field-0-is at c.in-Err-Parse.ensures in
    rw c.in-Err-Parse.field-0-is (subst (λ z. IsRefusedBy c.in-Err-Parse.error z) (sym c.in-Some.is) read.span)
