use Rattle.std.proofs.Common.{sym, ap, refl, List, ℕ, Option}
use Rattle.std.specs.Option.{is_some}
use Rattle.serde_json.specs.View.{view}
use Rattle.cargo_metadata.specs.Documents.{IsMember}
use Rattle.cargo_metadata.proofs.Elements.{rows_none, rows_more, first_at}
use Rattle.cargo_metadata.proofs.metadata.members_at.Goals as goal

pub members-init : goal.members-init
members-init c = rows_none IsMember c.new-members.result.items c.new-members.ensures.items

pub members-preserved : goal.members-preserved
members-preserved c =
    rows_more IsMember c.in-Ok.items.now c.members.i c.index-items-i.result c.members.members.items
    c.push.new.self.items
    c.in-Some.id c.members-test.true c.index-items-i.is c.in_default.ensures.items
    c.members.invariant (sym c.in-Some.ensures)

pub returns-in-None : goal.returns-in-None
returns-in-None c = (
  first_at IsMember _ _ (view c.args.document.now) c.in-Ok.items.now c.members.i c.index-items-i.result
      c.members.members.items c.in-Ok.ensures c.members-test.true c.index-items-i.is c.members.invariant
      (ap (λ (o : Option (List ℕ)). is_some o) (sym c.in-None.ensures)),
  refl,
)
