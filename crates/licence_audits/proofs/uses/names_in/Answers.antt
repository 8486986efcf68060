use Rattle.std.proofs.Common.{inl}
use Rattle.licence_audits.proofs.Naming.{named_in}
use Rattle.licence_audits.proofs.uses.names_in.Goals as goal

pub returns-in-Ok : goal.returns-in-Ok
returns-in-Ok c =
    inl (named_in c.args.entries.now c.args.text.now _ c.parts.result.now c.has_use.result c.in-Ok.ensures.tree
    c.parts.ensures c.has_use.ensures)
