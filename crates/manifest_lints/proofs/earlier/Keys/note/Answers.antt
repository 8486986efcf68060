use Rattle.std.proofs.Common.{subst}
use Rattle.cargo_platform.specs.Trees.{condition_of}
use Rattle.manifest_lints.specs.declared.earlier.Keys.{Keys}
use Rattle.manifest_lints.specs.Earlier.{noted, NotesBy}
use Rattle.manifest_lints.proofs.Noting.{set_one}
use Rattle.manifest_lints.proofs.earlier.Keys.note.Goals as goal

pub returns-clause-notes : goal.returns-clause-notes
returns-clause-notes c =
    let old = c.args.self.now in
    let new : Keys = record old { seen = c.insert.new.self } in
    let p = c.args.platform in
    subst (λ o. NotesBy o old new c.args.index (condition_of p.now)) c.in_default.ensures.value
    (λ q. set_one (condition_of p.now) (condition_of q.now) c.args.index (noted old q) (noted new q)
    (c.in_ok-_none.ensures.updates.0 q))
