use Rattle.std.proofs.Common.{rules, ◌≡◌, length, subst}
use Rattle.std.specs.Prelude.{OnOk}
use Rattle.manifest_lints.specs.declared.earlier.Class.{Class}
use Rattle.manifest_lints.specs.declared.earlier.Keys.{Keys}
use Rattle.manifest_lints.specs.Classes.{PutsIn}
use Rattle.manifest_lints.proofs.Classes.{puts_member}
use Rattle.manifest_lints.proofs.earlier.Keys.put_member.Goals as goal

pub returns-clause-puts : goal.returns-clause-puts
returns-clause-puts c =
    let old = c.args.self.now in
    let new : Keys = record { seen = old.seen; members = c.push.new.self; classes = c.put-2.new.classes } in
    let last : c.len-place.result ≡ length old.members.items = search rules in
    puts_member c.put-2.result old new c.put.new.classes (c.args.index, c.args.platform) c.args.class c.args.number
    c.len-place.result c.in_ok-push.ensures.items last c.in_ok-put.ensures
    (subst (λ (class : Class). OnOk c.put-2.result
    (PutsIn c.put.new.classes c.put-2.new.classes class c.len-place.result)) c.part_of.ensures c.put-2.ensures)
