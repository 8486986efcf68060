use Rattle.std.proofs.Common.{ap}
use Rattle.cargo_platform.specs.Inside.Ahead.{Standing}
use Rattle.cargo_platform.proofs.Coming.{whole_read}
use Rattle.cargo_platform.proofs.reader.Reader.spend.Goals as goal

pub returns-clause-whole : goal.returns-clause-whole
returns-clause-whole c = λ done.
    let r = c.self.inside in
    let seen = whole_read r.source.text.now r.place r.seen r.fault r.source.looks r.length c.self.invariant
    (rw (ap (λ (z : Standing). z.ahead) c.self.view_is) done) in
    rw (← (ap (λ (z : Standing). z.ahead) c.self.view_is), c.spend.ensures) seen
