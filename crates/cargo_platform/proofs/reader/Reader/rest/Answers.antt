use Rattle.std.proofs.Common.{ap, sym, ◌∙◌}
use Rattle.cargo_platform.specs.Inside.Ahead.{Standing}
use Rattle.cargo_platform.proofs.Coming.{end_ahead, rest_ahead, nothing_seen, something_seen}
use Rattle.cargo_platform.proofs.reader.Reader.rest.Goals as goal

pub returns-in-None-clause-rest : goal.returns-in-None-clause-rest
returns-in-None-clause-rest c =
    let r = c.self.inside in
    rw (← ap (λ (z : Standing). z.ahead) c.self.view_is)
    (end_ahead r.source.text.now r.place
    (nothing_seen r.source.text.now r.place r.seen c.self.invariant.sees (sym c.character_of.ensures ∙ c.in-None.is)))

pub returns-in-Some-clause-rest : goal.returns-in-Some-clause-rest
returns-in-Some-clause-rest c =
    let r = c.self.inside in
    let i = c.self.invariant in
    let within = something_seen r.source.text.now r.place _ r.seen i.sees (sym c.character_of.ensures ∙ c.in-Some.is) in
    rw (← ap (λ (z : Standing). z.ahead) c.self.view_is)
    (rw (c.rest_from.ensures, i.measured) (rest_ahead r.source.text.now r.place i.utf8 i.reached i.past within))
