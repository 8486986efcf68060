use Rattle.std.proofs.Common.{refl, sym, ap, subst, ◌∙◌}
use Rattle.cargo_platform.specs.Tokens.{lexeme, Placed}
use Rattle.cargo_platform.specs.Inside.Ahead.{Standing, GoesPast}
use Rattle.cargo_platform.proofs.Coming.{ahead_at, fault_ahead, end_ahead, nothing_seen, goes_past}
use Rattle.cargo_platform.proofs.reader.Reader.take.Goals as goal

pub returns-in-Some-clause-taken : goal.returns-in-Some-clause-taken
returns-in-Some-clause-taken c =
    let r = c.self.inside in
    let i = c.self.invariant in
    let found = rw c.in-Some.is at i.found in
    let next = fault_ahead r.source.text.now r.place c.in-Some.kind i.reached.0 found in
    (refl, rw (← ap (λ (z : Standing). z.ahead) c.self.view_is) next)

pub returns-in_default-character_of-clause-taken : goal.returns-in_default-character_of-clause-taken
returns-in_default-character_of-clause-taken c =
    let r = c.self.inside in
    let end = nothing_seen r.source.text.now r.place r.seen c.self.invariant.sees
    (sym c.character_of.ensures ∙ c.in_default-character_of.is) in
    (refl, rw (← ap (λ (z : Standing). z.ahead) c.self.view_is) (end_ahead r.source.text.now r.place end))

pub returns-in-Ok-clause-taken : goal.returns-in-Ok-clause-taken
returns-in-Ok-clause-taken c =
    let r = c.self.inside in
    let i = c.self.invariant in
    let text = r.source.text.now in
    let to = c.past_spaces.result.0 in
    let t = lexeme c.in-Ok.cut.token in
    let cut = c.in-Ok.ensures.token in
    let found = rw c.in-Ok.ensures.same at c.past_spaces.ensures in
    let p : Placed = record { token = t; start = r.place; end = c.in-Ok.cut.end } in
    rw (← ap (λ (z : Standing). z.ahead) c.self.view_is)
    (subst
    (λ z. GoesPast (ahead_at text r.place) (ahead_at z.now to) p) (sym found.same)
    (goes_past text r.place c.in-Ok.cut.end to t i.reached.0 cut.stands found.spaces))

pub returns-in-Err-clause-taken : goal.returns-in-Err-clause-taken
returns-in-Err-clause-taken c =
    let r = c.self.inside in
    let i = c.self.invariant in (
      rw (← ap (λ (z : Standing). z.ahead) c.self.view_is) (ap (λ z. ahead_at z.now r.place) c.in-Err.ensures.same),
      rw (← ap (λ (z : Standing). z.ahead) c.self.view_is)
          (fault_ahead r.source.text.now r.place c.in-Err.kind i.reached.0 c.in-Err.ensures.fault.fault),
    )
