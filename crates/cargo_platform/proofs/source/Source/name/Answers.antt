use Rattle.std.proofs.Common.{◌≡◌, ◌+◌, ℕ, subst, arith}
use Rattle.cargo_platform.specs.Inside.Looking.{Scans}
use Rattle.cargo_platform.proofs.source.Source.name.Goals as goal

pub returns-clause-counted : goal.returns-clause-counted
returns-clause-counted c = λ goes_on.
    let S : ℕ → Type 0 = λ from. Scans c.args.self.now.text.now from c.past_identifier-end.result.0 1
    c.args.self.now.looks c.past_identifier-end.new.self.looks in
    let next : c.args.start + 1 + 1 ≡ c.args.start + 2 = omega arith in
    subst S next (c.past_identifier-end.ensures.counted goes_on)
