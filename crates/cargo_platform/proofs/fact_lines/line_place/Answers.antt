use Rattle.std.proofs.Common.{◌≡◌, ◌-◌, length, rules, subst}
use Rattle.std.proofs.lemmas.Grind.{common_steps}
use Rattle.cargo_platform.specs.Inside.LineStarts.{HoldsLine}
use Rattle.cargo_platform.proofs.LineStarts.{none_left, begins_next, is_other}
use Rattle.cargo_platform.proofs.fact_lines.line_place.Goals as goal

pub returns-in_err-first : goal.returns-in_err-first
returns-in_err-first c =
    rw c.from_residual-in_err-first.ensures
    (λ place. none_left c.args.text.now c.in_ok-rest.rest.now c.args.line.now c.args.number c.in_ok-checked_sub.field-0
    place c.in_ok-rest.ensures c.in_err-first.ensures (search (rules, common_steps)))

pub returns-then-eq : goal.returns-then-eq
returns-then-eq c =
    let same : c.in_ok-first.first.now ≡ c.args.line.now = search (rules, common_steps) in
    let place = length c.args.text.now - length c.in_ok-rest.rest.now in
    subst (λ z. HoldsLine c.args.text.now c.args.number z place) same
    (begins_next c.args.text.now c.in_ok-rest.rest.now c.in_ok-first.first.now c.args.number
    c.in_ok-checked_sub.field-0 c.in_ok-rest.ensures c.in_ok-first.ensures (search (rules, common_steps)))

pub returns-else-eq : goal.returns-else-eq
returns-else-eq c =
    is_other c.args.text.now c.in_ok-rest.rest.now c.in_ok-first.first.now c.args.line.now c.args.number
    c.in_ok-checked_sub.field-0 c.in_ok-rest.ensures c.in_ok-first.ensures (search (rules, common_steps))
    (λ same. search (rules, common_steps))
