use Rattle.std.proofs.Common.{rules}
use Rattle.std.proofs.lemmas.Grind.{common_steps}
use Rattle.cargo_platform.proofs.LineStarts.{parts_at_end, first_of_more, first_of_one}
use Rattle.cargo_platform.proofs.fact_lines.first_line.Goals as goal

pub returns-in-Some : goal.returns-in-Some
returns-in-Some c =
    let text = c.args.text.now in
    let parts = rw c.in-Some.is at (parts_at_end text c.split_once.result c.split_once.ensures.cases) in
    first_of_more text c.in-Some.line.now c.in-Some._behind.now parts.0 parts.1

pub returns-in-None : goal.returns-in-None
returns-in-None c =
    let text = c.args.text.now in
    let parts = rw c.in-None.is at (parts_at_end text c.split_once.result c.split_once.ensures.cases) in
    first_of_one text parts (λ empty. search (rules, common_steps))
