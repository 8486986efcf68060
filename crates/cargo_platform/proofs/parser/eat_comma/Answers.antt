use Rattle.cargo_platform.proofs.parser.eat_comma.Goals as goal

pub returns-then-is_in_list-clause-not_taken : goal.returns-then-is_in_list-clause-not_taken
returns-then-is_in_list-clause-not_taken c = λ no. let n = c.eat.ensures.not_taken no in (n.0, λ _. n.1)
