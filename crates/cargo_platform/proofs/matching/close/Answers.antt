use Rattle.cargo_platform.proofs.Parsing.{group_stops}
use Rattle.cargo_platform.proofs.matching.close.Goals as goal

pub returns-then-not-eat-clause-refused : goal.returns-then-not-eat-clause-refused
returns-then-not-eat-clause-refused c = λ o gs e comma clear.
    let n = c.eat.ensures.not_taken c.if-not-eat.true in
    group_stops c.args.reader.now.ahead c.eat.new.self.ahead o gs e c.refuse.result n.0 n.1 comma clear
    c.refuse.ensures.refused
