use Rattle.std.proofs.Common.{refl, ◌∷◌, arith}
use Rattle.cargo_platform.specs.Tokens.{LeftParen}
use Rattle.cargo_platform.specs.Spelling.{Expressions}
use Rattle.cargo_platform.specs.Walk.{Wanting, WithWord}
use Rattle.cargo_platform.specs.Inside.Matching.{fresh}
use Rattle.cargo_platform.proofs.Parsing.{reads_taken, reads_then, word_stops, taken_shorter}
use Rattle.cargo_platform.proofs.matching.open_group.Goals as goal

pub returns-then-not-eat-clause-refused : goal.returns-then-not-eat-clause-refused
returns-then-not-eat-clause-refused c = λ gs.
    let n = c.eat.ensures.not_taken c.if-not-eat.true in
    word_stops c.args.reader.now.ahead c.eat.new.self.ahead (fresh c.args.kind) gs c.refuse.result n.0 n.1
    c.refuse.ensures.refused

pub returns-clause-opened : goal.returns-clause-opened
returns-clause-opened c = λ fs old from n.
    let l = c.args.reader.now.ahead in
    let m = c.eat.new.self.ahead in
    let o = fresh c.args.kind in
    record {
      gs = o ∷ n.gs;
      hold = c.in_ok-push.ensures fs n.gs n.hold;
      reads =
          reads_then Expressions old l m from (WithWord o n.gs) (Wanting (o ∷ n.gs)) n.reads
          (reads_taken Expressions l m LeftParen (WithWord o n.gs) (Wanting (o ∷ n.gs))
          (c.eat.ensures.taken c.if-not-eat.false) refl);
    }

pub returns-clause-shorter : goal.returns-clause-shorter
returns-clause-shorter c =
    omega (
      arith,
      taken_shorter c.args.reader.now.ahead c.eat.new.self.ahead LeftParen (c.eat.ensures.taken c.if-not-eat.false),
    )
