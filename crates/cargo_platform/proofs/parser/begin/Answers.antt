use Rattle.std.proofs.Common.{◌∙◌, ◌<◌, refl, arith}
use Rattle.std.proofs.lemmas.Result.{IfErr-weaker, IfOk-weaker}
use Rattle.cargo_platform.specs.Inside.Ahead.{bytes_left}
use Rattle.cargo_platform.specs.Tokens.{Ident}
use Rattle.cargo_platform.specs.Spelling.{Expressions}
use Rattle.cargo_platform.specs.Walk.{Wanting}
use Rattle.cargo_platform.specs.Inside.Parsing.{stack, at_name, at_done}
use Rattle.cargo_platform.proofs.Parsing.{taken_shorter, reads_shorter, reads_taken, reads_then, stops_then}
use Rattle.cargo_platform.proofs.Parsing.{wanting_stops}
use Rattle.cargo_platform.proofs.parser.begin.Goals as goal

pub returns-in-Some-clause-begun : goal.returns-in-Some-clause-begun
returns-in-Some-clause-begun c =
    let l = c.args.reader.now.ahead in
    let m = c.eat_name.new.self.ahead in
    let n = c.behind_name.new.reader.ahead in
    let gs = stack c.args.groups.now in
    let raw = c.in-Some.raw in
    let name = c.in-Some.name.now in
    IfOk-weaker c.behind_name.result _ _ (λ done a.
    reads_then Expressions l m n (Wanting gs) (at_name raw name gs) (at_done (stack c.behind_name.new.groups) done)
    (reads_taken Expressions l m (Ident raw name) (Wanting gs) (at_name raw name gs) c.in-Some.ensures.taken refl) a)
    c.behind_name.ensures.begun

pub returns-in-Some-clause-refused : goal.returns-in-Some-clause-refused
returns-in-Some-clause-refused c =
    let l = c.args.reader.now.ahead in
    let m = c.eat_name.new.self.ahead in
    let gs = stack c.args.groups.now in
    let raw = c.in-Some.raw in
    let name = c.in-Some.name.now in
    IfErr-weaker c.behind_name.result _ _ (λ r a.
    stops_then Expressions l m (Wanting gs) (at_name raw name gs) r
    (reads_taken Expressions l m (Ident raw name) (Wanting gs) (at_name raw name gs) c.in-Some.ensures.taken refl) a)
    c.behind_name.ensures.refused

pub returns-clause-refused : goal.returns-clause-refused
returns-clause-refused c =
    let l = c.args.reader.now.ahead in
    let gs = stack c.args.groups.now in
    let n = c.in_default.ensures.not_taken in
    let k = c.in_default-end_list.ensures.not_closed in
    wanting_stops l c.end_list.new.reader.ahead gs c.refuse.result (k.0 ∙ n.0) n.1 (λ y. rw (← n.0) (k.1 y))
    c.refuse.ensures.refused

pub returns-in-Some-clause-shorter : goal.returns-in-Some-clause-shorter
returns-in-Some-clause-shorter c =
    let l = c.args.reader.now.ahead in
    let m = c.eat_name.new.self.ahead in
    let n = c.behind_name.new.reader.ahead in
    IfOk-weaker c.behind_name.result _ (λ _. bytes_left n < bytes_left l) (λ done a.
    omega (
      arith,
      taken_shorter l m (Ident c.in-Some.raw c.in-Some.name.now) c.in-Some.ensures.taken,
      reads_shorter Expressions m n _ _ a,
    )) c.behind_name.ensures.begun
