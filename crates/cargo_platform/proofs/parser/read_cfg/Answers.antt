use Rattle.std.proofs.Common.{refl, []}
use Rattle.std.proofs.lemmas.Result.{err_from_is_err_and}
use Rattle.cargo_platform.specs.Tokens.{Ident}
use Rattle.cargo_platform.specs.Trees.{Value, value_of}
use Rattle.cargo_platform.specs.Spelling.{Values}
use Rattle.cargo_platform.specs.Walk.{WithTree, start}
use Rattle.cargo_platform.specs.Inside.Parsing.{at_lone_name}
use Rattle.cargo_platform.proofs.Parsing.{reads_taken, reads_then, stops_then, start_stops, whole_stops}
use Rattle.cargo_platform.proofs.parser.read_cfg.Goals as goal

pub returns-in_default-clause-refused : goal.returns-in_default-clause-refused
returns-in_default-clause-refused c =
    let n = c.in_default.ensures.not_taken in
    start_stops c.args.reader.now.ahead c.eat_name.new.self.ahead c.refuse.result n.0 n.1 c.refuse.ensures.refused

pub returns-in_err-cfg-clause-refused : goal.returns-in_err-cfg-clause-refused
returns-in_err-cfg-clause-refused c =
    let l = c.args.reader.now.ahead in
    let m = c.eat_name.new.self.ahead in
    let name = at_lone_name c.in-Some.raw c.in-Some.name.now [] in
    let p = err_from_is_err_and c.from_residual.result c.from_residual.ensures.1 in
    rw (p.1, p.2)
    (stops_then Values l m start name c.in_err-cfg.field-0.0
    (reads_taken Values l m (Ident c.in-Some.raw c.in-Some.name.now) start name c.in-Some.ensures.taken refl)
    (c.in_err-cfg.ensures.refused Values []))

pub returns-clause-value : goal.returns-clause-value
returns-clause-value c =
    let l = c.args.reader.now.ahead in
    let m = c.eat_name.new.self.ahead in
    let n = c.read_value.new.reader.ahead in
    let name = at_lone_name c.in-Some.raw c.in-Some.name.now [] in
    reads_then Values l m n start name (WithTree (Value (value_of c.in_ok-cfg.cfg)) [])
    (reads_taken Values l m (Ident c.in-Some.raw c.in-Some.name.now) start name c.in-Some.ensures.taken refl)
    (c.in_ok-cfg.ensures.value Values [])

pub returns-in_err-expect_end-clause-refused : goal.returns-in_err-expect_end-clause-refused
returns-in_err-expect_end-clause-refused c =
    let l = c.args.reader.now.ahead in
    let m = c.eat_name.new.self.ahead in
    let n = c.read_value.new.reader.ahead in
    let name = at_lone_name c.in-Some.raw c.in-Some.name.now [] in
    let e = Value (value_of c.in_ok-cfg.cfg) in
    let r = c.in_err-expect_end.field-0.0 in
    let p = err_from_is_err_and c.from_residual-in_err-expect_end.result c.from_residual-in_err-expect_end.ensures.1 in
    rw (p.1, p.2)
    (stops_then Values l n start (WithTree e []) r
    (reads_then Values l m n start name (WithTree e [])
    (reads_taken Values l m (Ident c.in-Some.raw c.in-Some.name.now) start name c.in-Some.ensures.taken refl)
    (c.in_ok-cfg.ensures.value Values []))
    (whole_stops Values n e r c.in_ok-cfg.ensures.clear c.in_err-expect_end.ensures.more))
