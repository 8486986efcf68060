use Rattle.std.proofs.Common.{◌≡◌, refl}
use Rattle.cargo_platform.specs.Tokens.{Equals, String}
use Rattle.cargo_platform.specs.Trees.{Name, KeyPair, Value}
use Rattle.cargo_platform.specs.Walk.{WithKey, WithTree}
use Rattle.cargo_platform.specs.Inside.Parsing.{at_lone_name}
use Rattle.cargo_platform.proofs.Parsing.{reads_taken, reads_then, stops_then, key_stops}
use Rattle.cargo_platform.proofs.parser.read_value.Goals as goal

pub returns-in_default-clause-refused : goal.returns-in_default-clause-refused
returns-in_default-clause-refused c = λ g gs.
    let l = c.args.reader.now.ahead in
    let m = c.eat.new.self.ahead in
    let k : Name = record { raw = c.args.raw; name = c.args.name.now } in
    let n = c.in_default.ensures.not_taken in
    stops_then g l m (at_lone_name c.args.raw c.args.name.now gs) (WithKey k gs) c.refuse.result
    (reads_taken g l m Equals (at_lone_name c.args.raw c.args.name.now gs) (WithKey k gs)
    (c.eat.ensures.taken c.if-not-eat.false) refl)
    (key_stops g m c.eat_string.new.self.ahead k gs c.refuse.result n.0 n.1 c.refuse.ensures.refused)

pub returns-clause-value : goal.returns-clause-value
returns-clause-value c = λ g gs.
    let l = c.args.reader.now.ahead in
    let m = c.eat.new.self.ahead in
    let n = c.eat_string.new.self.ahead in
    let k : Name = record { raw = c.args.raw; name = c.args.name.now } in
    let v = c.in-Some.value.now in
    let p = at_lone_name c.args.raw c.args.name.now gs in
    let is : KeyPair _ _ ≡ KeyPair _ _ = λ i. KeyPair (c.in_ok-key.ensures i) (c.in_ok-value.ensures.ok i) in
    rw is
    (reads_then g l m n p (WithKey k gs) (WithTree (Value (KeyPair k v)) gs)
    (reads_taken g l m Equals p (WithKey k gs) (c.eat.ensures.taken c.if-not-eat.false) refl)
    (reads_taken g m n (String v) (WithKey k gs) (WithTree (Value (KeyPair k v)) gs) c.in-Some.ensures.taken refl))

pub returns-then-not-eat-clause-clear : goal.returns-then-not-eat-clause-clear
returns-then-not-eat-clause-clear c =
    let n = c.eat.ensures.not_taken c.if-not-eat.true in
    rw n.0 n.1
