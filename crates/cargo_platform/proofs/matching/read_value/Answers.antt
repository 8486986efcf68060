use Rattle.std.proofs.Common.{◌≡◌, refl, sym, ◌∙◌, ap, true, true≢false, arith}
use Rattle.std.specs.FinSet.{contains}
use Rattle.cargo_platform.specs.Tokens.{Equals, String}
use Rattle.cargo_platform.specs.Trees.{Name, Alone, KeyPair, Value}
use Rattle.cargo_platform.specs.Facts.{pair_of}
use Rattle.cargo_platform.specs.Walk.{WithKey, WithTree}
use Rattle.cargo_platform.specs.Inside.Ahead.{bytes_left}
use Rattle.cargo_platform.specs.Inside.Parsing.{at_lone_name}
use Rattle.cargo_platform.proofs.Parsing.{reads_same, reads_taken, reads_then, stops_then, key_stops, taken_shorter}
use Rattle.cargo_platform.proofs.matching.read_value.Goals.{then-is_asked, else-is_asked}
use Rattle.cargo_platform.proofs.matching.read_value.Goals.{then-is_asked-2, else-is_asked-2}
use Rattle.cargo_platform.proofs.matching.read_value.Goals as goal

pub returns-then-not-eat-clause-value : goal.returns-then-not-eat-clause-value
returns-then-not-eat-clause-value g c = λ raw.
    let n = c.eat.ensures.not_taken c.if-not-eat.true in
    let k : Name = record { raw = raw; name = c.args.name.now } in
    let is : c.args.is_asked ≡ true
    → c.if-is_asked.result ≡ contains (g.F.TextFacts.meant c.args.facts.now) (pair_of (Alone k)) =
    elim c.if-is_asked.branch [
      | then-is_asked w ↦ λ asked. w.result-is ∙ w.has_name.ensures
      | else-is_asked w ↦ λ asked. absurd (true≢false (sym asked ∙ w.if-is_asked.false))
    ] in
    record {
      c = Alone k;
      reads =
          λ grammar gs.
          let p = at_lone_name raw c.args.name.now gs in
          rw n.0 (reads_same grammar c.args.reader.now.ahead p p refl);
      clear = rw n.0 n.1;
      is = is;
    }

pub returns-in_default-clause-refused : goal.returns-in_default-clause-refused
returns-in_default-clause-refused g c = λ grammar raw gs.
    let l = c.args.reader.now.ahead in
    let m = c.eat.new.self.ahead in
    let k : Name = record { raw = raw; name = c.args.name.now } in
    let n = c.in_default.ensures.not_taken in
    stops_then grammar l m (at_lone_name raw c.args.name.now gs) (WithKey k gs) c.refuse.result
    (reads_taken grammar l m Equals (at_lone_name raw c.args.name.now gs) (WithKey k gs)
    (c.eat.ensures.taken c.if-not-eat.false) refl)
    (key_stops grammar m c.eat_string.new.self.ahead k gs c.refuse.result n.0 n.1 c.refuse.ensures.refused)

pub returns-clause-value : goal.returns-clause-value
returns-clause-value g c = λ raw.
    let l = c.args.reader.now.ahead in
    let m = c.eat.new.self.ahead in
    let n = c.eat_string.new.self.ahead in
    let k : Name = record { raw = raw; name = c.args.name.now } in
    let v = c.in-Some.value.now in
    let is : c.args.is_asked ≡ true
    → c.if-is_asked-2.result ≡ contains (g.F.TextFacts.meant c.args.facts.now) (pair_of (KeyPair k v)) =
    elim c.if-is_asked-2.branch [
      | then-is_asked-2 w ↦ λ asked. w.result-is ∙ w.has_pair.ensures
      | else-is_asked-2 w ↦ λ asked. absurd (true≢false (sym asked ∙ w.if-is_asked-2.false))
    ] in
    record {
      c = KeyPair k v;
      reads =
          λ grammar gs.
          let p = at_lone_name raw c.args.name.now gs in
          reads_then grammar l m n p (WithKey k gs) (WithTree (Value (KeyPair k v)) gs)
          (reads_taken grammar l m Equals p (WithKey k gs) (c.eat.ensures.taken c.if-not-eat.false) refl)
          (reads_taken grammar m n (String v) (WithKey k gs) (WithTree (Value (KeyPair k v)) gs)
          c.in-Some.ensures.taken refl);
      clear = tt;
      is = is;
    }

pub returns-then-not-eat-clause-shorter : goal.returns-then-not-eat-clause-shorter
returns-then-not-eat-clause-shorter g c =
    omega (arith, ap bytes_left (c.eat.ensures.not_taken c.if-not-eat.true).0)

pub returns-clause-shorter : goal.returns-clause-shorter
returns-clause-shorter g c =
    let m = c.eat.new.self.ahead in
    omega (
      arith,
      taken_shorter c.args.reader.now.ahead m Equals (c.eat.ensures.taken c.if-not-eat.false),
      taken_shorter m c.eat_string.new.self.ahead (String c.in-Some.value.now) c.in-Some.ensures.taken,
    )
