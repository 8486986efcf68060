use Rattle.std.proofs.Common.{◌∙◌, arith, MatchOption, Option, Some, None}
use Rattle.byte_answers.specs.Pieces.{leaf}
use Rattle.byte_answers.proofs.Pieces.{piece_sizes, no_group}
use Rattle.byte_answers.proofs.FactRecords.{no_fact_last}
use Rattle.byte_answers.proofs.truths.last_found.Goals as goal

match_then : {X A B : Type 0} {P Q : X → Type 0} (o : Option X) → MatchOption o A P → (A → B)
    → ((x : X) → P x → Q x) → MatchOption o B Q
match_then None a f g = f a
match_then (Some x) p f g = g x p

pub returns-in_err-ending : goal.returns-in_err-ending
returns-in_err-ending c =
    rw c.from_residual.ensures (λ front p number same.
    omega (arith, (piece_sizes c.args.bytes.now front p same).long, c.in_err-ending.ensures))

pub returns-then-ending-lt-TRUE : goal.returns-then-ending-lt-TRUE
returns-then-ending-lt-TRUE c =
    let e = c.in_ok-ending.ending in
    match_then c.last_fact.result c.last_fact.ensures
    (λ never front p number same.
    no_fact_last c.args.bytes.now e.before.now front e.a e.b e.tag p c.in_ok-ending.ensures.0
    c.if-ending-lt-TRUE.true never same)
    (λ r read.
    let whole = c.in_ok-ending.ensures.0 ∙ read.1.0 in (
      leaf read.0,
      (omega (arith, (piece_sizes c.args.bytes.now r.before.now (leaf read.0) whole).first), whole, read.1.1),
    ))

pub returns-in_err-found : goal.returns-in_err-found
returns-in_err-found c =
    rw c.from_residual-in_err-found.ensures (λ front p number same.
    let e = c.in_ok-ending.ending in
    no_group c.args.bytes.now e.before.now front e.a e.b e.tag p (omega arith) c.in_ok-ending.ensures.1
    c.in_ok-ending.ensures.2 number c.in_ok-ending.ensures.0 c.if-ending-lt-TRUE.false c.in_err-found.ensures same)
