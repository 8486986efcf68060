use Rattle.std.proofs.Common.{ℕ, List, sym, subst, refl}
use Rattle.spdx_expressions.specs.Tokens.{Placed, placed}
use Rattle.spdx_expressions.specs.Trees.{Term, Piece}
use Rattle.spdx_expressions.specs.Inside.Reading.{left, DoNotFit, Excepts}
use Rattle.spdx_expressions.proofs.reader.exception_at.Goals as goal

pub returns-in_default-next-clause-refused : goal.returns-in_default-next-clause-refused
returns-in_default-next-clause-refused c =
    let none = c.in_default-next.ensures.next in
    record {
      with = placed c.in-Some.with;
      rest = left c.args.text.now c.in-Some.with.end;
      comes = c.in-Some.ensures.next;
      is_with = c.is_with.ensures.0 c.if-not-is_with.false;
      stops = λ (t : Term) (n : ℕ) (ps : List Piece). let P : List Placed → Type 0 = DoNotFit (record {
        mode =
            Excepts t;
        depth = n;
        parts = ps;
      }) in
          subst P (sym none) refl;
      refusal = c.refuse.ensures _ none;
    }

pub returns-in-None-clause-refused : goal.returns-in-None-clause-refused
returns-in-None-clause-refused c =
    let some = c.in-Some-next.ensures.next in
    record {
      with = placed c.in-Some.with;
      rest = left c.args.text.now c.in-Some.with.end;
      comes = c.in-Some.ensures.next;
      is_with = c.is_with.ensures.0 c.if-not-is_with.false;
      stops = λ (t : Term) (n : ℕ) (ps : List Piece). let P : List Placed → Type 0 = DoNotFit (record {
        mode =
            Excepts t;
        depth = n;
        parts = ps;
      }) in
          subst P (sym some) (c.in-None.ensures t n ps);
      refusal = c.refuse-in-None.ensures _ (_, some);
    }
