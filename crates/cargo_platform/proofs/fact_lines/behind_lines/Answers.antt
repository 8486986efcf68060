use Rattle.std.proofs.Common.{◌+◌, ◌∙◌, [], ◌∷◌, lit≤, append_assoc, arith}
use Rattle.cargo_platform.proofs.SomeCut.{ascii_sides}
use Rattle.cargo_platform.proofs.LineStarts.{parts_at_end, one_further, no_more}
use Rattle.cargo_platform.proofs.fact_lines.behind_lines.Goals as goal

pub returns-in_err-_line : goal.returns-in_err-_line
returns-in_err-_line c =
    let rest = c.lines.rest.now in
    let h = c.lines.invariant.0 in
    let whole = rw c.in_err-_line.was at (parts_at_end rest c.split_once.result c.split_once.ensures.cases) in
    rw c.from_residual.ensures
    (no_more c.args.text.now rest h.0 c.args.many h.1 whole (omega (arith, h.2, c.lines-test.true)))

pub lines-preserved : goal.lines-preserved
lines-preserved c =
    let rest = c.lines.rest.now in
    let l = c.in_ok-_line._line.now in
    let behind = c.in_ok-_line.behind.now in
    let h = c.lines.invariant.0 in
    let parts = rw c.in_ok-_line.was at (parts_at_end rest c.split_once.result c.split_once.ensures.cases) in
    let whole = parts.1 ∙ append_assoc l (10 ∷ []) behind in (
      (
        h.0 + 1,
        one_further c.args.text.now rest l behind h.0 h.1 parts.0 parts.1,
        omega (arith, h.2, c.lines-test.true),
      ),
      (ascii_sides 10 rest l behind (lit≤ tt) c.lines.invariant.1 whole).1,
    )
