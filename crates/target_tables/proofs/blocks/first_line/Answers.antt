use Rattle.std.proofs.Common.{◌∙◌, ap, [], ◌∷◌, append_assoc, lit≤}
use Rattle.std.proofs.lemmas.Str.{IsUtf8-nil}
use Rattle.cargo_platform.specs.Lines.{lines_of}
use Rattle.cargo_platform.proofs.SomeCut.{ascii_sides}
use Rattle.cargo_platform.proofs.LineStarts.{parts_at_end}
use Rattle.cargo_platform.proofs.TextLines.{first_line, last_line}
use Rattle.target_tables.proofs.blocks.first_line.Goals as goal

pub returns-in-Some-clause-lines : goal.returns-in-Some-clause-lines
returns-in-Some-clause-lines c = λ some.
    let parts = rw c.in-Some.is at (parts_at_end c.args.text.now c.split_once.result c.split_once.ensures.cases) in
    ap lines_of parts.1 ∙ first_line c.in-Some.line.now c.in-Some.behind.now parts.0

pub returns-in-Some-clause-unbroken : goal.returns-in-Some-clause-unbroken
returns-in-Some-clause-unbroken c =
    let parts = rw c.in-Some.is at (parts_at_end c.args.text.now c.split_once.result c.split_once.ensures.cases) in
    parts.0

pub returns-in-Some-clause-utf8 : goal.returns-in-Some-clause-utf8
returns-in-Some-clause-utf8 c =
    let line = c.in-Some.line.now in
    let behind = c.in-Some.behind.now in
    let parts = rw c.in-Some.is at (parts_at_end c.args.text.now c.split_once.result c.split_once.ensures.cases) in
    let whole = parts.1 ∙ append_assoc line (10 ∷ []) behind in
    (ascii_sides 10 c.args.text.now line behind (lit≤ tt) c.utf8.text whole).1

pub returns-in-None-clause-lines : goal.returns-in-None-clause-lines
returns-in-None-clause-lines c = λ some.
    let whole = rw c.in-None.is at (parts_at_end c.args.text.now c.split_once.result c.split_once.ensures.cases) in
    last_line c.args.text.now whole some

pub returns-in-None-clause-unbroken : goal.returns-in-None-clause-unbroken
returns-in-None-clause-unbroken c =
    rw c.in-None.is at (parts_at_end c.args.text.now c.split_once.result c.split_once.ensures.cases)

pub returns-in-None-clause-utf8 : goal.returns-in-None-clause-utf8
returns-in-None-clause-utf8 c = IsUtf8-nil
