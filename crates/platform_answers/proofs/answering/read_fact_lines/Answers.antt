use Rattle.std.proofs.Common.{◌≡◌, Err, arith}
use Rattle.cargo_platform.specs.declared.fact_lines.FactsError.TheVariants.{Line}
use Rattle.platform_answers.specs.Lines.{lines_of}
use Rattle.platform_answers.proofs.Cutting.{lines_few}
use Rattle.platform_answers.proofs.Facts.{refused_line_of, number_moved}
use Rattle.platform_answers.proofs.answering.read_fact_lines.Goals as goal

pub overflow_add-result : goal.overflow_add-result
overflow_add-result c =
    let is : c.read_facts.result ≡ Err (Line c.in-Err-Line.number c.in-Err-Line.error) = cc in
    let said = c.read_facts.ensures in
    let refused = refused_line_of c.args.text.now _ _ _ said.refused said.orig said.fault is in
    omega (arith, refused.0.numbered.1, lines_few c.args.text.now)

pub returns-in-Err-Line-clause-refused : goal.returns-in-Err-Line-clause-refused
returns-in-Err-Line-clause-refused c =
    let is : c.read_facts.result ≡ Err (Line c.in-Err-Line.number c.in-Err-Line.error) = cc in
    let said = c.read_facts.ensures in
    number_moved (lines_of c.args.text.now) c.in-Err-Line.number c.in-Err-Line.error
    (refused_line_of c.args.text.now _ _ _ said.refused said.orig said.fault is)
