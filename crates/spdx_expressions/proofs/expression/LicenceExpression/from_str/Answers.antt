use Rattle.spdx_expressions.specs.Trees.{pieces}
use Rattle.spdx_expressions.proofs.Viable.{read_tree, error_fault, error_refuses}
use Rattle.spdx_expressions.proofs.Printing.{read_written, written_terms, print_read, print_refused}
use Rattle.spdx_expressions.proofs.expression.LicenceExpression.from_str.Goals as goal

pub returns-in-Ok-clause-parts : goal.returns-in-Ok-clause-parts
returns-in-Ok-clause-parts c = read_written c.args.text.now (pieces c.in-Ok.parts.items) c.in-Ok.ensures.read

pub returns-in-Ok-clause-tree : goal.returns-in-Ok-clause-tree
returns-in-Ok-clause-tree c = read_tree c.args.text.now (pieces c.in-Ok.parts.items) c.in-Ok.ensures.read

pub returns-in-Ok-clause-well_formed : goal.returns-in-Ok-clause-well_formed
returns-in-Ok-clause-well_formed c =
    let ps = pieces c.in-Ok.parts.items in
    let t = read_tree c.args.text.now ps c.in-Ok.ensures.read in
    (t.0, t.2, written_terms ps _ (read_written c.args.text.now ps c.in-Ok.ensures.read))

pub returns-in-Ok-clause-reads_back : goal.returns-in-Ok-clause-reads_back
returns-in-Ok-clause-reads_back c = λ ps well is.
    (print_read c.args.text.now ps (pieces c.in-Ok.parts.items) well is c.in-Ok.ensures.read, tt)

pub returns-in-Err-clause-refused : goal.returns-in-Err-clause-refused
returns-in-Err-clause-refused c =
    error_refuses c.args.text.now c.in-Err.refusal c.into_error.result c.in-Err.ensures.refused c.into_error.ensures

pub returns-in-Err-clause-fault : goal.returns-in-Err-clause-fault
returns-in-Err-clause-fault c =
    error_fault c.args.text.now c.in-Err.refusal c.into_error.result c.in-Err.ensures.refused c.into_error.ensures

pub returns-in-Err-clause-reads_back : goal.returns-in-Err-clause-reads_back
returns-in-Err-clause-reads_back c = λ ps well is. (
  tt,
  print_refused c.args.text.now ps c.in-Err.refusal c.into_error.result well is c.in-Err.ensures.refused
      c.into_error.ensures,
)
