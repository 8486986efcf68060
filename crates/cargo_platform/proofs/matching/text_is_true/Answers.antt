use Rattle.std.proofs.Common.{Bool, Err}
use Rattle.cargo_platform.specs.Spelling.{Expressions}
use Rattle.cargo_platform.specs.Errors.{fault_in, span_in}
use Rattle.cargo_platform.specs.Faults.{IsRefused, IsRefusedAt}
use Rattle.cargo_platform.proofs.ReaderAnswers.{expression_read, parse_is, if_parse}
use Rattle.cargo_platform.proofs.Parsing.{fault_and_span}
use Rattle.cargo_platform.proofs.Refusing.{stops_refused}
use Rattle.cargo_platform.proofs.TextLaws.{tree_laws, refused_answer}
use Rattle.cargo_platform.proofs.matching.text_is_true.Goals as goal

pub returns-in-Ok-clause-truth : goal.returns-in-Ok-clause-truth
returns-in-Ok-clause-truth g c =
    let a = c.in-Ok.ensures.answer in (
      a.e,
      expression_read c.args.text.now c.new-reader.result.ahead c.evaluate.new.reader.ahead a.e
          c.new-reader.ensures.text c.new-reader.ensures.first a.reads a.ended,
      a.is,
    )

pub returns-in-Err-clause-orig : goal.returns-in-Err-clause-orig
returns-in-Err-clause-orig g c =
    parse_is Bool c.in-Err.refusal c.args.text.now c.into_error.result _ c.into_error.ensures (λ e o f p. o)

pub returns-in-Err-clause-span : goal.returns-in-Err-clause-span
returns-in-Err-clause-span g c =
    let s = c.args.text.now in
    let r = c.in-Err.refusal in
    parse_is Bool r s c.into_error.result (λ e. IsRefusedAt Expressions s (fault_in e) (span_in e))
    c.into_error.ensures
    (λ e o f p. fault_and_span r (fault_in e) (span_in e) (IsRefusedAt Expressions s) f p
    (stops_refused Expressions s c.new-reader.result.ahead r c.utf8.text c.new-reader.ensures.text
    c.new-reader.ensures.first c.in-Err.ensures.refused))

pub returns-in-Err-clause-fault : goal.returns-in-Err-clause-fault
returns-in-Err-clause-fault g c =
    if_parse Bool c.into_error.result _ (λ e. IsRefused Expressions c.args.text.now (fault_in e)) (λ e h. h.0)
    (returns-in-Err-clause-span g c)

pub returns-in-Err-clause-refused : goal.returns-in-Err-clause-refused
returns-in-Err-clause-refused g c =
    refused_answer tree_laws {B = Bool} c.args.text.now (Err c.into_error.result) (returns-in-Err-clause-fault g c)
