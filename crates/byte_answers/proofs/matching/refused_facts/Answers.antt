use Rattle.std.proofs.Common.{◌≡◌, sym, ◌∙◌, subst, ℕ, List, Option, IfSome, false, string_bytes}
use Rattle.std.specs.declared.ops.Range.{Range}
use Rattle.cargo_platform.specs.declared.error.ParseError.{ParseError}
use Rattle.cargo_platform.specs.declared.fact_lines.FactsError.{FactsError}
use Rattle.cargo_platform.specs.declared.fact_lines.FactsError.TheVariants.{Line}
use Rattle.cargo_platform.specs.Spelling.{Values}
use Rattle.cargo_platform.specs.Faults.{IsRefusedAt}
use Rattle.cargo_platform.specs.FactLines.{BeginsLine, IsSpanInFacts, print_facts_error}
use Rattle.cargo_platform.specs.KeySpans.{IsSpanBy}
use Rattle.cargo_platform.specs.Errors.{orig_of, fault_in, span_in}
use Rattle.byte_answers.specs.declared.outcome.Outcome.{Outcome}
use Rattle.byte_answers.specs.Outcomes.{IsWritten}
use Rattle.byte_answers.specs.Refusals.{AreEnds, IsErrorOfLines, IsRefusedLine, print_refused_line}
use Rattle.byte_answers.proofs.matching.refused_facts.Goals as goal

line_refused : (lines old new text message : List ℕ) (o : Outcome) (error : FactsError) (n : ℕ) (e : ParseError)
    → (at : Option (Range ℕ)) → error ≡ Line n e → IsErrorOfLines lines error → IsSpanInFacts lines error at
    → AreEnds at o.start o.end → IfSome (print_facts_error error) (λ bs. message ≡ bs) → text ≡ message
    → IsWritten text o.needed old new → IsRefusedLine lines o old new
line_refused lines old new text message o error n e at is of stands ends prints same written =
    let known : IsErrorOfLines lines (Line n e) = subst (λ (z : FactsError). IsErrorOfLines lines z) is of in
    let there : IsSpanBy (BeginsLine lines n (orig_of e)) (orig_of e) (span_in e) at =
    subst (λ (z : FactsError). IsSpanInFacts lines z at) is stands in
    let printed : message ≡ print_refused_line n (orig_of e) (fault_in e) =
    subst (λ (z : FactsError). IfSome (print_facts_error z) (λ bs. message ≡ bs)) is prints in
    let placed : IsRefusedAt Values (orig_of e) (fault_in e) (span_in e) =
    subst (λ (z : List ℕ). IsRefusedAt Values z (fault_in e) (span_in e)) (sym known.1) known.2 in
    let shown : IsWritten (print_refused_line n (orig_of e) (fault_in e)) o.needed old new =
    subst (λ (z : List ℕ). IsWritten z o.needed old new) (same ∙ printed) written in
    (n, (orig_of e, (fault_in e, (span_in e, at, (known.0, known.1, placed, there, ends, shown)))))

pub returns-in-Ok-clause-refused : goal.returns-in-Ok-clause-refused
returns-in-Ok-clause-refused c = λ refused.
    line_refused c.args.lines.now c.args.out.now c.write.new.out c.as_bytes.result.now (string_bytes c.in-Ok.message)
    (record {
      code = 1;
      argument = c.args.argument;
      holds = false;
      is_named = false;
      needed = c.write.result;
      start = c.span_in_lines-span.result.start;
      end = c.span_in_lines-span.result.end;
    })
    c.args.error.now c.in_default.field-0 c.in_default.field-1 c.span_in_lines-span.ensures.0 c.in_default.is c.requires
    c.span_in_lines-span.ensures.1 c.span_in_lines-span.ensures.2 c.in-Ok.ensures.ok c.as_bytes.ensures.value
    c.write.ensures
