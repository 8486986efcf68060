use Rattle.std.proofs.Common.{sym, subst, ◌∙◌, ℕ, List, Option, Ok, Err}
use Rattle.std.specs.Prelude.{IfSome}
use Rattle.std.specs.declared.ops.Range.{Range}
use Rattle.cargo_platform.specs.declared.cfg.CfgExpr.{CfgExpr}
use Rattle.cargo_platform.specs.Trees.{tree_of}
use Rattle.cargo_platform.specs.Spelling.{Expressions}
use Rattle.cargo_platform.specs.Faults.{Fault, IsRefused, IsRefusedAt, looked_to}
use Rattle.cargo_platform.specs.Reading.{IsLookedTo}
use Rattle.cargo_platform.specs.Inside.Parsing.{IfFault}
use Rattle.cargo_platform.specs.Errors.{fault_in, span_in}
use Rattle.cargo_platform.proofs.ReaderAnswers.{expression_read, parse_is, if_parse}
use Rattle.cargo_platform.proofs.Parsing.{fault_and_span}
use Rattle.cargo_platform.proofs.Refusing.{stops_refused}
use Rattle.cargo_platform.proofs.TextLaws.{tree_laws, formed_answer, refused_answer, answer_back}
use Rattle.cargo_platform.proofs.cfg.CfgExpr.from_str_counted.Goals as goal

pub returns-in-Ok-clause-tree : goal.returns-in-Ok-clause-tree
returns-in-Ok-clause-tree c =
    expression_read c.args.s.now c.new-reader.result.ahead c.read_expression.new.reader.ahead
    (tree_of c.in-Ok.expression) c.new-reader.ensures.text c.new-reader.ensures.first c.in-Ok.ensures.tree
    c.in-Ok.ensures.ended

pub returns-in-Ok-clause-well_formed : goal.returns-in-Ok-clause-well_formed
returns-in-Ok-clause-well_formed c =
    formed_answer tree_laws tree_of c.args.s.now (Ok c.in-Ok.expression) (returns-in-Ok-clause-tree c)

pub returns-in-Ok-clause-reads_back : goal.returns-in-Ok-clause-reads_back
returns-in-Ok-clause-reads_back c =
    answer_back tree_laws tree_of c.args.s.now (Ok c.in-Ok.expression) (returns-in-Ok-clause-tree c) tt

pub returns-in-Err-clause-orig : goal.returns-in-Err-clause-orig
returns-in-Err-clause-orig c =
    parse_is CfgExpr c.in-Err.refusal c.args.s.now c.into_error.result _ c.into_error.ensures (λ e o f p. o)

pub returns-in-Err-clause-span : goal.returns-in-Err-clause-span
returns-in-Err-clause-span c =
    let s = c.args.s.now in
    let r = c.in-Err.refusal in
    parse_is CfgExpr r s c.into_error.result (λ e. IsRefusedAt Expressions s (fault_in e) (span_in e))
    c.into_error.ensures
    (λ e o f p. fault_and_span r (fault_in e) (span_in e) (IsRefusedAt Expressions s) f p
    (stops_refused Expressions s c.new-reader.result.ahead r c.utf8.s c.new-reader.ensures.text
    c.new-reader.ensures.first c.in-Err.ensures.refused))

pub returns-in-Err-clause-fault : goal.returns-in-Err-clause-fault
returns-in-Err-clause-fault c =
    if_parse CfgExpr c.into_error.result _ (λ e. IsRefused Expressions c.args.s.now (fault_in e)) (λ e h. h.0)
    (returns-in-Err-clause-span c)

pub returns-in-Err-clause-refused : goal.returns-in-Err-clause-refused
returns-in-Err-clause-refused c =
    refused_answer tree_laws {B = CfgExpr} c.args.s.now (Err c.into_error.result) (returns-in-Err-clause-fault c)

pub returns-in-Err-clause-reads_back : goal.returns-in-Err-clause-reads_back
returns-in-Err-clause-reads_back c =
    answer_back tree_laws tree_of c.args.s.now (Err c.into_error.result) tt (returns-in-Err-clause-refused c)

pub returns-in-Err-clause-at_least : goal.returns-in-Err-clause-at_least
returns-in-Err-clause-at_least c =
    let s = c.args.s.now in
    let r = c.in-Err.refusal in
    let n = c.spend-looks.result in
    let To : Fault → Option (Range ℕ) → Type 0 = λ f at. IfSome at (λ span. IsLookedTo s (looked_to f span) n) in
    let L : List ℕ → ℕ → Type 0 = λ t m. IfFault r (λ f. IsLookedTo t (looked_to f.fault f.span) m) in
    let text = c.in-Err.ensures.same_text ∙ c.new-reader.ensures.text in
    parse_is CfgExpr r s c.into_error.result (λ e. To (fault_in e) (span_in e)) c.into_error.ensures
    (λ e o f p. fault_and_span r (fault_in e) (span_in e) To f p
    (subst (L s) (sym c.spend-looks.ensures.looks)
    (subst (λ t. L t c.read_expression.new.reader.looks) text c.in-Err.ensures.looked)))
