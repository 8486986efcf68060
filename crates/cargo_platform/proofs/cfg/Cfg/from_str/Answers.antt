use Rattle.std.proofs.Common.{Ok, Err}
use Rattle.cargo_platform.specs.declared.cfg.Cfg.{Cfg}
use Rattle.cargo_platform.specs.Trees.{value_of}
use Rattle.cargo_platform.specs.Errors.{fault_in, span_in}
use Rattle.cargo_platform.specs.Spelling.{Values}
use Rattle.cargo_platform.specs.Faults.{IsRefused, IsRefusedAt}
use Rattle.cargo_platform.proofs.ReaderAnswers.{value_read, parse_is, if_parse}
use Rattle.cargo_platform.proofs.Parsing.{fault_and_span}
use Rattle.cargo_platform.proofs.Refusing.{stops_refused}
use Rattle.cargo_platform.proofs.TextLaws.{value_laws, formed_answer, refused_answer, answer_back}
use Rattle.cargo_platform.proofs.cfg.Cfg.from_str.Goals as goal

pub returns-in-Ok : goal.returns-in-Ok
returns-in-Ok c =
    let s = c.args.s.now in
    let v = c.in-Ok.cfg in
    let read = value_read s c.new-reader.result.ahead c.read_cfg.new.reader.ahead (value_of v) c.new-reader.ensures.text
    c.new-reader.ensures.first c.in-Ok.ensures.value c.in-Ok.ensures.ended in
    record {
      value = read;
      orig = tt;
      fault = tt;
      span = tt;
      well_formed = formed_answer value_laws value_of s (Ok v) read;
      refused = tt;
      reads_back = answer_back value_laws value_of s (Ok v) read tt;
    }

pub returns-in-Err : goal.returns-in-Err
returns-in-Err c =
    let s = c.args.s.now in
    let r = c.in-Err.refusal in
    let x = c.into_error.result in
    let b = c.into_error.ensures in
    let span = parse_is Cfg r s x (λ e. IsRefusedAt Values s (fault_in e) (span_in e)) b
    (λ e o f p. fault_and_span r (fault_in e) (span_in e) (IsRefusedAt Values s) f p
    (stops_refused Values s c.new-reader.result.ahead r c.utf8.s c.new-reader.ensures.text c.new-reader.ensures.first
    c.in-Err.ensures.refused)) in
    let fault = if_parse Cfg x _ (λ e. IsRefused Values s (fault_in e)) (λ e h. h.0) span in
    let none = refused_answer value_laws {B = Cfg} s (Err x) fault in
    record {
      value = tt;
      orig = parse_is Cfg r s x _ b (λ e o f p. o);
      fault = fault;
      span = span;
      well_formed = tt;
      refused = none;
      reads_back = answer_back value_laws value_of s (Err x) tt none;
    }
