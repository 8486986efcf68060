use Rattle.std.proofs.Common.{refl, inr, Result, Err, Bool}
use Rattle.cargo_platform.specs.declared.error.ReadError.{ReadError}
use Rattle.cargo_platform.specs.declared.error.ReadError.TheVariants as errors
use Rattle.cargo_platform.specs.Trees.{Target, Expression}
use Rattle.cargo_platform.specs.Platforms.{IsRefusedCondition, IsTargetName}
use Rattle.cargo_platform.specs.Errors.{orig_of, fault_in}
use Rattle.cargo_platform.proofs.ConditionAnswers.{expression_fault, expression_span}
use Rattle.cargo_platform.proofs.TextLaws.{condition_laws, refused_answer}
use Rattle.cargo_platform.proofs.TargetNames.{name_is_bare}
use Rattle.cargo_platform.proofs.Platform.matches_str.Goals.{then-not-is_plain+in_default+in_default-first_refused}
use Rattle.cargo_platform.proofs.Platform.matches_str.Goals.{else-not-is_plain}
use Rattle.cargo_platform.proofs.Platform.matches_str.Goals as goal

pub returns-in-Ok : goal.returns-in-Ok
returns-in-Ok c =
    let a = c.in-Ok.ensures.truth in
    record {
      truth = (Expression a.0, (c.in-Some.inner.now, c.in-Some.ensures, a.1), a.2);
      fault = tt;
      span = tt;
      refused = tt;
    }

pub returns-in-Err : goal.returns-in-Err
returns-in-Err c =
    let answer : Result Bool ReadError = Err c.in-Err.error in
    let fault = expression_fault Bool Bool c.args.key.now c.in-Some.inner.now c.in-Err.error c.in-Some.ensures
    c.in-Err.ensures.orig c.in-Err.ensures.fault in
    record {
      truth = tt;
      fault = fault;
      span =
          expression_span Bool Bool c.args.key.now c.in-Some.inner.now c.in-Err.error c.in-Some.ensures
          c.in-Err.ensures.orig c.in-Err.ensures.span;
      refused = refused_answer condition_laws {B = Bool} c.args.key.now answer fault;
    }

pub returns-in-Ok-target_error : goal.returns-in-Ok-target_error
returns-in-Ok-target_error c =
    let answer : Result Bool ReadError = Err (errors.Parse c.in-Ok-target_error.error) in
    let e = c.in-Ok-target_error.error in
    let fault : IsRefusedCondition c.args.key.now (orig_of e) (fault_in e) =
    inr (c.in_default.ensures, c.in-Ok-target_error.ensures.of, c.in-Ok-target_error.ensures.why) in
    record {
      truth = tt;
      fault = fault;
      span =
          inr (
            c.in_default.ensures,
            c.in-Ok-target_error.ensures.of,
            c.in-Ok-target_error.ensures.why,
            c.in-Ok-target_error.ensures.place,
          );
      refused = refused_answer condition_laws {B = Bool} c.args.key.now answer fault;
    }

pub returns-clause-truth : goal.returns-clause-truth
returns-clause-truth c =
    let name : IsTargetName c.args.key.now = elim c.if-not-is_plain.branch [
      | then-not-is_plain+in_default+in_default-first_refused w ↦ w.in_default-first_refused.ensures
      | else-not-is_plain w ↦ c.is_plain.ensures w.if-not-is_plain.false
    ] in
    (Target c.args.key.now, (refl, name_is_bare c.args.key.now name, name), c.eq.ensures)
