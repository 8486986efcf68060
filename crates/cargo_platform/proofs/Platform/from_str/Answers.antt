use Rattle.std.proofs.Common.{inr, Result, Ok, Err, sym, subst}
use Rattle.cargo_platform.specs.declared.Platform.{Platform}
use Rattle.cargo_platform.specs.declared.Platform.TheVariants as platform
use Rattle.cargo_platform.specs.declared.cfg.CfgExpr.{CfgExpr}
use Rattle.cargo_platform.specs.declared.error.ReadError.{ReadError}
use Rattle.cargo_platform.specs.declared.error.ReadError.TheVariants as errors
use Rattle.cargo_platform.specs.Trees.{condition_of}
use Rattle.cargo_platform.specs.Platforms.{IsConditionText, IsRefusedCondition, IsTargetName}
use Rattle.cargo_platform.specs.Errors.{orig_of, fault_in}
use Rattle.cargo_platform.proofs.ConditionAnswers.{expression_fault, expression_span}
use Rattle.cargo_platform.proofs.TextLaws.{condition_laws, refused_answer, answer_back}
use Rattle.cargo_platform.proofs.TargetNames.{name_is_bare}
use Rattle.cargo_platform.proofs.Platform.from_str.Goals.{then-not-is_plain+in_default+in_default-first_refused}
use Rattle.cargo_platform.proofs.Platform.from_str.Goals.{else-not-is_plain}
use Rattle.cargo_platform.proofs.Platform.from_str.Goals as goal

pub returns-in-Ok : goal.returns-in-Ok
returns-in-Ok c =
    let answer : Result Platform ReadError = Ok (platform.Cfg c.in-Ok.expression) in
    let read : IsConditionText c.args.s.now (condition_of (platform.Cfg c.in-Ok.expression)) =
    (c.in-Some.inner.now, c.in-Some.ensures, c.in-Ok.ensures.tree) in
    record {
      condition = read;
      fault = tt;
      span = tt;
      well_formed = c.in-Ok.ensures.well_formed;
      refused = tt;
      reads_back = answer_back condition_laws condition_of c.args.s.now answer read tt;
    }

pub returns-in-Err : goal.returns-in-Err
returns-in-Err c =
    let answer : Result Platform ReadError = Err c.in-Err.error in
    let fault = expression_fault CfgExpr Platform c.args.s.now c.in-Some.inner.now c.in-Err.error c.in-Some.ensures
    c.in-Err.ensures.orig
    c.in-Err.ensures.fault in
    let none = refused_answer condition_laws {B = Platform} c.args.s.now answer fault in
    record {
      condition = tt;
      fault = fault;
      span =
          expression_span CfgExpr Platform c.args.s.now c.in-Some.inner.now c.in-Err.error c.in-Some.ensures
          c.in-Err.ensures.orig
          c.in-Err.ensures.span;
      well_formed = tt;
      refused = none;
      reads_back = answer_back condition_laws condition_of c.args.s.now answer tt none;
    }

pub returns-in-Ok-target_error : goal.returns-in-Ok-target_error
returns-in-Ok-target_error c =
    let answer : Result Platform ReadError = Err (errors.Parse c.in-Ok-target_error.error) in
    let e = c.in-Ok-target_error.error in
    let fault : IsRefusedCondition c.args.s.now (orig_of e) (fault_in e) =
    inr (c.in_default.ensures, c.in-Ok-target_error.ensures.of, c.in-Ok-target_error.ensures.why) in
    let none = refused_answer condition_laws {B = Platform} c.args.s.now answer fault in
    record {
      condition = tt;
      fault = fault;
      span =
          inr (
            c.in_default.ensures,
            c.in-Ok-target_error.ensures.of,
            c.in-Ok-target_error.ensures.why,
            c.in-Ok-target_error.ensures.place,
          );
      well_formed = tt;
      refused = none;
      reads_back = answer_back condition_laws condition_of c.args.s.now answer tt none;
    }

pub returns-in-Ok-from_str : goal.returns-in-Ok-from_str
returns-in-Ok-from_str c =
    let answer : Result Platform ReadError = Ok (platform.Name c.in-Ok-from_str.name) in
    let name : IsTargetName c.args.s.now = elim c.if-not-is_plain.branch [
      | then-not-is_plain+in_default+in_default-first_refused w ↦ w.in_default-first_refused.ensures
      | else-not-is_plain w ↦ c.is_plain.ensures w.if-not-is_plain.false
    ] in
    let read : IsConditionText c.args.s.now (condition_of (platform.Name c.in-Ok-from_str.name)) =
    (c.in-Ok-from_str.ensures.ok, name_is_bare c.args.s.now name, name) in
    record {
      condition = read;
      fault = tt;
      span = tt;
      well_formed = subst IsTargetName (sym c.in-Ok-from_str.ensures.ok) name;
      refused = tt;
      reads_back = answer_back condition_laws condition_of c.args.s.now answer read tt;
    }
