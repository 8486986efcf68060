use Rattle.std.proofs.Common.{◌∙◌, ap, ◌++◌, inl, inr, map, string_bytes, codes, true, false}
use Rattle.std.specs.Prelude.{if◌then◌else◌}
use Rattle.std.proofs.lemmas.Result.{IfOk-weaker}
use Rattle.cargo_platform.specs.Trees.{value_of, condition_of}
use Rattle.cargo_platform.specs.Facts.{fact_set}
use Rattle.cargo_platform.specs.Print.{print_condition}
use Rattle.cargo_platform.specs.Errors.{orig_of, fault_in}
use Rattle.callers.specs.Reports.{IsLineOn}
use Rattle.callers.proofs.conditions.describe.describe.Goals as goal

pub returns-in-Ok : goal.returns-in-Ok
returns-in-Ok c =
    let p = condition_of c.in-Ok.platform in
    let facts = fact_set (map value_of c.args.facts.now) in
    IfOk-weaker c.format.result _ (λ line. IsLineOn c.args.key.now c.args.target.now facts (string_bytes line))
    (λ line h. inl (
      p,
      c.in-Ok.ensures.condition,
      h
          ∙ ap (λ b. print_condition p ++ (codes ": " ++ (if b then codes "true" else codes "false")))
          c.matches-applies.ensures.truth,
    ))
    c.format.ensures.ok

pub returns-in-Err-Parse : goal.returns-in-Err-Parse
returns-in-Err-Parse c =
    let error = c.in-Err-Parse.error in
    let facts = fact_set (map value_of c.args.facts.now) in
    let read = rw c.in-Err-Parse.field-0-is at c.in-Err-Parse.ensures in
    IfOk-weaker c.format-in-Err-Parse.result _
    (λ line. IsLineOn c.args.key.now c.args.target.now facts (string_bytes line))
    (λ line h. inr (orig_of error, fault_in error, read.fault, h)) c.format-in-Err-Parse.ensures.ok
