use Rattle.std.proofs.Common.{◌≡◌, ◌++◌, string_bytes}
use Rattle.platform_answers.specs.Answering.{warning_line}
use Rattle.platform_answers.proofs.Outputs.{one_line, one_more_line}
use Rattle.platform_answers.proofs.answering.push_warnings.Goals as goal

pub loop-warning-preserved : goal.loop-warning-preserved
loop-warning-preserved c =
    let next : string_bytes c.push_str-in-loop-warning-2.new.self ≡ string_bytes c.loop-warning.text ++ warning_line
    (string_bytes c.warning-item.result) =
    one_line _ _ _ _ _ _ c.in_ok-push_str.ensures.bytes c.in_ok-push_str-2.ensures.bytes c.deref.ensures
    c.in_ok-push_str-3.ensures.bytes in
    one_more_line
    (λ w. string_bytes w) c.args.warnings.now _ c.warning-item.result _ _ _ c.loop-warning-test.true
    c.warning-item.is c.loop-warning.invariant next
