use Rattle.std.proofs.Common.{◌≡◌, ◌++◌, string_bytes}
use Rattle.cargo_platform.specs.Lines.{line}
use Rattle.callers.proofs.Reports.{one_line, one_more_line}
use Rattle.callers.proofs.conditions.linter.push_lines.Goals as goal

pub loop-text-preserved : goal.loop-text-preserved
loop-text-preserved c =
    let next : string_bytes c.push_str-in-loop-text.new.self
    ≡ string_bytes c.loop-text.report ++ line (string_bytes c.text-item.result) =
    one_line _ _ _ _ _ c.in_ok-push_str.ensures.bytes c.deref.ensures c.in_ok-push_str-2.ensures.bytes in
    one_more_line (λ t. string_bytes t) c.args.texts.now _ c.text-item.result _ _ _ c.loop-text-test.true c.text-item.is
    c.loop-text.invariant next
