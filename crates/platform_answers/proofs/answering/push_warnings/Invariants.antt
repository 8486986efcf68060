-- Each warning so far has its line.
use Rattle.std.proofs.Common.{◌≡◌, ◌++◌, flat_map, map, take, string_bytes}
use Rattle.platform_answers.specs.Answering.{warning_line}
use Rattle.platform_answers.proofs.answering.push_warnings.Given as goal

abbrev pub invariant-loop-warning : goal.invariant-loop-warning
invariant-loop-warning l =
    string_bytes l.text ≡ string_bytes l.fn.text ++ flat_map warning_line
    (map (λ w. string_bytes w) (take l.warning-index l.warnings))
