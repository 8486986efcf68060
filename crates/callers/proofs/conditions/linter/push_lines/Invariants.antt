-- Each text so far has its line.
use Rattle.std.proofs.Common.{◌≡◌, ◌++◌, map, take, string_bytes}
use Rattle.cargo_platform.specs.Lines.{ended}
use Rattle.callers.proofs.conditions.linter.push_lines.Given as goal

abbrev pub invariant-loop-text : goal.invariant-loop-text
invariant-loop-text l =
    string_bytes l.report ≡ string_bytes l.fn.report ++ ended (map (λ t. string_bytes t) (take l.text-index l.texts))
