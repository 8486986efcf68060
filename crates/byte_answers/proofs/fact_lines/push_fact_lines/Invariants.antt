-- Each fact so far has its line.
use Rattle.std.proofs.Common.{◌≡◌, ◌++◌, map, take, string_bytes}
use Rattle.cargo_platform.specs.Trees.{value_of}
use Rattle.byte_answers.specs.Answers.{fact_lines}
use Rattle.byte_answers.proofs.fact_lines.push_fact_lines.Given as goal

abbrev pub invariant-loop-fact : goal.invariant-loop-fact
invariant-loop-fact l =
    string_bytes l.text ≡ string_bytes l.initial.text ++ fact_lines (map value_of (take l.fact-index l.facts))
