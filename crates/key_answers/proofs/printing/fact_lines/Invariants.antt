-- Each fact so far has its line.
use Rattle.std.proofs.Common.{◌≡◌, flat_map, map, take, string_bytes}
use Rattle.cargo_platform.specs.Trees.{value_of}
use Rattle.key_answers.specs.Printing.{fact_line}
use Rattle.key_answers.proofs.printing.fact_lines.Given as goal

abbrev pub invariant-loop-fact : goal.invariant-loop-fact
invariant-loop-fact l = string_bytes l.text ≡ flat_map fact_line (map value_of (take l.fact-index l.facts))
