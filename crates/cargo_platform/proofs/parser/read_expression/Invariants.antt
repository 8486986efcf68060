use Rattle.std.proofs.Common.{◌≡◌}
use Rattle.cargo_platform.specs.Spelling.{Expressions}
use Rattle.cargo_platform.specs.Walk.{start}
use Rattle.cargo_platform.specs.Inside.Ahead.{bytes_left}
use Rattle.cargo_platform.specs.Inside.Parsing.{stack, at_done, Reads, IsClearAfter}
use Rattle.cargo_platform.proofs.parser.read_expression.Given as goal

-- what was read opened the groups, and ended the expression that is after them
abbrev pub invariant-groups : goal.invariant-groups
invariant-groups l = record {
  same_text : l.reader.ahead.text ≡ l.fn.reader.ahead.text;
  reads : Reads Expressions l.fn.reader.ahead l.reader.ahead start (at_done (stack l.groups) l.done);
  clear : IsClearAfter l.done l.reader.ahead;
}

abbrev pub decreases-groups : goal.decreases-groups
decreases-groups l = bytes_left l.reader.ahead
