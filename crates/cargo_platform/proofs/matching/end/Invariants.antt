use Rattle.std.proofs.Common.{◌≤◌}
use Rattle.cargo_platform.specs.Facts.{FactSet}
use Rattle.cargo_platform.specs.Walk.{Position}
use Rattle.cargo_platform.specs.Inside.Ahead.{Ahead, bytes_left}
use Rattle.cargo_platform.specs.Inside.Matching.{words, Ends}
use Rattle.cargo_platform.proofs.matching.end.Given as goal

-- what ended when the function was called has come to an end that goes on from here
abbrev pub invariant-groups : goal.invariant-groups
invariant-groups l = record {
  ends : (fs : FactSet) (old : Ahead) (from : Position) → Ends fs old l.fn.reader.ahead from (words l.fn.levels) l.ended
      → Ends fs old l.reader.ahead from (words l.levels) l.is_true;
  shorter : bytes_left l.reader.ahead ≤ bytes_left l.fn.reader.ahead;
}

abbrev pub decreases-groups : goal.decreases-groups
decreases-groups l = bytes_left l.reader.ahead
