use Rattle.std.proofs.Common.{take}
use Rattle.std.specs.Fmt.{HasWritten, IsPlainFormatter}
use Rattle.spdx_expressions.specs.Trees.{pieces}
use Rattle.spdx_expressions.specs.Print.{print}
use Rattle.spdx_expressions.proofs.display.write_parts.Given as goal

abbrev pub invariant-loop-part : goal.invariant-loop-part
invariant-loop-part g l =
    IsPlainFormatter l.initial.f
    → HasWritten g.W.Write.write_str_gives l.initial.f (print (pieces (take l.part-index l.parts))) l.f
