-- The rest is what follows the lines that were passed.
use denote.Shadow.{shadow}
use denote.Text.{Utf8}
use Rattle.std.proofs.Common.{ℕ, ◌+◌, ◌≡◌}
use Rattle.cargo_platform.specs.Inside.LineStarts.{IsBehind}
use Rattle.cargo_platform.proofs.fact_lines.behind_lines.Given as goal

abbrev pub invariant-lines : goal.invariant-lines
invariant-lines l =
    ((passed : ℕ) × IsBehind l.text passed l.rest × (passed + l.left ≡ l.many)) × shadow (Utf8 l.rest)

abbrev pub decreases-lines : goal.decreases-lines
decreases-lines l = l.left
