use Rattle.std.proofs.Common.{length, ◌-◌, ◌≡◌, ◌≤◌, drop}
use Rattle.std.specs.Str.{IsCharBoundary}
use Rattle.spdx_expressions.specs.Tokens.{tokens_from}
use Rattle.spdx_expressions.proofs.tokens.spaces_end.Given as goal

abbrev pub invariant-spaces : goal.invariant-spaces
invariant-spaces l = record {
  order : l.from ≤ l.at;
  boundary : IsCharBoundary l.text l.at;
  same : tokens_from l.from (drop l.from l.text) ≡ tokens_from l.at (drop l.at l.text);
}

abbrev pub decreases-spaces : goal.decreases-spaces
decreases-spaces l = length l.text - l.at
