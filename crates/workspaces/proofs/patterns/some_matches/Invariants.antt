use Rattle.std.proofs.Common.{ℕ, ◌≡◌, ◌<◌, get_or}
use Rattle.workspaces.specs.Members.{IsMatchedBy}
use Rattle.workspaces.specs.declared.patterns.Pattern.{Pattern}
use Rattle.workspaces.proofs.patterns.some_matches.Given as goal

abbrev pub invariant-loop-pattern : goal.invariant-loop-pattern
invariant-loop-pattern l =
    (p : Pattern) (k : ℕ) → k < l.pattern-index → get_or l.patterns k p ≡ p → IsMatchedBy p l.path → ⊥
