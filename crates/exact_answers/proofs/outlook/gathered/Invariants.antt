use Rattle.std.proofs.Common.{ℕ, ◌<◌, Bool, List, reverse}
use Rattle.exact_answers.specs.declared.outlook.PairSets.{PairSets}
use Rattle.exact_answers.specs.Inside.Ahead.{Covers}
use Rattle.exact_answers.proofs.Ahead.{AreJoined}
use Rattle.exact_answers.proofs.outlook.gathered.Given as goal

-- what is joined so far
abbrev pub invariant-findings : goal.invariant-findings
invariant-findings l = (table : List PairSets) (i : ℕ) (bs : List Bool) → i < 64
    → Covers table i (reverse l.fn.findings.items) bs
    → AreJoined table l.each l.count l.left l.finding (reverse l.findings.items) i bs

abbrev pub decreases-findings : goal.decreases-findings
decreases-findings l = l.left
