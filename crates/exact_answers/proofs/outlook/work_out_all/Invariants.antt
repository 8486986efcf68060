use Rattle.std.proofs.Common.{◌≡◌, ℕ, ◌<◌, Bool, List, [], reverse, drop}
use Rattle.std.specs.List.{All}
use Rattle.cargo_platform.specs.Facts.{FactSet}
use Rattle.exact_answers.specs.Inside.Ahead.{Fits, Covers, worked_out}
use Rattle.exact_answers.proofs.outlook.work_out_all.Given as goal

-- the findings are those of what is worked out so far
abbrev pub invariant-loop-operation : goal.invariant-loop-operation
invariant-loop-operation l = (s : FactSet) (i : ℕ) → i < 64 → All (Fits s i) l.table
    → (bs : List Bool) × Covers l.table i (reverse l.findings.items) bs
    × (worked_out s (drop l.operation-index l.operations) bs ≡ worked_out s l.operations [])
