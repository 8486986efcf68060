use Rattle.std.proofs.Common.{refl, sym}
use Rattle.workspaces.proofs.patterns.some_matches.Goals as goal

pub returns-then-branch : goal.returns-then-branch
returns-then-branch c = (
  λ h. (
    c.pattern-item.result,
    (c.loop-pattern.pattern-index, c.loop-pattern-test.true, sym c.pattern-item.is),
    c.in_ok-matches.ensures.0 c.if-branch.true,
  ),
  λ h. refl,
)
