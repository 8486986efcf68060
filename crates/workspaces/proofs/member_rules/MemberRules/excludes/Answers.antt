use Rattle.std.proofs.Common.{List, subst}
use Rattle.std.specs.Prelude.{◌↔◌, IsTrue}
use Rattle.workspaces.specs.Members.{IsMatchedBySome}
use Rattle.workspaces.specs.declared.patterns.Pattern.{Pattern}
use Rattle.workspaces.proofs.Without.{without, neither}
use Rattle.workspaces.proofs.member_rules.MemberRules.excludes.Goals as goal

pub returns-then-not-is_below : goal.returns-then-not-is_below
returns-then-not-is_below c =
    neither c.in_ok-is_below.is_below
    (subst (λ (ps : List Pattern). IsTrue c.in_ok-is_below.is_below ↔ IsMatchedBySome ps c.args.path.now)
    c.deref.ensures.value c.in_ok-is_below.ensures)
    c.if-not-is_below.true

pub returns : goal.returns
returns c =
    without c.in_ok-is_below.is_below c.in_ok-is_named.is_named c.holds_without.result
    (subst (λ (ps : List Pattern). IsTrue c.in_ok-is_below.is_below ↔ IsMatchedBySome ps c.args.path.now)
    c.deref.ensures.value c.in_ok-is_below.ensures)
    (subst (λ (ps : List Pattern). IsTrue c.in_ok-is_named.is_named ↔ IsMatchedBySome ps c.args.path.now)
    c.deref-2.ensures.value c.in_ok-is_named.ensures)
    c.holds_without.ensures
