use Rattle.std.proofs.Common.{List, subst}
use Rattle.std.specs.Prelude.{◌↔◌, IsTrue}
use Rattle.workspaces.specs.Members.{IsMatchedBySome}
use Rattle.workspaces.specs.declared.patterns.Pattern.{Pattern}
use Rattle.workspaces.proofs.Without.{without}
use Rattle.workspaces.proofs.member_rules.MemberRules.contains.Goals as goal

pub returns : goal.returns
returns c =
    without c.in_ok-is_taken.is_taken c.in_ok-is_excluded.is_excluded c.holds_without.result
    (subst (λ (ps : List Pattern). IsTrue c.in_ok-is_taken.is_taken ↔ IsMatchedBySome ps c.args.path.now)
    c.deref.ensures.value c.in_ok-is_taken.ensures)
    c.in_ok-is_excluded.ensures
    c.holds_without.ensures
