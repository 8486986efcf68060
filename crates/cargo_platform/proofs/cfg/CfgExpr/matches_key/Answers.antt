use Rattle.std.proofs.Common.{sym, subst, ◌∙◌, ℕ, List, map}
use Rattle.cargo_platform.specs.Trees.{value_of}
use Rattle.cargo_platform.specs.Facts.{fact_set}
use Rattle.cargo_platform.specs.Spelling.{IsTreeText}
use Rattle.cargo_platform.proofs.Conditions.{one_inner, none_true}
use Rattle.cargo_platform.proofs.cfg.CfgExpr.matches_key.Goals as goal

pub returns-in_default-clause-otherwise : goal.returns-in_default-clause-otherwise
returns-in_default-clause-otherwise c = λ no_truth e q. absurd (c.in_default.ensures q.0 q.1)

pub returns-in-Ok-clause-yes : goal.returns-in-Ok-clause-yes
returns-in-Ok-clause-yes c = λ yes'.
    let a = c.in-Ok.ensures.truth in
    (a.0, (c.in-Some.inner.now, c.in-Some.ensures, a.1), sym a.2 ∙ yes')

pub returns-in-Ok-clause-otherwise : goal.returns-in-Ok-clause-otherwise
returns-in-Ok-clause-otherwise c =
    let a = c.in-Ok.ensures.truth in
    none_true c.args.key.now (fact_set (map value_of c.args.cfg.now)) a.0 c.in-Ok.is_true
    (c.in-Some.inner.now, c.in-Some.ensures, a.1) a.2

pub returns-in-Err-Parse-clause-otherwise : goal.returns-in-Err-Parse-clause-otherwise
returns-in-Err-Parse-clause-otherwise c = λ no_truth e q.
    let refused = rw c.in-Err-Parse.field-0-is at c.in-Err-Parse.ensures.refused in
    let T : List ℕ → Type 0 = λ z. IsTreeText z e in
    absurd (refused e (subst T (one_inner c.args.key.now q.0 c.in-Some.inner.now q.1 c.in-Some.ensures) q.2))
