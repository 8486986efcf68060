use Rattle.std.proofs.Common.{◌≡◌, ◌∙◌, sym, ap, subst, ◌-◌, suc, reverse, [], ◌∷◌, arith}
use Rattle.exact_answers.proofs.Ahead.{AreJoined, IsGathered, first_joined, next_joined, none_joined}
use Rattle.exact_answers.proofs.Ahead.{last_first, nothing}
use Rattle.exact_answers.proofs.outlook.gathered.Goals as goal

pub findings-init : goal.findings-init
findings-init c = λ table i bs low cov.
    first_joined table c.args.each c.args.count _ _ i bs (c.literal-finding.ensures table i low) cov

pub findings-preserved : goal.findings-preserved
findings-preserved c = λ table i bs low cov.
    let more : suc (c.findings.left - 1) ≡ c.findings.left = omega (arith, c.findings-test.true) in
    let all : reverse c.findings.findings.items ≡ c.in-Some.other ∷ reverse c.pop.new.self.items =
    ap reverse c.in-Some.ensures.items ∙ last_first c.pop.new.self.items c.in-Some.other in
    next_joined table c.args.each c.args.count (c.findings.left - 1) c.findings.finding c.in-Some.other
    c.joined-finding.result (reverse c.pop.new.self.items) i bs (c.joined-finding.ensures table i)
    (subst (λ fs. AreJoined table c.args.each c.args.count (suc (c.findings.left - 1)) c.findings.finding fs i bs) all
    (subst (λ n. AreJoined table c.args.each c.args.count n c.findings.finding (reverse c.findings.findings.items) i bs)
    (sym more) (c.findings.invariant table i bs low cov)))

pub returns-in-None : goal.returns-in-None
returns-in-None c = λ table l bs low cov.
    let old : reverse c.findings.findings.items ≡ [] =
    ap reverse (nothing c.findings.findings.items (sym c.findings.findings.ok.0 ∙ c.in-None.ensures.cases.0)) in
    let new : [] ≡ reverse c.pop.new.self.items =
    sym (ap reverse (nothing c.pop.new.self.items (sym c.pop.new.self.ok.0 ∙ c.in-None.ensures.cases.1))) in
    subst (λ fs. IsGathered table c.args.each c.args.count c.findings.finding fs l bs) new
    (none_joined table c.args.each c.args.count c.findings.left c.findings.finding l bs
    (subst (λ fs. AreJoined table c.args.each c.args.count c.findings.left c.findings.finding fs l bs) old
    (c.findings.invariant table l bs low cov)))
