use Rattle.std.proofs.Common.{◌≡◌, ◌≤◌, ◌<◌, ℕ, ◌+◌, ◌++◌, List, take, length, append_assoc, sym, ◌∙◌, ap, subst, arith}
use Rattle.std.proofs.lemmas.List.{take_all}
use Rattle.cargo_features.specs.Steps.{at_each, steps_on_both}
use Rattle.cargo_features.specs.Inside.Numbered.{AreNumbered}
use Rattle.cargo_features.specs.declared.claims.Step.{Step}
use Rattle.cargo_features.specs.declared.packages.Package.{Package}
use Rattle.cargo_features.proofs.Each.{each_more}
use Rattle.cargo_features.proofs.resolved.all_rules.Goals as goal

pub packages-preserved : goal.packages-preserved
packages-preserved c =
    let ps = c.args.packages.now in
    let f = λ (p : ℕ) (unit : Package). steps_on_both c.args.build ps p unit in
    let i = c.packages.i in
    let so_far = at_each 0 f (take i ps) in
    subst (λ (ss : List Step). AreNumbered ps c.args.build.host ss c.add_rules.new.rules.items)
    (ap (λ (ss : List Step). so_far ++ ss) (c.deref.ensures.value ∙ c.in_ok-steps.ensures)
    ∙ ap (λ (u : Package). so_far ++ f i u) c.index-packages-i.is
    ∙ each_more f ps i c.index-packages-i.result c.packages-test.true)
    (c.in_ok-add_rules.ensures so_far c.packages.invariant)

pub returns : goal.returns
returns c =
    let ps = c.args.packages.now in
    let f = λ (p : ℕ) (unit : Package). steps_on_both c.args.build ps p unit in
    subst (λ (us : List Package). AreNumbered ps c.args.build.host (at_each 0 f us) c.packages.rules.items)
    (take_all c.packages.i ps c.packages-test.false) c.packages.invariant
