use Rattle.std.proofs.Common.{◌≡◌, ◌<◌, ℕ, ◌+◌, ◌∷◌, ◌++◌, [], List, take, get_or, length, append_assoc, sym, ◌∙◌, ap}
use Rattle.std.proofs.Common.{subst}
use Rattle.std.proofs.lemmas.List.{take_more, get_or_default}
use Rattle.cargo_features.specs.declared.rules.Rule.{Rule}
use Rattle.cargo_features.specs.Inside.Numbered.{IsNumbered, AreNumbered}
use Rattle.cargo_features.specs.declared.claims.Step.{Step}
use Rattle.cargo_features.proofs.Pushing.{numbered_push}
use Rattle.cargo_features.proofs.Exact.{no_step}
use Rattle.cargo_features.proofs.resolved.add_rules.Goals as goal

pub steps-preserved : goal.steps-preserved
steps-preserved c before are =
    let ps = c.args.packages.now in
    let host = c.args.build.host in
    let steps = c.args.steps.now in
    let i = c.steps.step-index in
    let step = get_or steps i no_step in
    let old = c.steps.invariant before are in
    let pushed = numbered_push ps host (before ++ take i steps) c.steps.rules.items step c.rule_of.result old
    c.rule_of.ensures in
    let longer : (before ++ take i steps) ++ step ∷ [] ≡ before ++ take (i + 1) steps =
    append_assoc before (take i steps) (step ∷ [])
    ∙ ap (λ (ss : List Step). before ++ ss) (sym (take_more steps i no_step c.steps-test.true)) in
    subst (λ (rs : List Rule). AreNumbered ps host (before ++ take (i + 1) steps) rs)
    (sym {A = List Rule} c.in_ok-push.ensures.items)
    (subst (λ (ss : List Step). AreNumbered ps host ss (c.steps.rules.items ++ c.rule_of.result ∷ [])) longer pushed)
