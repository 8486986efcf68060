use Rattle.std.proofs.Common.{◌≡◌, ◌<◌, ℕ, ◌++◌, List, take, length, Vec, Global, ◌∙◌, ap, arith}
use Rattle.cargo_features.specs.Steps.{at_each, feature_steps}
use Rattle.cargo_features.specs.declared.claims.Step.{Step}
use Rattle.cargo_features.specs.declared.packages.FeatureValue.{FeatureValue}
use Rattle.cargo_features.proofs.Each.{at_each_more}
use Rattle.cargo_features.proofs.build.BuildOptions.features.Goals as goal

pub features-preserved : goal.features-preserved
features-preserved c =
    let steps = λ (i : ℕ) (members : List FeatureValue).
    feature_steps c.args.self c.args.unit.packages.now c.args.unit.at c.args.unit.package.now i members in
    let f = λ (i : ℕ) (members : Vec FeatureValue Global). steps i members.items in
    let lists = c.args.unit.package.now.features.items in
    let i = c.features.i in
    let members : Vec FeatureValue Global = c.index-members.result.now in
    let so_far = c.args.steps.now.items ++ at_each 0 f (take i lists) in
    let inside : i < length lists =
    omega (arith, c.features-test.true, c.len-i-end.ensures, c.args.unit.package.now.features.ok.0) in
    c.in_ok-feature.ensures
    ∙ ap (λ (ss : List Step). ss ++ steps i c.deref.result.now) c.features.invariant
    ∙ ap (λ (ms : List FeatureValue). so_far ++ steps i ms)
    (c.deref.ensures.value ∙ ap (λ (v : Vec FeatureValue Global). v.items) c.index-members.ensures)
    ∙ at_each_more c.args.steps.now.items f lists i members inside
