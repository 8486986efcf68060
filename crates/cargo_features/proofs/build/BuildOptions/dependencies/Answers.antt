use Rattle.std.proofs.Common.{◌≡◌, ◌<◌, ℕ, ◌++◌, List, length, append_assoc, take, ◌∙◌, ap, arith}
use Rattle.cargo_features.specs.Steps.{at_each, active_steps, used_steps}
use Rattle.cargo_features.specs.declared.claims.Step.{Step}
use Rattle.cargo_features.specs.declared.packages.Dependency.{Dependency}
use Rattle.cargo_features.proofs.Each.{at_each_more}
use Rattle.cargo_features.proofs.build.BuildOptions.dependencies.Goals as goal

pub dependencies-preserved : goal.dependencies-preserved
dependencies-preserved c =
    let active = λ (i : ℕ) (d : Dependency).
    active_steps c.args.self c.args.unit.packages.now c.args.unit.at c.args.unit.package.now i d in
    let used = λ (i : ℕ) (d : Dependency).
    used_steps c.args.self c.args.unit.packages.now c.args.unit.at c.args.unit.package.now i d in
    let f = λ (i : ℕ) (d : Dependency). active i d ++ used i d in
    let deps = c.args.unit.package.now.dependencies.items in
    let i = c.dependencies.i in
    let d : Dependency = c.index-dependency.result.now in
    let before : List Step = c.dependencies.steps.items in
    let inside : i < length deps = omega (
      arith,
      c.dependencies-test.true,
      c.len-i-end.ensures,
      c.args.unit.package.now.dependencies.ok.0,
    ) in
    c.in_ok-used.ensures
    ∙ ap (λ (ss : List Step). ss ++ used i d) c.in_ok-active.ensures
    ∙ append_assoc before (active i d) (used i d)
    ∙ ap (λ (ss : List Step). ss ++ f i d) c.dependencies.invariant
    ∙ ap (λ (x : Dependency). (c.args.steps.now.items ++ at_each 0 f (take i deps)) ++ f i x) c.index-dependency.ensures
    ∙ at_each_more c.args.steps.now.items f deps i d inside
