use Rattle.std.proofs.Common.{◌≡◌, ◌-◌, ◌∷◌, ◌∙◌, [], ap, sym, subst, length, ◌<◌, ℕ, List, get_or, Vec, Global, rules}
use Rattle.std.specs.Prelude.{All, map}
use Rattle.cargo_features.specs.declared.packages.Dependency.{Dependency}
use Rattle.package_graphs.specs.declared.packages.Kind.TheVariants.{Normal}
use Rattle.declared_features.specs.Activation.{is_dev, request_of, IsUnused}
use Rattle.declared_features.proofs.Activating.{Request, passed_over, copied, all_unused}
use Rattle.declared_features.proofs.requested.activating.Goals as goal
use Rattle.declared_features.proofs.requested.activating.Goals.{in-Dev, in_default}
use Rattle.declared_features.proofs.requested.activating.Goals.{then-matches+in_ok-unused-2+in_ok-push-2, else-matches}

pub dependencies-preserved : goal.dependencies-preserved
dependencies-preserved c =
    let ds = c.args.unit.now.dependencies.items in
    let i = c.dependencies.it-index in
    let d = c.it-item.result in
    let first : Request = (c.args.index, Normal, (length c.args.unit.now.features.items - 1) ∷ []) in
    let below = subst (λ (l : List Dependency). i < length l) c.deref-it-items.ensures.value c.dependencies-test.true in
    let is = subst (λ (l : List Dependency). d ≡ get_or l i d) c.deref-it-items.ensures.value c.it-item.is in
    let items = λ (v : Vec Dependency Global). v.items in
    let dev : is_dev d.kind ≡ c.match-matches.matches =
    elim c.match-matches.branch [ in-Dev w ↦ search rules | in_default w ↦ search rules ] in
    elim c.if-matches.branch [
      | then-matches+in_ok-unused-2+in_ok-push-2 w ↦
          let pushed = ap items w.dependencies-is ∙ w.in_ok-push-2.ensures.items in (
            copied ds i d first c.dependencies.dependencies.items c.if-matches.dependencies.items
                w.in_ok-unused-2.field-0 below is (dev ∙ w.if-matches.true) pushed
                (w.in_ok-unused-2.ensures.request ∙ ap (λ (l : List ℕ). (d.to, d.kind, l)) w.deref.ensures.value)
                c.dependencies.invariant.0,
            all_unused c.dependencies.dependencies.items c.if-matches.dependencies.items w.in_ok-unused-2.field-0 pushed
                c.dependencies.invariant.1 w.in_ok-unused-2.ensures.unused,
          )
      | else-matches w ↦
          let same = ap items w.dependencies-is in (
            passed_over ds i d first (map request_of c.if-matches.dependencies.items) below is
                (dev ∙ w.if-matches.false) (ap (map request_of) same ∙ c.dependencies.invariant.0),
            subst (All IsUnused) (sym same) c.dependencies.invariant.1,
          )
    ]
