use Rattle.std.proofs.Common.{◌≡◌, ◌<◌, ◌≤◌, ◌+◌, ℕ, length, get_or, sym, ◌∙◌, ap, subst, refl, inl, inr, arith}
use Rattle.std.proofs.lemmas.Bool.{cases_lt, lt-ltb, ltb-true}
use Rattle.cargo_features.specs.Holding.{feature_count, dependency_count}
use Rattle.package_graphs.specs.Packages.{node_of}
use Rattle.cargo_features.specs.Inside.Numbered.{first_of, number}
use Rattle.cargo_features.specs.declared.claims.Claim.{Claim}
use Rattle.cargo_features.specs.declared.claims.Claim.TheVariants as claim
use Rattle.cargo_features.proofs.Numbering.{told, told_none, features_read, dependencies_read}
use Rattle.cargo_features.proofs.numbers.Numbers.of.Goals as goal

pub returns-in-Active : goal.returns-in-Active
returns-in-Active c are =
    let ps = c.args.packages.now in
    let p = c.in-Active.index in
    let it : Claim = claim.Active p c.in-Active.side in
    let same : c.at.result ≡ number ps it =
    elim (cases_lt p (length ps)) as (λ _. c.at.result ≡ number ps it) [
      | inl inside ↦
          told ps c.args.self.now it p 0 c.in-Active.side c.at.result are (lt-ltb p (length ps) inside) inside refl
          c.at.ensures.there
      | inr past ↦
          told_none ps c.args.self.now it p c.at.result are (λ known. ltb-true p (length ps) known) past
          c.at.ensures.nowhere
    ] in
    same ∙ ap (λ (x : Claim). number ps x) (sym c.in-Active.is)

pub returns-in-Used : goal.returns-in-Used
returns-in-Used c are =
    let ps = c.args.packages.now in
    let p = c.in-Used.index in
    let it : Claim = claim.Used p c.in-Used.side in
    let same : c.at-in-Used.result ≡ number ps it =
    elim (cases_lt p (length ps)) as (λ _. c.at-in-Used.result ≡ number ps it) [
      | inl inside ↦
          told ps c.args.self.now it p 1 c.in-Used.side c.at-in-Used.result are (lt-ltb p (length ps) inside)
          inside refl
          c.at-in-Used.ensures.there
      | inr past ↦
          told_none ps c.args.self.now it p c.at-in-Used.result are (λ known. ltb-true p (length ps) known) past
          c.at-in-Used.ensures.nowhere
    ] in
    same ∙ ap (λ (x : Claim). number ps x) (sym c.in-Used.is)

pub returns-else-feature-len : goal.returns-else-feature-len
returns-else-feature-len c are =
    let ps = c.args.packages.now in
    let p = c.in-Feature.index in
    let f = c.in-Feature.feature in
    let it : Claim = claim.Feature p c.in-Feature.side f in
    let x = c.index-packages-index.result in
    let inside : p < length ps = c.if-index-packages.false in
    let read = features_read ps p x inside in
    let low : f < feature_count ps p =
    omega (arith, c.if-feature-len.false, c.len.ensures, (get_or ps p x).features.ok.0, read) in
    told ps c.args.self.now it p (f + 2) c.in-Feature.side c.at-in-Feature.result are
    (lt-ltb f (feature_count ps p) low) inside refl c.at-in-Feature.ensures.there
    ∙ ap (λ (x : Claim). number ps x) (sym c.in-Feature.is)

pub returns-else-dependency-len : goal.returns-else-dependency-len
returns-else-dependency-len c are =
    let ps = c.args.packages.now in
    let p = c.in-Dependency.index in
    let d = c.in-Dependency.dependency in
    let from = c.in-Dependency.side in
    let it : Claim = claim.Dependency p from d in
    let x = c.index-packages-index-else-index-packages-2.result in
    let y = c.index-packages-index-in-Dependency.result in
    let inside : p < length ps = c.if-index-packages-2.false in
    let read = dependencies_read ps p x inside in
    let other = features_read ps p y inside in
    let low : d < dependency_count ps p =
    omega (
      arith,
      c.if-dependency-len.false,
      c.len-else-index-packages-2.ensures,
      (get_or ps p
          x).dependencies.ok.0,
      read,
    ) in
    let many : c.len-features.result ≡ feature_count ps p =
    omega (arith, c.len-features.ensures, (get_or ps p y).features.ok.0, other) in
    told ps c.args.self.now it p ((c.len-features.result + d) + 2) from c.at-in-Dependency.result are
    (lt-ltb d (dependency_count ps p) low) inside
    (ap (λ (n : ℕ). first_of ps p + node_of ((n + d) + 2) from) (sym many)) c.at-in-Dependency.ensures.there
    ∙ ap (λ (x : Claim). number ps x) (sym c.in-Dependency.is)
