use Rattle.std.proofs.Common.{◌≡◌, ◌<◌, length, List, ℕ, ◌+◌, ◌∙◌, ap, subst, sym, Option, Bor, arith}
use Rattle.std.proofs.lemmas.List.{take_all}
use Rattle.std.specs.Option.{option_copied}
use Rattle.declared_features.specs.Lists.{HasJust}
use Rattle.declared_features.specs.Manifests.{features_in}
use Rattle.declared_features.specs.Members.{SomeStandsFor, HasListsOf}
use Rattle.declared_features.specs.Inside.Names.{index_in}
use Rattle.declared_features.specs.declared.entries.FeatureEntry.{FeatureEntry}
use Rattle.declared_features.specs.declared.manifests.Feature.{Feature}
use Rattle.declared_features.specs.declared.manifests.PackageDeclaration.{PackageDeclaration}
use Rattle.declared_features.proofs.Describing.{lists_none, lists_more}
use Rattle.declared_features.proofs.Placing.{length_push}
use Rattle.declared_features.proofs.linking.Lists.of_features.Goals as goal

pub features-init : goal.features-init
features-init c =
    let self = c.args.self.now in (
      ap length c.new-features.ensures.items,
      lists_none (SomeStandsFor (index_in self.names.now) self.node self.found.now)
          c.in-Some.manifest.now.features.items c.new-features.result.items,
    )

pub features-preserved : goal.features-preserved
features-preserved c =
    let self = c.args.self.now in
    let fs = c.in-Some.manifest.now.features in
    let i = c.features.i in
    let IsMember = SomeStandsFor (index_in self.names.now) self.node self.found.now in
    let below : i < length fs.items = omega (arith, c.features-test.true, c.len-i-end.ensures, fs.ok.0) in
    let just =
    subst (λ (es : List FeatureEntry). HasJust c.in_ok-members.members.items (IsMember es)) c.deref.ensures.value
    c.in_ok-members.ensures in (
      ap length c.in_ok-push.ensures.items ∙ length_push c.features.features.items c.in_ok-members.members
          ∙ ap (λ (n : ℕ). n + 1) c.features.invariant.0,
      lists_more IsMember fs.items i c.index.result.now c.features.features.items c.push.new.self.items
          c.in_ok-members.members below c.index.ensures c.features.invariant.0 c.in_ok-push.ensures.items just
          c.features.invariant.1,
    )

pub returns-clause-count : goal.returns-clause-count
returns-clause-count c =
    let fs = c.in-Some.manifest.now.features in
    subst (λ (o : Option (Bor PackageDeclaration)). length c.features.features.items ≡ length
    (features_in (option_copied o)))
    (sym c.in-Some.is)
    (omega
    (arith, c.features.invariant.0, c.features-test.false, c.features.auto.i-end, c.len-i-end.ensures, fs.ok.0))

pub returns-clause-lists : goal.returns-clause-lists
returns-clause-lists c =
    let self = c.args.self.now in
    let fs = c.in-Some.manifest.now.features in
    let IsMember = SomeStandsFor (index_in self.names.now) self.node self.found.now in
    subst (λ (o : Option (Bor PackageDeclaration)). HasListsOf IsMember (features_in (option_copied o))
    c.features.features.items)
    (sym c.in-Some.is)
    (subst (λ (fs : List Feature). HasListsOf IsMember fs c.features.features.items)
    (take_all c.features.i fs.items (omega (arith, c.features-test.false, c.len-i-end.ensures, fs.ok.0)))
    c.features.invariant.1)
