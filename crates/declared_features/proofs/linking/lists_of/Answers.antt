use Rattle.std.proofs.Common.{◌≡◌, ℕ, Option, List, ◌∷◌, [], length, subst, sym, ◌∙◌, ap}
use Rattle.cargo_features.specs.declared.packages.FeatureValue.{FeatureValue}
use Rattle.declared_features.specs.Edges.{name_at}
use Rattle.declared_features.specs.Manifests.{features_in, features_at}
use Rattle.declared_features.specs.Members.{SomeStandsFor, HasListsOf}
use Rattle.declared_features.specs.Requested.{is_concerned, AreRequested}
use Rattle.declared_features.specs.Inside.Names.{index_in}
use Rattle.declared_features.specs.declared.manifests.PackageDeclaration.{PackageDeclaration}
use Rattle.declared_features.proofs.Describing.{lists_grown, last_pushed}
use Rattle.declared_features.proofs.linking.lists_of.Goals as goal

pub returns-clause-lists : goal.returns-clause-lists
returns-clause-lists c =
    let lists = c.args.lists.now in
    let IsMember = SomeStandsFor (index_in lists.names.now) lists.node lists.found.now in
    lists_grown IsMember (features_at c.args.graph.now.declared.now lists.node) c.in_ok-features.features.items
    c.push.new.self.items (c.in_ok-members.members ∷ []) c.in_ok-push.ensures.items
    (subst (λ (o : Option PackageDeclaration). HasListsOf IsMember (features_in o) c.in_ok-features.features.items)
    c.package_of.ensures c.in_ok-features.ensures.lists)

pub returns-clause-last : goal.returns-clause-last
returns-clause-last c =
    let graph = c.args.graph.now in
    let lists = c.args.lists.now in
    let requested = c.args.requested.now in
    let features = c.in_ok-features.features in
    let members = c.in_ok-members.members in
    let count : ℕ = length (features_at graph.declared.now lists.node) in
    let same : length features.items ≡ count =
    c.in_ok-features.ensures.count ∙ ap (λ (o : Option PackageDeclaration). length (features_in o))
    c.package_of.ensures in
    let Requested : List ℕ → ℕ → List FeatureValue → Type 0 =
    λ name n ms. AreRequested requested name (index_in lists.names.now) lists.node lists.found.now n ms in
    last_pushed (is_concerned requested lists.node c.args.unit.now) (Requested (name_at graph lists.node) count) count
    features.items c.push.new.self.items members (sym c.concerns.ensures ∙ c.if-not-concerns.false) same
    c.in_ok-push.ensures.items
    (subst (λ (name : List ℕ). Requested name count members.items) c.name-package.ensures
    (subst (λ (n : ℕ). Requested c.name-package.result.now n members.items)
    (c.len-count.ensures ∙ features.ok.0 ∙ same) c.in_ok-members.ensures))
