use Rattle.std.proofs.Common.{◌≡◌, ℕ, ◌∙◌, ap, List, Option, arith}
use Rattle.declared_features.specs.Manifests.{feature_index, features_in, features_at}
use Rattle.cargo_metadata.specs.Indexes.{index_at}
use Rattle.declared_features.specs.declared.manifests.PackageDeclaration.{PackageDeclaration}
use Rattle.declared_features.proofs.Describing.{names_none, names_more, names_all}
use Rattle.declared_features.proofs.linking.Names.of.Goals as goal

pub nodes-init : goal.nodes-init
nodes-init c = names_none c.args.declarations.now c.new-features.result c.new-features.ensures.items

pub nodes-preserved : goal.nodes-preserved
nodes-preserved c =
    let d = c.args.declarations.now in
    let these : (q : List ℕ) → index_at c.in_ok-indexes.indexes q ≡ feature_index (features_at d c.nodes.node) q =
    λ q.
    c.in_ok-indexes.ensures q ∙ ap (λ (o : Option PackageDeclaration). feature_index (features_in o) q)
    c.package_of.ensures in
    names_more d c.nodes.node c.nodes.features c.push.new.self c.in_ok-indexes.indexes c.in_ok-push.ensures.items these
    c.nodes.invariant

pub returns : goal.returns
returns c =
    let d = c.args.declarations.now in
    names_all d c.nodes.node (record { features = c.nodes.features }) (omega
    (arith, c.nodes-test.false, c.node_count-node-end.ensures))
    c.nodes.invariant
