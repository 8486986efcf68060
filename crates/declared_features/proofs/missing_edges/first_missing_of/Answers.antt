use Rattle.std.proofs.Common.{◌≡◌, ◌<◌, ◌≤◌, ◌+◌, ◌∙◌, ◌⊎◌, inl, inr, ℕ, List, Option, Some, None, Bor, Vec, Global}
use Rattle.std.proofs.Common.{Bool, true, false}
use Rattle.std.proofs.Common.{length, take, get_or, sym, refl, ap, subst, arith, map}
use Rattle.std.specs.Prelude.{Any}
use Rattle.cargo_features.specs.Inside.Numbered.{AreNumbers}
use Rattle.serde_json.specs.View.{view}
use Rattle.declared_features.specs.Manifests.{dependencies_in, features_in}
use Rattle.declared_features.specs.NameSets.{HasJustNames}
use Rattle.declared_features.specs.declared.manifests.PackageDeclaration.{PackageDeclaration}
use Rattle.declared_features.specs.MissingEdges.{IsNewlyEnabled, IsTurnedOnIn, IsFirst}
use Rattle.declared_features.proofs.First.{none_next, none_end, first_here}
use Rattle.declared_features.proofs.Missing.{TurnedOn, newly_from, newly_names}
use Rattle.declared_features.proofs.missing_edges.first_missing_of.Goals as goal

pub returns-then-branch-clause-found : goal.returns-then-branch-clause-found
returns-then-branch-clause-found c numbers =
    let graph = c.args.searched.now.graph in
    let node = c.args.node in
    let resolved = c.args.resolved.now in
    let requested = c.args.requested.now in
    let ds = c.in-Some.manifest.now.dependencies in
    let d = c.index-declared.result.now in
    let P = IsNewlyEnabled graph resolved requested node in
    let below : c.declared.i < length ds.items = omega (arith, c.declared-test.true, c.len-i-end.ensures, ds.ok.0) in
    let before : HasJustNames c.in_ok-in_document.in_document (TurnedOn graph node) =
    subst (λ (o : Option PackageDeclaration). HasJustNames c.in_ok-in_document.in_document
    (IsTurnedOnIn (view graph.document.now) node (features_in o))) c.in-Some.ensures c.in_ok-in_document.ensures in
    let found = c.in_ok-is_missing.ensures.0 c.if-branch.true in
    let is : P d =
    newly_from graph resolved requested node d c.in_ok-by_features.by_features c.in_ok-in_document.in_document
    (c.in_ok-by_features.ensures numbers) before found.0 (found.1, found.2) in
    subst (λ (o : Option PackageDeclaration). IsFirst P (dependencies_in o) d) c.in-Some.ensures
    (first_here P ds.items c.declared.i d below c.index-declared.ensures is (c.declared.invariant numbers))

pub declared-preserved : goal.declared-preserved
declared-preserved c numbers =
    let graph = c.args.searched.now.graph in
    let node = c.args.node in
    let resolved = c.args.resolved.now in
    let requested = c.args.requested.now in
    let ds = c.in-Some.manifest.now.dependencies in
    let d = c.index-declared.result.now in
    let below : c.declared.i < length ds.items = omega (arith, c.declared-test.true, c.len-i-end.ensures, ds.ok.0) in
    let before : HasJustNames c.in_ok-in_document.in_document (TurnedOn graph node) =
    subst (λ (o : Option PackageDeclaration). HasJustNames c.in_ok-in_document.in_document
    (IsTurnedOnIn (view graph.document.now) node (features_in o))) c.in-Some.ensures c.in_ok-in_document.ensures in
    none_next (IsNewlyEnabled graph resolved requested node) ds.items c.declared.i d below c.index-declared.ensures
    (λ is.
    let names =
    newly_names graph resolved requested node d c.in_ok-by_features.by_features c.in_ok-in_document.in_document
    (c.in_ok-by_features.ensures numbers) before is in
    let yes = c.in_ok-is_missing.ensures.1 (names, is.library, is.no_edge) in
    let no = c.if-branch.false in
    cc)
    (c.declared.invariant numbers)

pub returns-clause-none : goal.returns-clause-none
returns-clause-none c numbers =
    let P = IsNewlyEnabled c.args.searched.now.graph c.args.resolved.now c.args.requested.now c.args.node in
    let ds = c.in-Some.manifest.now.dependencies in
    let past : length ds.items ≤ c.declared.i = omega (arith, c.declared-test.false, c.len-i-end.ensures, ds.ok.0) in
    subst (λ (o : Option PackageDeclaration). ¬ Any P (dependencies_in o)) c.in-Some.ensures
    (none_end P ds.items c.declared.i past (c.declared.invariant numbers))
