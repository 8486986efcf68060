use Rattle.std.proofs.Common.{◌≡◌, ◌<◌, ◌≤◌, ◌+◌, ◌∙◌, ◌⊎◌, inl, inr, ℕ, List, Option, Some, None, Bor, Vec, Global}
use Rattle.std.proofs.Common.{Bool, true, false}
use Rattle.std.proofs.Common.{length, take, get_or, sym, refl, ap, subst, arith, map}
use Rattle.std.specs.Prelude.{Any}
use Rattle.serde_json.specs.View.{view}
use Rattle.declared_features.specs.Manifests.{dependencies_in, features_in}
use Rattle.declared_features.specs.NameSets.{HasJustNames}
use Rattle.declared_features.specs.declared.manifests.DeclaredDependency.{DeclaredDependency}
use Rattle.declared_features.specs.declared.manifests.PackageDeclaration.{PackageDeclaration}
use Rattle.declared_features.specs.MissingEdges.{MayBeFiltered, IsFilteredOut, IsTurnedOnIn, IsFirst}
use Rattle.declared_features.proofs.First.{none_next, none_end, first_here}
use Rattle.declared_features.proofs.Missing.{any_as}
use Rattle.declared_features.proofs.missing_edges.first_filtered_of.Goals as goal

pub is_filtered_out-requires-clause-enabled : goal.is_filtered_out-requires-clause-enabled
is_filtered_out-requires-clause-enabled c =
    subst (λ (o : Option PackageDeclaration). HasJustNames c.in_ok-enabled.enabled
    (IsTurnedOnIn (view c.args.searched.now.graph.document.now) c.args.node (features_in o))) c.in-Some.ensures
    c.in_ok-enabled.ensures

pub returns-then-not-may_be_filtered_any-clause-none :
    goal.returns-then-not-may_be_filtered_any-clause-none
returns-then-not-may_be_filtered_any-clause-none c some =
    let graph = c.args.searched.now.graph in
    let ds = c.in-Some.manifest.now.dependencies.items in
    let here : Any (IsFilteredOut graph c.args.node) ds =
    subst (λ (o : Option PackageDeclaration). Any (IsFilteredOut graph c.args.node) (dependencies_in o))
    (sym c.in-Some.ensures)
    some in
    let may_be =
    any_as (IsFilteredOut graph c.args.node) (MayBeFiltered graph c.args.node) ds (λ d is. is.may_be) here in
    let yes =
    c.may_be_filtered_any.ensures
    (subst (λ (l : List DeclaredDependency). Any (MayBeFiltered graph c.args.node) l) (sym c.deref.ensures.value)
    may_be) in
    let no = c.if-not-may_be_filtered_any.true in
    cc

pub returns-then-is_filtered_out-clause-found : goal.returns-then-is_filtered_out-clause-found
returns-then-is_filtered_out-clause-found c =
    let P = IsFilteredOut c.args.searched.now.graph c.args.node in
    let ds = c.in-Some.manifest.now.dependencies in
    let d = c.index-declared.result.now in
    let below : c.declared.i < length ds.items = omega (arith, c.declared-test.true, c.len-i-end.ensures, ds.ok.0) in
    subst (λ (o : Option PackageDeclaration). IsFirst P (dependencies_in o) d) c.in-Some.ensures
    (first_here P ds.items c.declared.i d below c.index-declared.ensures
    (c.is_filtered_out.ensures.0 c.if-is_filtered_out.true) c.declared.invariant)

pub declared-preserved : goal.declared-preserved
declared-preserved c =
    let ds = c.in-Some.manifest.now.dependencies in
    let below : c.declared.i < length ds.items = omega (arith, c.declared-test.true, c.len-i-end.ensures, ds.ok.0) in
    none_next (IsFilteredOut c.args.searched.now.graph c.args.node) ds.items c.declared.i c.index-declared.result.now
    below
    c.index-declared.ensures
    (λ is. let yes = c.is_filtered_out.ensures.1 is in let no = c.if-is_filtered_out.false in cc) c.declared.invariant

pub returns-clause-none : goal.returns-clause-none
returns-clause-none c =
    let P = IsFilteredOut c.args.searched.now.graph c.args.node in
    let ds = c.in-Some.manifest.now.dependencies in
    let past : length ds.items ≤ c.declared.i = omega (arith, c.declared-test.false, c.len-i-end.ensures, ds.ok.0) in
    subst (λ (o : Option PackageDeclaration). ¬ Any P (dependencies_in o)) c.in-Some.ensures
    (none_end P ds.items c.declared.i past c.declared.invariant)
