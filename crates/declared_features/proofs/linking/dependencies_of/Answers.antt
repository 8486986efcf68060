use Rattle.std.proofs.Common.{◌≡◌, ◌<◌, ◌≤◌, ◌∙◌, ◌+◌, ◌⊎◌, inl, inr, length, List, Option, Some, None, Bor, Vec}
use Rattle.std.proofs.Common.{Global, take, subst, sym, refl, ap, arith}
use Rattle.std.specs.Prelude.{slice_get, Contains}
use Rattle.std.specs.Option.{option_copied}
use Rattle.std.proofs.lemmas.List.{take_all, length-take}
use Rattle.std.proofs.lemmas.Option.{slice_get_read}
use Rattle.declared_features.specs.Lists.{MatchesJust}
use Rattle.declared_features.specs.Manifests.{manifest_at, dependencies_in}
use Rattle.declared_features.specs.Requests.{IsLink, IsNamedOf}
use Rattle.declared_features.specs.Inside.Links.{IsLinkBelow}
use Rattle.declared_features.specs.Inside.Names.{index_in}
use Rattle.declared_features.specs.declared.declaring.DependencyRow.{DependencyRow}
use Rattle.declared_features.specs.declared.linking.Named.{Named}
use Rattle.declared_features.specs.declared.manifests.DeclaredDependency.{DeclaredDependency}
use Rattle.declared_features.specs.declared.manifests.PackageDeclaration.{PackageDeclaration}
use Rattle.declared_features.proofs.Matching.{matches_none, matches_as, matches_more}
use Rattle.declared_features.proofs.Describing.{link_first, link_more, link_before, link_here, link_row, row_link}
use Rattle.declared_features.proofs.Placing.{element_at}
use Rattle.declared_features.proofs.linking.dependencies_of.Goals as goal
use Rattle.declared_features.proofs.linking.dependencies_of.Goals.{then-is_declared_as+in_ok-named+in_ok-push}
use Rattle.declared_features.proofs.linking.dependencies_of.Goals.{else-is_declared_as}

pub rows-init : goal.rows-init
rows-init c =
    let graph = c.args.graph.now in
    let rows = c.in_ok-rows.rows.items in
    matches_none (IsLink graph c.args.node (take 0 rows) c.in-Some.manifest.now.dependencies.items)
    (λ link found. IsNamedOf (index_in c.args.names.now) c.args.node link.0 link.1 found) c.new-found.result.items
    c.new-found.ensures.items
    (λ link is. let h = is.row_is in let inside = h.1 in omega (arith, inside, length-take 0 rows))

pub declared-init : goal.declared-init
declared-init c =
    let graph = c.args.graph.now in
    let rows = c.in_ok-rows.rows.items in
    let ds = c.in-Some.manifest.now.dependencies.items in
    matches_as (IsLink graph c.args.node (take c.rows.i rows) ds) (IsLinkBelow graph c.args.node rows c.rows.i ds 0)
    (λ link found. IsNamedOf (index_in c.args.names.now) c.args.node link.0 link.1 found) c.rows.found.items
    (λ link is. inl is) (λ link is. link_first graph c.args.node rows c.rows.i ds link is) c.rows.invariant

pub declared-preserved : goal.declared-preserved
declared-preserved c =
    let graph = c.args.graph.now in
    let node = c.args.node in
    let rows = c.in_ok-rows.rows in
    let ds = c.in-Some.manifest.now.dependencies in
    let i = c.rows.i in
    let j = c.declared.j in
    let row = c.index-row.result.now in
    let d = c.index-declared.result.now in
    let R : DependencyRow × DeclaredDependency → Named → Type 0 =
    λ link found. IsNamedOf (index_in c.args.names.now) node link.0 link.1 found in
    let items = λ (v : Vec Named Global). v.items in
    let row_below : i < length rows.items = omega (arith, c.rows-test.true, c.len-i-end.ensures, rows.ok.0) in
    let d_below : j < length ds.items = omega (arith, c.declared-test.true, c.len-j-end.ensures, ds.ok.0) in
    let row_at : slice_get rows.items i ≡ Some row =
    slice_get_read rows.items (length rows.items) i row refl row_below c.index-row.ensures in
    let d_at : slice_get ds.items j ≡ Some d =
    slice_get_read ds.items (length ds.items) j d refl d_below c.index-declared.ensures in
    elim c.if-is_declared_as.branch [
      | then-is_declared_as+in_ok-named+in_ok-push w ↦
          let belongs = c.is_declared_as.ensures.0 w.if-is_declared_as.true in
          matches_as (λ link. IsLinkBelow graph node rows.items i ds.items j link ⊎ ((row, d) ≡ link))
          (IsLinkBelow graph node rows.items i ds.items (j + 1)) R c.if-is_declared_as.found.items
          (λ link h.
          elim h [
            | inl before ↦ link_before graph node rows.items i ds.items j d d_at link before
            | inr here ↦ link_here graph node rows.items i row ds.items j d row_at d_at belongs link here
          ])
          (λ link h.
          elim (link_more graph node rows.items i row ds.items j d row_at d_at link h) [
            | inl before ↦ inl before
            | inr here ↦ inr here.0
          ])
          (matches_more (IsLinkBelow graph node rows.items i ds.items j) R c.declared.found.items
          c.if-is_declared_as.found.items (row, d) w.in_ok-named.named
          (ap items w.found-is ∙ w.in_ok-push.ensures.items) w.in_ok-named.ensures
          c.declared.invariant)
      | else-is_declared_as w ↦
          subst (λ (found : Vec Named Global). MatchesJust (IsLinkBelow graph node rows.items i ds.items
          (j + 1)) R found.items)
          (sym w.found-is)
          (matches_as (IsLinkBelow graph node rows.items i ds.items j)
          (IsLinkBelow graph node rows.items i ds.items (j + 1)) R c.declared.found.items
          (λ link h. link_before graph node rows.items i ds.items j d d_at link h)
          (λ link h.
          elim (link_more graph node rows.items i row ds.items j d row_at d_at link h) [
            | inl before ↦ before
            | inr here ↦
                absurd (let yes = c.is_declared_as.ensures.1 here.1 in let no = w.if-is_declared_as.false in cc)
          ])
          c.declared.invariant)
    ]

pub rows-preserved : goal.rows-preserved
rows-preserved c =
    let graph = c.args.graph.now in
    let node = c.args.node in
    let rows = c.in_ok-rows.rows in
    let ds = c.in-Some.manifest.now.dependencies in
    let i = c.rows.i in
    let j = c.declared.j in
    let row_below : i < length rows.items = omega (arith, c.rows-test.true, c.len-i-end.ensures, rows.ok.0) in
    let past : length ds.items ≤ j = omega (arith, c.declared-test.false, c.len-j-end.ensures, ds.ok.0) in
    let row = element_at rows.items i row_below in
    matches_as (IsLinkBelow graph node rows.items i ds.items j) (IsLink graph node (take (i + 1) rows.items) ds.items)
    (λ link found. IsNamedOf (index_in c.args.names.now) node link.0 link.1 found) c.declared.found.items
    (λ link h. link_row graph node rows.items i row.0 ds.items j row.1 past link h)
    (λ link h. row_link graph node rows.items i row.0 ds.items j row.1 past link h) c.declared.invariant

pub returns-in_default : goal.returns-in_default
returns-in_default c =
    let graph = c.args.graph.now in
    let node = c.args.node in
    let rows = c.in_ok-rows.rows.items in
    let none : manifest_at graph.declared.now node ≡ None =
    sym c.package_of.ensures ∙ ap (λ (o : Option (Bor PackageDeclaration)). option_copied o) c.in_default.is in
    record {
      rows = rows;
      rows_are = c.in_ok-rows.ensures;
      matches =
          matches_none (IsLink graph node rows (dependencies_in (manifest_at graph.declared.now node)))
          (λ link found. IsNamedOf (index_in c.args.names.now) node link.0 link.1 found) c.new-found.result.items
          c.new-found.ensures.items
          (λ link is.
          let h = subst (λ (o : Option PackageDeclaration). Contains (dependencies_in o) link.1) none is.declared_is in
          let inside = h.1 in
          omega arith);
    }

pub returns : goal.returns
returns c =
    let graph = c.args.graph.now in
    let node = c.args.node in
    let rows = c.in_ok-rows.rows in
    let ds = c.in-Some.manifest.now.dependencies.items in
    let R : DependencyRow × DeclaredDependency → Named → Type 0 =
    λ link found. IsNamedOf (index_in c.args.names.now) node link.0 link.1 found in
    let past : length rows.items ≤ c.rows.i =
    omega (arith, c.rows-test.false, c.len-i-end.ensures, rows.ok.0) in
    let whole : MatchesJust (IsLink graph node rows.items ds) R c.rows.found.items =
    subst (λ (l : List DependencyRow). MatchesJust (IsLink graph node l ds) R c.rows.found.items)
    (take_all c.rows.i rows.items past) c.rows.invariant in
    record {
      rows = rows.items;
      rows_are = c.in_ok-rows.ensures;
      matches =
          subst (λ (o : Option PackageDeclaration). MatchesJust (IsLink graph node rows.items
          (dependencies_in o)) R c.rows.found.items)
          c.in-Some.ensures whole;
    }
