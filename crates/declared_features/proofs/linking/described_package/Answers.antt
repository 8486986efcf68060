use Rattle.std.proofs.Common.{ℕ, ◌-◌, ◌∷◌, [], List, cond, length, refl, subst, ap, ◌∙◌}
use Rattle.std.proofs.lemmas.Option.{slice_get_read}
use Rattle.declared_features.specs.Edges.{name_at}
use Rattle.declared_features.specs.Manifests.{features_at}
use Rattle.declared_features.specs.Members.{SomeStandsFor, HasListsOf}
use Rattle.declared_features.specs.Requested.{is_concerned, AreRequested, HasLast}
use Rattle.declared_features.specs.Inside.Names.{index_in}
use Rattle.declared_features.specs.declared.linking.Named.{Named}
use Rattle.declared_features.proofs.linking.described_package.Goals as goal

pub returns : goal.returns
returns c =
    let graph = c.args.graph.now in
    let units = graph.linked.now.packages in
    let unit = c.index-unit.result.now in
    let at = index_in c.args.names.now in
    let node = c.args.node in
    let declared = features_at graph.declared.now node in
    let requested = c.args.requested.now in
    let lists = c.in_ok-features.features in
    record {
      unit = unit;
      there = slice_get_read units.items (length units.items) node unit refl c.requires c.index-unit.ensures;
      root = refl;
      macro = refl;
      found = c.in_ok-found.found.items;
      found_are = c.in_ok-found.ensures;
      dependencies = c.in_ok-dependencies.ensures.dependencies;
      edges_are = c.in_ok-dependencies.ensures.edges;
      features =
          subst (λ (l : List Named). HasListsOf (SomeStandsFor at node l) declared lists.items)
          c.deref.ensures.value c.in_ok-features.ensures.lists;
      last =
          subst (λ (l : List Named). HasLast (is_concerned requested node unit)
          (AreRequested requested (name_at graph node) at node l (length declared)) (length declared) lists.items)
          c.deref.ensures.value c.in_ok-features.ensures.last;
      requests =
          c.in_ok-of_root.ensures
          ∙ ap (λ (n : ℕ). cond unit.is_root ((n - 1) ∷ []) []) (c.len.ensures ∙ lists.ok.0);
    }
