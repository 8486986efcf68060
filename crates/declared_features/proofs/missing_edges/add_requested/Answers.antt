use Rattle.std.proofs.Common.{◌≡◌, ◌<◌, ◌≤◌, ◌+◌, ◌∙◌, ◌⊎◌, inl, inr, ℕ, List, Option, Some, None, Bor, Vec, Global}
use Rattle.std.proofs.Common.{Bool, true, false}
use Rattle.std.proofs.Common.{length, take, get_or, sym, refl, ap, subst, arith, map}
use Rattle.std.specs.Prelude.{slice_get, Contains}
use Rattle.std.proofs.lemmas.Option.{slice_get_read}
use Rattle.declared_features.specs.NameSets.{HasName, AddsNames}
use Rattle.package_graphs.specs.declared.packages.Package.{Package as Unit}
use Rattle.declared_features.specs.Entries.{IsEntry}
use Rattle.declared_features.specs.Edges.{name_at}
use Rattle.declared_features.specs.Lists.{MatchesJust}
use Rattle.declared_features.specs.Requested.{IsRequestedText}
use Rattle.declared_features.specs.MissingEdges.{TurnOn, IsTurnedOnByRequest}
use Rattle.declared_features.specs.declared.entries.FeatureEntry.{FeatureEntry}
use Rattle.declared_features.proofs.Growing.{grown_as}
use Rattle.declared_features.proofs.Spelling.{turned_on_once}
use Rattle.declared_features.proofs.missing_edges.add_requested.Goals as goal

pub returns : goal.returns
returns c =
    let graph = c.args.graph.now in
    let node = c.args.node in
    let requested = c.args.requested.now in
    let entries = c.in_ok-entries.entries.items in
    let at = c.in-Some.ensures.lookup.3 in
    let unit = c.in-Some.unit.now in
    let there =
    subst (λ (l : List Unit). slice_get l node ≡ Some unit) c.deref.ensures.value
    (slice_get_read c.deref.result.now _ node unit refl at.0 (at.1 unit)) in
    let spelled : MatchesJust (IsRequestedText requested (name_at graph node) node) IsEntry entries =
    subst (λ (name : List ℕ). MatchesJust (IsRequestedText requested name node) IsEntry entries) c.name.ensures
    c.in_ok-entries.ensures in
    let added =
    subst (λ (es : List FeatureEntry). AddsNames c.args.names.now c.add_turned_on.new.names (TurnOn es))
    c.deref-2.ensures.value c.in_ok-add_turned_on.ensures in
    grown_as (HasName c.args.names.now) (HasName c.add_turned_on.new.names) (TurnOn entries)
    (IsTurnedOnByRequest graph requested node) added
    (λ q some.
    let stands : Contains entries some.1 = (some.0, some.2, some.3) in
    let source = spelled.sound some.1 stands in record {
      unit = unit;
      there = there;
      concerned = sym c.concerns.ensures ∙ c.if-not-concerns.false;
      text = source.0;
      is_requested = source.1;
      entry = some.1;
      spelled = source.2;
      turns_on = some.4;
    })
    (λ q is.
    let some = spelled.complete is.text is.is_requested in
    (some.0, some.1, some.2, some.3, turned_on_once is.text some.1 is.entry some.4 is.spelled ∙ is.turns_on))
