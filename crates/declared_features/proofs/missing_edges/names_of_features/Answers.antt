use Rattle.std.proofs.Common.{◌≡◌, ◌<◌, ◌≤◌, ◌+◌, ◌∙◌, ◌⊎◌, inl, inr, ℕ, List, Option, Some, None, Bor, Vec, Global}
use Rattle.std.proofs.Common.{Bool, true, false}
use Rattle.std.proofs.Common.{[], length, take, get_or, sym, refl, ap, subst, arith, map}
use Rattle.std.specs.Prelude.{Any, option_map, unwrap_or}
use Rattle.serde_json.specs.Data.{Data}
use Rattle.serde_json.specs.Find.{as_str}
use Rattle.serde_json.specs.View.{view}
use Rattle.serde_json.specs.declared.value.Value.{Value}
use Rattle.declared_features.specs.NameSets.{HasName, AddsNames}
use Rattle.declared_features.specs.MissingEdges.{listed_features, IsListed}
use Rattle.declared_features.proofs.Growing.{grown_next, grown_end, grown_as, just_names, any_mapped, any_unmapped}
use Rattle.declared_features.proofs.missing_edges.names_of_features.Goals as goal

pub features-preserved : goal.features-preserved
features-preserved c =
    grown_next (HasName c.new-names.result) (HasName c.features.names) (HasName c.add_name.new.names)
    c.in-Some.features.now c.features.i c.index-features-i.result (λ v q. as_str (view v) ≡ Some q) c.features-test.true
    c.index-features-i.is
    (subst (λ (o : Option (List ℕ)). AddsNames c.features.names c.add_name.new.names (λ q. o ≡ Some q))
    c.as_str.ensures c.in_ok-add_name.ensures) c.features.invariant

pub returns : goal.returns
returns c =
    let fs = c.in-Some.features.now in
    let document = view c.args.document.now in
    let listed : Some (map view fs) ≡ listed_features document c.args.node = c.in-Some.ensures in
    let from : (q : List ℕ) → Any (λ v. as_str (view v) ≡ Some q) fs → IsListed document c.args.node q =
    λ q some. subst (λ (o : Option (List Data)). Any (λ d. as_str d ≡ Some q) (unwrap_or o [])) listed
    (any_mapped view (λ d. as_str d ≡ Some q) fs some) in
    let to : (q : List ℕ) → IsListed document c.args.node q → Any (λ v. as_str (view v) ≡ Some q) fs =
    λ q some. any_unmapped view (λ d. as_str d ≡ Some q) fs
    (subst (λ (o : Option (List Data)). Any (λ d. as_str d ≡ Some q) (unwrap_or o [])) (sym listed) some) in
    just_names c.new-names.result c.features.names (IsListed document c.args.node) c.new-names.ensures.empty
    (grown_as (HasName c.new-names.result) (HasName c.features.names) (λ q. Any (λ v. as_str (view v) ≡ Some q) fs)
    (IsListed document c.args.node)
    (grown_end (HasName c.new-names.result) (HasName c.features.names) fs c.features.i
    (λ v q. as_str (view v) ≡ Some q) c.features-test.false c.features.invariant) from to)
