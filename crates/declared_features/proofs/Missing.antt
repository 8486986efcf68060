-- Dependencies that are enabled and have no edge, by what the code asks.
use Rattle.std.proofs.Common.{◌≡◌, ℕ, ◌<◌, List, Option, Some, None, Bor, Bool, true, false, cond, refl, sym, ◌∙◌, ap}
use Rattle.std.proofs.Common.{subst}
use Rattle.std.proofs.Common.{◌⊎◌, inl, inr}
use Rattle.std.specs.Prelude.{◌↔◌, All, Any, Contains, IsTrue, is_some, option_map, slice_get}
use Rattle.std.specs.Option.{option_copied}
use Rattle.std.specs.BTreeSet.{BTreeSet}
use Rattle.serde_json.specs.View.{view}
use Rattle.std.proofs.lemmas.List.Elements.{All-contains}
use Rattle.cargo_metadata.specs.declared.nodes.Dependency.{Dependency as Edge}
use Rattle.cargo_metadata.specs.declared.nodes.KindRow.{KindRow}
use Rattle.cargo_metadata.specs.declared.packages.Package.{Package}
use Rattle.cargo_features.specs.declared.resolved.Resolved.{Resolved}
use Rattle.declared_features.specs.Manifests.{features_at, IsWithoutLibrary}
use Rattle.declared_features.specs.NameSets.{NameSet, HasName, HasJustNames}
use Rattle.declared_features.specs.MissingEdges.{IsTurnedOn, IsTurnedOnIn, HasNoLibrary, HasEdge, IsNewlyEnabled}
use Rattle.declared_features.specs.MissingEdges.{MayBeFiltered, HasSimilarEdge, IsFilteredOut, HasOnlyCondition}
use Rattle.declared_features.specs.Requests.{toml_name}
use Rattle.declared_features.specs.Inside.Newly.{IsNewly}
use Rattle.declared_features.specs.Inside.Keys.{EdgeKey, StoredKey, HasKey, HasEdgeWith}
use Rattle.declared_features.specs.declared.declaring.DeclaredGraph.{DeclaredGraph}
use Rattle.declared_features.specs.declared.linking.RequestedFeatures.{RequestedFeatures}
use Rattle.declared_features.specs.declared.manifests.DeclaredDependency.{DeclaredDependency}
use Rattle.declared_features.proofs.Collecting.{some_same}
use Rattle.declared_features.proofs.EdgeKeys.{similar}
use Rattle.declared_features.proofs.Enabling.{either}

pub any_as : {X : Type 0} (P Q : X → Type 0) (xs : List X) → ((x : X) → P x → Q x) → Any P xs → Any Q xs
any_as P Q xs to (k, x, below, same, such) = (k, x, below, same, to x such)

-- ---- a filtered document

-- the answer says whether the set has the key of the dependency, if that has a condition
abbrev pub SaysKey : BTreeSet StoredKey → DeclaredDependency → Bool → Type 0
SaysKey keys declared answer =
    (condition : List ℕ) → option_copied declared.condition ≡ Some condition
    → (answer ≡ true) ↔ HasKey keys ((declared.name.now, condition), declared.kind)

abbrev pub AreKeysOf : DeclaredGraph → ℕ → BTreeSet StoredKey → Type 0
AreKeysOf graph node keys = (key : EdgeKey) → HasKey keys key ↔ HasEdgeWith graph node key

abbrev pub TurnedOn : DeclaredGraph → ℕ → List ℕ → Type 0
TurnedOn graph node = IsTurnedOnIn (view graph.document.now) node (features_at graph.declared.now node)

pub filtered_from : (graph : DeclaredGraph) (node : ℕ) (declared : DeclaredDependency) (enabled : NameSet)
    (keys : BTreeSet StoredKey) (has_key : Bool) → HasJustNames enabled (TurnedOn graph node)
    → AreKeysOf graph node keys → (declared.is_optional ≡ true → HasName enabled (toml_name declared))
    → MayBeFiltered graph node declared → SaysKey keys declared has_key → has_key ≡ false
    → IsFilteredOut graph node declared
filtered_from graph node declared enabled keys has_key just keys_are is_enabled may_be says has_none = record {
  enabled = λ optional. (just (toml_name declared)).0 (is_enabled optional);
  may_be = may_be;
  no_edge = λ has.
      let key = (similar graph node declared may_be.condition may_be.is).1 has in
      let held = (keys_are ((declared.name.now, may_be.condition), declared.kind)).1 key in
      let found = (says may_be.condition may_be.is).1 held in
      absurd (let both : true ≡ false = sym found ∙ has_none in cc);
}

pub filtered_enabled : (graph : DeclaredGraph) (node : ℕ) (declared : DeclaredDependency) (enabled : NameSet)
    → HasJustNames enabled (TurnedOn graph node) → IsFilteredOut graph node declared → declared.is_optional ≡ true
    → HasName enabled (toml_name declared)
filtered_enabled graph node declared enabled just is optional = (just (toml_name declared)).1 (is.enabled optional)

pub filtered_key : (graph : DeclaredGraph) (node : ℕ) (declared : DeclaredDependency) (keys : BTreeSet StoredKey)
    (has_key : Bool)
    → AreKeysOf graph node keys → SaysKey keys declared has_key → IsFilteredOut graph node declared → has_key ≡ true
    → ⊥
filtered_key graph node declared keys has_key keys_are says is found =
    let condition = is.may_be.condition in
    let has = (keys_are ((declared.name.now, condition), declared.kind)).0 ((says condition is.may_be.is).0 found) in
    is.no_edge ((similar graph node declared condition is.may_be.is).0 has)

-- ---- a document that was made with too few features

pub newly_from : (graph : DeclaredGraph) (resolved : Resolved) (requested : RequestedFeatures) (node : ℕ)
    (declared : DeclaredDependency) (enabled before : NameSet)
    → HasJustNames enabled (IsTurnedOn graph resolved requested node) → HasJustNames before (TurnedOn graph node)
    → IsNewly enabled before declared → (¬ HasNoLibrary graph declared) × ¬ HasEdge graph node declared
    → IsNewlyEnabled graph resolved requested node declared
newly_from graph resolved requested node declared enabled before now_on was_on newly lacks = record {
  optional = newly.optional;
  enabled = (now_on (toml_name declared)).0 newly.now_on;
  newly = λ was. newly.not_before ((was_on (toml_name declared)).1 was);
  library = lacks.0;
  no_edge = lacks.1;
}

pub newly_names : (graph : DeclaredGraph) (resolved : Resolved) (requested : RequestedFeatures) (node : ℕ)
    (declared : DeclaredDependency) (enabled before : NameSet)
    → HasJustNames enabled (IsTurnedOn graph resolved requested node) → HasJustNames before (TurnedOn graph node)
    → IsNewlyEnabled graph resolved requested node declared → IsNewly enabled before declared
newly_names graph resolved requested node declared enabled before now_on was_on is = record {
  optional = is.optional;
  now_on = (now_on (toml_name declared)).1 is.enabled;
  not_before = λ has. is.newly ((was_on (toml_name declared)).0 has);
}

-- ---- packages without a library

named : Option Package → Option (List ℕ)
named o = option_map (λ p. p.name.now) o

pub lacks_library : {X : Type 0} (library : Option X) (o : Option Package) (q : List ℕ)
    → cond (is_some library) None (option_map (λ p. p.name.now) o) ≡ Some q
    → (library ≡ None) × ((p : Package) × (o ≡ Some p) × (p.name.now ≡ q))
lacks_library (Some x) o q is = absurd (let e : None ≡ Some q = is in cc)
lacks_library None None q is = absurd (let e : None ≡ Some q = is in cc)
lacks_library None (Some p) q is = (refl, (p, refl, some_same p.name.now q is))

pub named_without : {X : Type 0} (library : Option X) (o : Option Package) (q : List ℕ) (p : Package) → library ≡ None
    → o ≡ Some p → p.name.now ≡ q → cond (is_some library) None (option_map (λ p. p.name.now) o) ≡ Some q
named_without (Some x) o q p none there is = absurd (let e : Some x ≡ None = none in cc)
named_without None o q p none there is =
    ap (λ (o : Option Package). option_map (λ p. p.name.now) o) there ∙ ap (λ (s : List ℕ). Some s) is

-- ---- the only condition of an edge

pub only_under : (edge : Edge) (row : KindRow) (condition q : List ℕ) → Contains edge.kinds.items row
    → option_copied row.condition ≡ Some condition
    → All (λ row. option_copied row.condition ≡ Some condition) edge.kinds.items
    → (Some condition ≡ Some q) ↔ HasOnlyCondition edge q
only_under edge row condition q there is all = (
  λ h. record {
    some = (there.0, row, there.1, there.2, is ∙ h);
    all =
        subst (λ (o : Option (List ℕ)). All (λ row. option_copied row.condition ≡ o) edge.kinds.items) h all;
  },
  λ has.
      sym is
      ∙ All-contains (λ (row : KindRow). option_copied row.condition ≡ Some q) edge.kinds.items row has.all there,
)

-- the condition of one of its kinds
pub only_one : (edge : Edge) (row : KindRow) (condition q : List ℕ) → Contains edge.kinds.items row
    → option_copied row.condition ≡ Some condition → HasOnlyCondition edge q
    → All (λ row. option_copied row.condition ≡ Some condition) edge.kinds.items
only_one edge row condition q there is has =
    let its : option_copied row.condition ≡ Some q =
    All-contains (λ (row : KindRow). option_copied row.condition ≡ Some q) edge.kinds.items row has.all there in
    subst (λ (o : Option (List ℕ)). All (λ row. option_copied row.condition ≡ o) edge.kinds.items) (sym its ∙ is)
    has.all
