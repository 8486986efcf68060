-- The packages of nodes, while they are described.
use Rattle.std.proofs.Common.{◌≡◌, ℕ, ◌+◌, ◌<◌, ◌≤◌, List, [], ◌∷◌, ◌++◌, length, get_or, take, sym, ◌∙◌, ap}
use Rattle.std.proofs.Common.{subst, ◌⊎◌, inl, inr, Option, Some, None, arith, Vec, Bool, true, false, cond}
use Rattle.std.specs.Prelude.{Contains, slice_get, option_and_then}
use Rattle.std.specs.Global.{Global}
use Rattle.std.proofs.lemmas.Bool.{cases_lt}
use Rattle.std.proofs.lemmas.List.{take_more, take_all, length-take, length-take-le}
use Rattle.std.proofs.lemmas.Option.{slice_get_within, slice_get_cases, slice_get_past}
use Rattle.cargo_features.specs.declared.packages.FeatureValue.{FeatureValue}
use Rattle.cargo_features.specs.declared.packages.Package.{Package}
use Rattle.declared_features.specs.Lists.{HasJust}
use Rattle.declared_features.specs.Manifests.{feature_index, features_in, features_at}
use Rattle.declared_features.specs.Members.{FeatureIndexes, HasListsOf}
use Rattle.declared_features.specs.Edges.{IsOf}
use Rattle.declared_features.specs.Requests.{IsLink}
use Rattle.declared_features.specs.Requested.{HasLast}
use Rattle.declared_features.specs.Described.{IsDescribed, IsDescribedAt}
use Rattle.cargo_metadata.specs.Indexes.{index_at}
use Rattle.declared_features.specs.Inside.Names.{AreNamesOf, AreNamesBelow}
use Rattle.declared_features.specs.Inside.Links.{IsLinkBelow}
use Rattle.declared_features.specs.declared.declaring.Declarations.{Declarations}
use Rattle.declared_features.specs.declared.declaring.DeclaredGraph.{DeclaredGraph}
use Rattle.declared_features.specs.declared.declaring.DependencyRow.{DependencyRow}
use Rattle.declared_features.specs.declared.entries.FeatureEntry.{FeatureEntry}
use Rattle.declared_features.specs.declared.linking.Names.{Names}
use Rattle.declared_features.specs.declared.linking.RequestedFeatures.{RequestedFeatures}
use Rattle.declared_features.specs.declared.manifests.DeclaredDependency.{DeclaredDependency}
use Rattle.declared_features.specs.declared.manifests.Feature.{Feature}
use Rattle.cargo_metadata.specs.declared.indexes.Indexes.{Indexes}
use Rattle.declared_features.proofs.Collecting.{some_same}
use Rattle.declared_features.proofs.Matching.{taken, taken_before, taken_here}
use Rattle.declared_features.proofs.Placing.{get_grown, get_last, get_pushed, length_push}

-- ---- names of features

pub names_none : (declarations : Declarations) (features : Vec Indexes Global) → features.items ≡ []
    → AreNamesBelow 0 declarations (record { features = features })
names_none declarations features none = record {
  count = ap length none;
  each = λ node q below. absurd (omega (arith, below));
}

in_both : (old new : List Indexes) (node : ℕ) (q : List ℕ) → node < length old
    → ((x : Indexes) → slice_get old node ≡ Some x → slice_get new node ≡ Some x)
    → option_and_then (λ indexes. index_at indexes q) (slice_get new node)
    ≡ option_and_then (λ indexes. index_at indexes q) (slice_get old node)
in_both old new node q below grown =
    elim (slice_get_cases old node).1 [
      | inl there ↦
          ap (option_and_then (λ indexes. index_at indexes q)) (grown there.0 there.2 ∙ sym there.2)
      | inr past ↦ absurd (let h = past.0 in omega (arith, h, below))
    ]

pub names_more : (declarations : Declarations) (n : ℕ) (old new : Vec Indexes Global) (indexes : Indexes)
    → new.items ≡ old.items ++ indexes ∷ []
    → ((q : List ℕ) → index_at indexes q ≡ feature_index (features_at declarations n) q)
    → AreNamesBelow n declarations (record { features = old })
    → AreNamesBelow (n + 1) declarations (record { features = new })
names_more declarations n old new indexes pushed these names = record {
  count = ap length pushed ∙ length_push old.items indexes ∙ ap (λ (m : ℕ). m + 1) names.count;
  each = λ node q below.
      elim (cases_lt node n) [
        | inl less ↦
            in_both old.items new.items node q (let count = names.count in omega (arith, less, count))
            (λ x is.
            subst (λ (l : List Indexes). slice_get l node ≡ Some x) (sym pushed)
            (get_grown old.items (indexes ∷ []) node x is))
            ∙ names.each node q less
        | inr past ↦
            let last : node ≡ length old.items = let count = names.count in omega (arith, below, past, count) in
            let here : slice_get new.items node ≡ Some indexes =
            ap (λ (l : List Indexes). slice_get l node) pushed
            ∙ ap (λ (k : ℕ). slice_get (old.items ++ indexes ∷ []) k) last ∙ get_last old.items indexes in
            let same : node ≡ n = last ∙ names.count in
            ap (option_and_then (λ indexes. index_at indexes q)) here ∙ these q
            ∙ ap (λ (k : ℕ). feature_index (features_at declarations k) q) (sym same)
      ];
}

pub names_all : (declarations : Declarations) (n : ℕ) (names : Names) → length declarations.package_indexes.items ≤ n
    → AreNamesBelow n declarations names → AreNamesOf declarations names
names_all declarations n names past below node q =
    elim (cases_lt node n) [
      | inl less ↦ below.each node q less
      | inr beyond ↦
          let count = below.count in
          let no_names : slice_get names.features.items node ≡ None =
          slice_get_past names.features.items node (omega (arith, count, beyond)) in
          let no_index : slice_get declarations.package_indexes.items node ≡ None =
          slice_get_past declarations.package_indexes.items node (omega (arith, past, beyond)) in
          ap (option_and_then (λ indexes. index_at indexes q)) no_names
          ∙ sym (ap (λ (o : Option ℕ). feature_index (features_in (option_and_then
          (λ p. slice_get declarations.manifests.items p) o)) q) no_index)
    ]

-- ---- links of edges to declared dependencies

abbrev pair_of : DependencyRow → DeclaredDependency → DependencyRow × DeclaredDependency
pair_of row declared = (row, declared)

pub link_first : (graph : DeclaredGraph) (node : ℕ) (rows : List DependencyRow) (i : ℕ)
    (declared : List DeclaredDependency)
    (link : DependencyRow × DeclaredDependency) → IsLinkBelow graph node rows i declared 0 link
    → IsLink graph node (take i rows) declared link
link_first graph node rows i declared link below =
    elim below [
      | inl before ↦ before
      | inr at ↦ absurd (let h = at.declared_is in let inside = h.1 in omega (arith, inside, length-take 0 declared))
    ]

-- one more declared dependency, to which the edge belongs
pub link_more : (graph : DeclaredGraph) (node : ℕ) (rows : List DependencyRow) (i : ℕ) (row : DependencyRow)
    (declared : List DeclaredDependency)
    (j : ℕ)
    (d : DeclaredDependency) → slice_get rows i ≡ Some row → slice_get declared j ≡ Some d
    → (link : DependencyRow × DeclaredDependency)
    → IsLinkBelow graph node rows i declared (j + 1) link
    → IsLinkBelow graph node rows i declared j link ⊎ (((row, d) ≡ link) × IsOf graph node row d)
link_more graph node rows i row declared j d row_at d_at (r, e) below =
    elim below [
      | inl before ↦ inl (inl before)
      | inr at ↦
          elim (taken declared j d e d_at at.declared_is) [
            | inl earlier ↦
                inl (inr (record { row_is = at.row_is; declared_is = earlier; belongs = at.belongs }))
            | inr last ↦
                let same : row ≡ r = some_same row r (sym row_at ∙ at.row_is) in
                let pair : pair_of row d ≡ pair_of r e =
                ap (λ (x : DependencyRow). pair_of x d) same ∙ ap (λ (y : DeclaredDependency). pair_of r y) last in
                inr (
                  pair,
                  subst (λ (x : DependencyRow). IsOf graph node x d) (sym same)
                      (subst (λ (x : DeclaredDependency). IsOf graph node r x) (sym last) at.belongs),
                )
          ]
    ]

pub link_before : (graph : DeclaredGraph) (node : ℕ) (rows : List DependencyRow) (i : ℕ)
    (declared : List DeclaredDependency) (j : ℕ)
    (d : DeclaredDependency) → slice_get declared j ≡ Some d → (link : DependencyRow × DeclaredDependency)
    → IsLinkBelow graph node rows i declared j link → IsLinkBelow graph node rows i declared (j + 1) link
link_before graph node rows i declared j d d_at link below =
    elim below [
      | inl before ↦ inl before
      | inr at ↦ inr (record {
        row_is = at.row_is;
        declared_is = taken_before declared j d link.1 d_at at.declared_is;
        belongs = at.belongs;
      })
    ]

pub link_here : (graph : DeclaredGraph) (node : ℕ) (rows : List DependencyRow) (i : ℕ) (row : DependencyRow)
    (declared : List DeclaredDependency)
    (j : ℕ)
    (d : DeclaredDependency) → slice_get rows i ≡ Some row → slice_get declared j ≡ Some d → IsOf graph node row d
    → (link : DependencyRow × DeclaredDependency) → (row, d) ≡ link
    → IsLinkBelow graph node rows i declared (j + 1) link
link_here graph node rows i row declared j d row_at d_at belongs link same =
    subst (λ (l : DependencyRow × DeclaredDependency). IsLinkBelow graph node rows i declared (j + 1) l) same
    (inr (record { row_is = row_at; declared_is = taken_here declared j d d_at; belongs = belongs }))

-- all declared dependencies of one more row
pub link_row : (graph : DeclaredGraph) (node : ℕ) (rows : List DependencyRow) (i : ℕ) (row : DependencyRow)
    (declared : List DeclaredDependency)
    (j : ℕ)
    → slice_get rows i ≡ Some row → length declared ≤ j → (link : DependencyRow × DeclaredDependency)
    → IsLinkBelow graph node rows i declared j link → IsLink graph node (take (i + 1) rows) declared link
link_row graph node rows i row declared j row_at past link below =
    elim below [
      | inl before ↦ record {
        row_is = taken_before rows i row link.0 row_at before.row_is;
        declared_is = before.declared_is;
        belongs = before.belongs;
      }
      | inr at ↦ record {
        row_is = taken_here rows i link.0 at.row_is;
        declared_is =
            subst (λ (l : List DeclaredDependency). Contains l link.1) (take_all j declared past) at.declared_is;
        belongs = at.belongs;
      }
    ]

pub row_link : (graph : DeclaredGraph) (node : ℕ) (rows : List DependencyRow) (i : ℕ) (row : DependencyRow)
    (declared : List DeclaredDependency)
    (j : ℕ)
    → slice_get rows i ≡ Some row → length declared ≤ j → (link : DependencyRow × DeclaredDependency)
    → IsLink graph node (take (i + 1) rows) declared link → IsLinkBelow graph node rows i declared j link
row_link graph node rows i row declared j row_at past link is =
    elim (taken rows i row link.0 row_at is.row_is) [
      | inl before ↦ inl (record { row_is = before; declared_is = is.declared_is; belongs = is.belongs })
      | inr here ↦ inr (record {
        row_is = row_at ∙ ap (λ (r : DependencyRow). Some r) here;
        declared_is =
            subst (λ (l : List DeclaredDependency). Contains l link.1) (sym (take_all j declared past)) is.declared_is;
        belongs = is.belongs;
      })
    ]

-- ---- the lists of features

pub lists_none : (IsMember : List FeatureEntry → FeatureValue → Type 0) (features : List Feature) (lists : List
    (Vec FeatureValue Global))
    → HasListsOf IsMember (take 0 features) lists
lists_none IsMember features lists = record {
  each = λ k f is. absurd (let h = slice_get_within (take 0 features) k f is in omega
      (arith, h, length-take 0 features));
}

pub lists_grown : (IsMember : List FeatureEntry → FeatureValue → Type 0) (features : List Feature)
    (lists new more : List (Vec FeatureValue Global)) → new ≡ lists ++ more → HasListsOf IsMember features lists
    → HasListsOf IsMember features new
lists_grown IsMember features lists new more is has = record {
  each = λ k f at.
      let it = has.each k f at in (
        it.0,
        subst (λ (l : List (Vec FeatureValue Global)). slice_get l k ≡ Some it.0) (sym is)
            (get_grown lists more k it.0 it.1),
        it.2,
      );
}

-- one more list, if the package is concerned
pub last_pushed : (concerned : Bool) (IsLast : List FeatureValue → Type 0) (count : ℕ)
    (lists new : List (Vec FeatureValue Global))
    (members : Vec FeatureValue Global) → concerned ≡ true → length lists ≡ count → new ≡ lists ++ members ∷ []
    → IsLast members.items → HasLast concerned IsLast count new
last_pushed concerned IsLast count lists new members is same pushed last = record {
  lengths =
      ap length pushed ∙ length_push lists members ∙ ap (λ (n : ℕ). n + 1) same
      ∙ sym (ap (λ (b : Bool). cond b (count + 1) count) is);
  last = λ e. (
    members,
    ap (λ (l : List (Vec FeatureValue Global)). slice_get l count) pushed
        ∙ ap (λ (n : ℕ). slice_get (lists ++ members ∷ []) n) (sym same) ∙ get_last lists members,
    last,
  );
}

pub none_pushed : (concerned : Bool) (IsLast : List FeatureValue → Type 0) (count : ℕ)
    (lists : List (Vec FeatureValue Global))
    → concerned ≡ false → length lists ≡ count → HasLast concerned IsLast count lists
none_pushed concerned IsLast count lists is same = record {
  lengths = same ∙ sym (ap (λ (b : Bool). cond b (count + 1) count) is);
  last = λ e. absurd cc;
}

pub lists_more : (IsMember : List FeatureEntry → FeatureValue → Type 0) (features : List Feature) (i : ℕ) (f : Feature)
    (lists new : List (Vec FeatureValue Global)) (members : Vec FeatureValue Global)
    → i < length features → f ≡ get_or features i f → length lists ≡ i → new ≡ lists ++ members ∷ []
    → HasJust members.items (IsMember f.lists.items) → HasListsOf IsMember (take i features) lists
    → HasListsOf IsMember (take (i + 1) features) new
lists_more IsMember features i f lists new members below is count pushed just has =
    let whole : take (i + 1) features ≡ take i features ++ f ∷ [] =
    take_more features i f below ∙ ap (λ (g : Feature). take i features ++ g ∷ []) (sym is) in
    let within : i ≤ length features = omega arith in
    let shorter = length-take-le i features within in
    let grown = lists_grown IsMember (take i features) lists new (members ∷ []) pushed has in
    record {
      each = λ k g at.
          elim (get_pushed (take i features) f k g
          (subst (λ (l : List Feature). slice_get l k ≡ Some g) whole at)) [
            | inl before ↦ grown.each k g before
            | inr last ↦
                let k_is : k ≡ length lists = last.0 ∙ shorter ∙ sym count in
                let here : slice_get new k ≡ Some members =
                ap (λ (l : List (Vec FeatureValue Global)). slice_get l k) pushed
                ∙ ap (λ (n : ℕ). slice_get (lists ++ members ∷ []) n) k_is ∙ get_last lists members in
                (members, here, subst (λ (x : Feature). HasJust members.items (IsMember x.lists.items)) last.1 just)
          ];
    }

-- ---- all packages

pub described_grown : (graph : DeclaredGraph) (requested : RequestedFeatures) (at : FeatureIndexes)
    (packages new : List Package) (edges newer : List
    (Vec ℕ Global))
    (more : List Package) (more_edges : List (Vec ℕ Global)) (node : ℕ) → new ≡ packages ++ more
    → newer ≡ edges ++ more_edges → IsDescribedAt graph requested at packages edges node
    → IsDescribedAt graph requested at new newer node
described_grown graph requested at packages new edges newer more more_edges node is are described = record {
  package_at = described.package_at;
  edges_at = described.edges_at;
  there =
      subst (λ (l : List Package). slice_get l node ≡ Some described.package_at) (sym is)
      (get_grown packages more node described.package_at described.there);
  beside =
      subst (λ (l : List (Vec ℕ Global)). slice_get l node ≡ Some described.edges_at) (sym are)
      (get_grown edges more_edges node described.edges_at described.beside);
  is = described.is;
}

pub described_more : (graph : DeclaredGraph) (requested : RequestedFeatures) (at : FeatureIndexes)
    (packages new : List Package) (edges newer : List
    (Vec ℕ Global))
    (unit : Package) (its : Vec ℕ Global) (n : ℕ) → new ≡ packages ++ unit ∷ [] → newer ≡ edges ++ its ∷ []
    → length packages ≡ n → length edges ≡ n → IsDescribed graph requested at n unit its.items
    → ((node : ℕ) → node < n → IsDescribedAt graph requested at packages edges node) → (node : ℕ) → node < n + 1
    → IsDescribedAt graph requested at new newer node
described_more graph requested at packages new edges newer unit its n is are count counts described before node below =
    elim (cases_lt node n) [
      | inl less ↦
          described_grown graph requested at packages new edges newer (unit ∷ []) (its ∷ []) node is are
          (before node less)
      | inr past ↦
          let here : node ≡ n = omega (arith, below, past) in
          record {
            package_at = unit;
            edges_at = its;
            there =
                ap (λ (l : List Package). slice_get l node) is
                ∙ ap (λ (k : ℕ). slice_get (packages ++ unit ∷ []) k) (here ∙ sym count) ∙ get_last packages unit;
            beside =
                ap (λ (l : List (Vec ℕ Global)). slice_get l node) are
                ∙ ap (λ (k : ℕ). slice_get (edges ++ its ∷ []) k) (here ∙ sym counts) ∙ get_last edges its;
            is = subst (λ (k : ℕ). IsDescribed graph requested at k unit its.items) (sym here) described;
          }
    ]
