-- Edges of nodes, and sets of their keys.
use Rattle.std.proofs.Common.{◌≡◌, ℕ, ◌<◌, ◌&&◌, List, [], length, get_or, take, sym, ◌∙◌, ap, subst, refl, Bool, true}
use Rattle.std.proofs.Common.{false}
use Rattle.std.proofs.Common.{◌⊎◌, inl, inr, Option, Some, Bor, arith}
use Rattle.std.specs.Prelude.{◌↔◌, slice_get, Any, Decides, bytes_eq}
use Rattle.std.specs.Option.{option_copied}
use Rattle.std.specs.BTreeSet.{BTreeSet, contains_by, IsEmpty, Updates}
use Rattle.std.specs.Cmp.{tied_then}
use Rattle.std.specs.Cmp.Lexicographic.{slice_cmp}
use Rattle.std.specs.Ordering.{is_eq, nat_cmp, ordering_then}
use Rattle.std.specs.declared.cmp.Ordering.{Ordering}
use Rattle.std.proofs.lemmas.Map.Text.{is_eq-slice_cmp}
use Rattle.std.proofs.lemmas.Option.{slice_get_within, get_or_from_slice_get, slice_get-get_or}
use Rattle.std.proofs.lemmas.Slice.Eq.{bytes_eq-Decides}
use Rattle.cargo_metadata.specs.declared.nodes.Kind.{Kind}
use Rattle.cargo_metadata.specs.declared.nodes.Kind.TheVariants.{Normal, Build, Dev}
use Rattle.cargo_metadata.specs.declared.nodes.KindRow.{KindRow}
use Rattle.cargo_metadata.specs.declared.nodes.Dependency.{Dependency as Edge}
use Rattle.package_graphs.specs.declared.packages.Dependency.{Dependency as LinkedEdge}
use Rattle.declared_features.specs.Edges.{IsLike, IsOf, name_at, code_name, MayBeCalled}
use Rattle.declared_features.specs.Rows.{kinds_at, links_at, of_kind, EdgeKind, IsRowAt, AreRowsOf}
use Rattle.declared_features.specs.MissingEdges.{IsEdgeAt, HasEdge, HasSimilarEdge}
use Rattle.declared_features.specs.Inside.Keys.{EdgeKey, StoredKey, kind_number, key_cmp, HasKey, IsKeyOf, AddsKeys}
use Rattle.declared_features.specs.Inside.Keys.{HasEdgeWith}
use Rattle.declared_features.specs.declared.declaring.DeclaredGraph.{DeclaredGraph}
use Rattle.declared_features.specs.declared.declaring.DependencyRow.{DependencyRow}
use Rattle.declared_features.specs.declared.manifests.DeclaredDependency.{DeclaredDependency}
use Rattle.declared_features.proofs.Collecting.{some_same}
use Rattle.declared_features.proofs.First.{any_at}
use Rattle.declared_features.proofs.Growing.{by_test}
use Rattle.declared_features.proofs.Placing.{element_at}

-- ---- keys

both : (a b : Bool) (P Q : Type 0) → Decides a P → Decides b Q → Decides (a && b) (P × Q)
both true true P Q p q = (λ h. (p.0 refl, q.0 refl), λ h. refl)
both true false P Q p q = (λ h. absurd (let e : false ≡ true = h in cc), λ h. q.1 h.1)
both false b P Q p q = (λ h. absurd (let e : false ≡ true = h in cc), λ h. p.1 h.0)

then_decides : (a b : Ordering) (P Q : Type 0) → Decides (is_eq a) P → Decides (is_eq b) Q
    → Decides (is_eq (ordering_then a b)) (P × Q)
then_decides a b P Q p q =
    subst (λ (t : Bool). Decides t (P × Q)) (tied_then a b) (both (is_eq a) (is_eq b) P Q p q)

texts_decide : (s t : List ℕ) → Decides (is_eq (slice_cmp nat_cmp s t)) (s ≡ t)
texts_decide s t =
    subst (λ (b : Bool). Decides b (s ≡ t)) (sym (is_eq-slice_cmp s t)) (bytes_eq-Decides s t)

no_kind : (k j : Kind) → (k ≡ j → ⊥) → Decides false (k ≡ j)
no_kind k j apart = (λ h. absurd (let e : false ≡ true = h in cc), λ h. absurd (apart h))

kinds_decide : (k j : Kind) → Decides (is_eq (nat_cmp (kind_number k) (kind_number j))) (k ≡ j)
kinds_decide Normal Normal = (λ h. refl, λ h. refl)
kinds_decide Normal Build = no_kind Normal Build (λ h. cc)
kinds_decide Normal Dev = no_kind Normal Dev (λ h. cc)
kinds_decide Build Normal = no_kind Build Normal (λ h. cc)
kinds_decide Build Build = (λ h. refl, λ h. refl)
kinds_decide Build Dev = no_kind Build Dev (λ h. cc)
kinds_decide Dev Normal = no_kind Dev Normal (λ h. cc)
kinds_decide Dev Build = no_kind Dev Build (λ h. cc)
kinds_decide Dev Dev = (λ h. refl, λ h. refl)

-- as the code compares keys
abbrev pub stored_cmp : StoredKey → StoredKey → Ordering
stored_cmp x y =
    ordering_then
    (ordering_then (slice_cmp nat_cmp x.0.0.now y.0.0.now) (slice_cmp nat_cmp x.0.1.now y.0.1.now))
    (nat_cmp x.1 y.1)

abbrev text : List ℕ → Bor (List ℕ)
text s = record { ref_ptr = (0, 0); now = s }

abbrev pub IsSame : Bor (List ℕ) → Bor (List ℕ) → Kind → EdgeKey → Type 0
IsSame name condition kind key = ((name.now ≡ key.0.0) × (condition.now ≡ key.0.1)) × (kind ≡ key.1)

pub keys_inserted : (old new : BTreeSet StoredKey) (name condition : Bor (List ℕ)) (kind : Kind) (n : ℕ)
    → n ≡ kind_number kind → Updates stored_cmp old new ((name, condition), n) true
    → AddsKeys old new (IsSame name condition kind)
keys_inserted old new name condition kind n is updates key =
    let names = slice_cmp nat_cmp name.now key.0.0 in
    let conditions = slice_cmp nat_cmp condition.now key.0.1 in
    let kinds = nat_cmp n (kind_number key.1) in
    let kind_decides : Decides (is_eq kinds) (kind ≡ key.1) =
    subst (λ (m : ℕ). Decides (is_eq (nat_cmp m (kind_number key.1))) (kind ≡ key.1)) (sym is)
    (kinds_decide kind key.1) in
    let decides : Decides (is_eq (ordering_then (ordering_then names conditions) kinds))
    (IsSame name condition kind key) =
    then_decides (ordering_then names conditions) kinds ((name.now ≡ key.0.0) × (condition.now ≡ key.0.1))
    (kind ≡ key.1)
    (then_decides names conditions (name.now ≡ key.0.0) (condition.now ≡ key.0.1) (texts_decide name.now key.0.0)
    (texts_decide condition.now key.0.1)) kind_decides in
    by_test (contains_by (key_cmp key) new) (contains_by (key_cmp key) old)
    (is_eq (ordering_then (ordering_then names conditions) kinds)) (IsSame name condition kind key)
    (updates.0 ((text key.0.0, text key.0.1), kind_number key.1)) decides

pub no_keys : (keys : BTreeSet StoredKey) → IsEmpty keys → (key : EdgeKey) → HasKey keys key → ⊥
no_keys keys empty key has =
    let none : contains_by (key_cmp key) keys ≡ false =
    ap (λ (l : List StoredKey). contains_by (key_cmp key) (record { keys = l })) empty in
    cc

-- ---- edges and their rows

pub kind_of_pair : (e f : EdgeKind) → e ≡ f → (e.0 ≡ f.0) × (e.1 ≡ f.1)
kind_of_pair e f is = (ap (λ (p : EdgeKind). p.0) is, ap (λ (p : EdgeKind). p.1) is)

-- this depends on the edge, the kind and the link of a row alone
abbrev pub Moves : (DependencyRow → Type 0) → Type 0
Moves P =
    (row other : DependencyRow) → row.edge.now ≡ other.edge.now → row.kind ≡ other.kind → row.linked ≡ other.linked
    → P row
    → P other

pub edge_of_row : (graph : DeclaredGraph) (node : ℕ) (rows : List DependencyRow) (k : ℕ) (row : DependencyRow)
    → AreRowsOf (kinds_at graph.metadata.now node) (links_at graph.linked.now node) rows → k < length rows
    → row ≡ get_or rows k row → IsEdgeAt graph node row
edge_of_row graph node rows k row are below is =
    (k, are.each k row (slice_get-get_or rows k row below ∙ ap (λ (r : DependencyRow). Some r) (sym is)))

pub row_of_edge : (graph : DeclaredGraph) (node : ℕ) (rows : List DependencyRow) (P : DependencyRow → Type 0) → Moves P
    → AreRowsOf (kinds_at graph.metadata.now node) (links_at graph.linked.now node) rows → (row : DependencyRow)
    → IsEdgeAt graph node row → P row → Any P rows
row_of_edge graph node rows P moves are row (k, is) such =
    let kinds = kinds_at graph.metadata.now node in
    let links = links_at graph.linked.now node in
    let of_kinds = slice_get_within kinds k (of_kind row.edge.now row.kind) is.kind in
    let of_links = slice_get_within links k row.linked is.link in
    let other = element_at rows k (are.all k of_kinds of_links) in
    let its = are.each k other.0 other.1 in
    let pair : of_kind row.edge.now row.kind ≡ of_kind other.0.edge.now other.0.kind =
    some_same (of_kind row.edge.now row.kind) (of_kind other.0.edge.now other.0.kind) (sym is.kind ∙ its.kind) in
    let parts = kind_of_pair (of_kind row.edge.now row.kind) (of_kind other.0.edge.now other.0.kind) pair in
    any_at P rows k other.0 other.1
    (moves row other.0 parts.0 parts.1 (some_same row.linked other.0.linked (sym is.link ∙ its.link)) such)

pub key_moves : (graph : DeclaredGraph) (key : EdgeKey) → Moves (λ row. IsKeyOf graph row key)
key_moves graph key row other edge kind link such = record {
  to = subst (λ (l : LinkedEdge). name_at graph l.to ≡ key.0.0) link such.to;
  condition = subst (λ (r : KindRow). option_copied r.condition ≡ Some key.0.1) kind such.condition;
  kind = subst (λ (r : KindRow). r.kind ≡ key.1) kind such.kind;
}

pub edge_moves : (graph : DeclaredGraph) (node : ℕ) (declared : DeclaredDependency)
    → Moves (λ row. IsOf graph node row declared)
edge_moves graph node declared row other edge kind link such = record {
  alike = record {
    kind = subst (λ (r : KindRow). r.kind ≡ declared.kind) kind such.alike.kind;
    condition = subst (λ (r : KindRow). option_copied r.condition ≡ option_copied declared.condition) kind
        such.alike.condition;
  };
  to = subst (λ (l : LinkedEdge). name_at graph l.to ≡ declared.name.now) link such.to;
  code =
      subst (λ (e : Edge). MayBeCalled e.name (code_name graph node other.linked.to declared)) edge
      (subst (λ (l : LinkedEdge). MayBeCalled row.edge.now.name (code_name graph node l.to declared)) link such.code);
}

pub keys_of_rows : (graph : DeclaredGraph) (node : ℕ) (rows : List DependencyRow) (key : EdgeKey)
    → AreRowsOf (kinds_at graph.metadata.now node) (links_at graph.linked.now node) rows
    → Any (λ row. IsKeyOf graph row key) rows ↔ HasEdgeWith graph node key
keys_of_rows graph node rows key are = (
  λ some.
      let is : some.1 ≡ get_or rows some.0 some.1 = sym some.3 in
      record { row = some.1; there = edge_of_row graph node rows some.0 some.1 are some.2 is; key_is = some.4 },
  λ has.
      row_of_edge graph node rows (λ row. IsKeyOf graph row key) (key_moves graph key) are has.row has.there has.key_is,
)

-- the key is that of a declared dependency with a condition
pub similar : (graph : DeclaredGraph) (node : ℕ) (declared : DeclaredDependency) (condition : List ℕ)
    → option_copied declared.condition ≡ Some condition
    → HasEdgeWith graph node ((declared.name.now, condition), declared.kind) ↔ HasSimilarEdge graph node declared
similar graph node declared condition is = (
  λ has. record {
    row = has.row;
    there = has.there;
    alike = record { kind = has.key_is.kind; condition = has.key_is.condition ∙ sym is };
    to = has.key_is.to;
  },
  λ has. record {
    row = has.row;
    there = has.there;
    key_is = record { to = has.to; condition = has.alike.condition ∙ is; kind = has.alike.kind };
  },
)
