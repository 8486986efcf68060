-- Elements of lists at their indexes, and the rows of kinds.
use Rattle.std.proofs.Common.{◌≡◌, ℕ, ◌+◌, ◌<◌, ◌≤◌, List, [], ◌∷◌, ◌++◌, length, get_or, take, drop, map, refl, sym}
use Rattle.std.proofs.Common.{◌∙◌, ap}
use Rattle.std.proofs.Common.{subst, ◌⊎◌, inl, inr, Some, Bor, arith, length-append, append_assoc}
use Rattle.std.specs.Prelude.{slice_get}
use Rattle.std.proofs.Math.ListN.{get_or-append}
use Rattle.std.proofs.Math.Seq.{get_or-append_seam}
use Rattle.std.proofs.lemmas.Bool.{cases_lt}
use Rattle.std.proofs.lemmas.List.{take_more, take_all, map-append, append-nil, take-append-drop}
use Rattle.std.proofs.lemmas.List.Concat.{flat_map-append}
use Rattle.std.proofs.lemmas.Option.{slice_get_within, slice_get-get_or, slice_get_cases, get_or_from_slice_get}
use Rattle.package_graphs.specs.declared.packages.Dependency.{Dependency as LinkedEdge}
use Rattle.cargo_metadata.specs.declared.nodes.Dependency.{Dependency as Edge}
use Rattle.cargo_metadata.specs.declared.nodes.KindRow.{KindRow}
use Rattle.declared_features.specs.Rows.{EdgeKind, of_kind, kinds_by, kinds_of, IsRowAt, AreRowsOf}
use Rattle.declared_features.specs.declared.declaring.DependencyRow.{DependencyRow}

some_same : {X : Type 0} (x y : X) → Some x ≡ Some y → x ≡ y
some_same x y e = cc

-- ---- elements by their indexes

pub length_push : {X : Type 0} (xs : List X) (x : X) → length (xs ++ x ∷ []) ≡ length xs + 1
length_push xs x = length-append xs (x ∷ [])

pub get_grown : {X : Type 0} (xs ys : List X) (k : ℕ) (x : X) → slice_get xs k ≡ Some x
    → slice_get (xs ++ ys) k ≡ Some x
get_grown {X} xs ys k x is =
    let below = slice_get_within xs k x is in
    let longer : k < length (xs ++ ys) = omega (arith, below, length-append xs ys) in
    slice_get-get_or (xs ++ ys) k x longer
    ∙ ap (λ (y : X). Some y) (get_or-append xs ys x k below ∙ get_or_from_slice_get xs k x x is)

-- the elements that a function gives for the first elements, and one more
pub mapped_more : {X Y : Type 0} (f : X → Y) (xs : List X) (i : ℕ) (x : X) (old new : List Y) (y : Y) → i < length xs
    → x ≡ get_or xs i x → new ≡ old ++ y ∷ [] → y ≡ f x → old ≡ map f (take i xs) → new ≡ map f (take (i + 1) xs)
mapped_more {X} {Y} f xs i x old new y below is pushed same before =
    pushed ∙ ap (λ (l : List Y). l ++ y ∷ []) before
    ∙ ap (λ (z : Y). map f (take i xs) ++ z ∷ []) (same ∙ ap f is)
    ∙ sym (map-append f (take i xs) (get_or xs i x ∷ []))
    ∙ ap (λ (l : List X). map f l) (sym (take_more xs i x below))

pub get_last : {X : Type 0} (xs : List X) (x : X) → slice_get (xs ++ x ∷ []) (length xs) ≡ Some x
get_last {X} xs x =
    let longer : length xs < length (xs ++ x ∷ []) = omega (arith, length_push xs x) in
    slice_get-get_or (xs ++ x ∷ []) (length xs) x longer ∙ ap (λ (y : X). Some y) (get_or-append_seam xs x [] x)

pub get_pushed : {X : Type 0} (xs : List X) (x : X) (k : ℕ) (y : X) → slice_get (xs ++ x ∷ []) k ≡ Some y
    → (slice_get xs k ≡ Some y) ⊎ ((k ≡ length xs) × (x ≡ y))
get_pushed {X} xs x k y is =
    let inside = slice_get_within (xs ++ x ∷ []) k y is in
    elim (cases_lt k (length xs)) [
      | inl below ↦
          inl (slice_get-get_or xs k y below
          ∙ ap (λ (z : X). Some z)
          (sym (get_or-append xs (x ∷ []) y k below) ∙ get_or_from_slice_get (xs ++ x ∷ []) k y y is))
      | inr past ↦
          let at : k ≡ length xs = omega (arith, inside, past, length_push xs x) in
          inr (at, some_same x y (sym (get_last xs x) ∙ ap (λ (n : ℕ). slice_get (xs ++ x ∷ []) n) (sym at) ∙ is))
    ]

pub element_at : {X : Type 0} (xs : List X) (k : ℕ) → k < length xs → (x : X) × (slice_get xs k ≡ Some x)
element_at xs k below =
    elim (slice_get_cases xs k).1 [
      | inl there ↦ (there.0, there.2)
      | inr past ↦ absurd (let h = past.0 in omega (arith, h, below))
    ]

-- ---- rows

row_grown : (kinds more : List EdgeKind) (links : List LinkedEdge) (k : ℕ) (row : DependencyRow)
    → IsRowAt kinds links k row
    → IsRowAt (kinds ++ more) links k row
row_grown kinds more links k row is =
    record { index = is.index; kind = get_grown kinds more k _ is.kind; link = is.link }

-- there is no row without a kind
rows_within : (kinds : List EdgeKind) (links : List LinkedEdge) (rows : List DependencyRow) → AreRowsOf kinds links rows
    → length rows ≤ length kinds
rows_within kinds links rows are =
    elim (cases_lt (length kinds) (length rows)) [
      | inl less ↦
          elim (slice_get_cases rows (length kinds)).1 [
            | inl there ↦
                let row = are.each (length kinds) there.0 there.2 in
                let past = slice_get_within kinds (length kinds) _ row.kind in
                absurd (omega (arith, past))
            | inr past ↦ let h = past.0 in absurd (omega (arith, h, less))
          ]
      | inr within ↦ within
    ]

pub rows_none : (kinds : List EdgeKind) (links : List LinkedEdge) (rows : List DependencyRow) → rows ≡ []
    → (kinds ≡ []) ⊎ (links ≡ []) → AreRowsOf kinds links rows
rows_none kinds links rows empty none =
    let count = ap length empty in
    record {
      each = λ k row is. absurd (let h = slice_get_within rows k row is in omega (arith, h, count));
      all = λ k kind link.
          elim none [
            | inl e ↦ absurd (let h = ap length e in omega (arith, h, kind))
            | inr e ↦ absurd (let h = ap length e in omega (arith, h, link))
          ];
    }

pub rows_more : (kinds : List EdgeKind) (links : List LinkedEdge) (rows new : List DependencyRow) (kind : EdgeKind)
    (link : LinkedEdge) (row : DependencyRow)
    → new ≡ rows ++ row ∷ [] → slice_get links (length rows) ≡ Some link → row.index ≡ length rows
    → kind ≡ (row.edge.now, row.kind) → row.linked ≡ link → AreRowsOf kinds links rows
    → AreRowsOf (kinds ++ kind ∷ []) links new
rows_more kinds links rows new kind link row pushed there index is linked are =
    let within = rows_within kinds links rows are in
    let linkable = slice_get_within links (length rows) link there in
    let same : length rows ≡ length kinds =
    elim (cases_lt (length rows) (length kinds)) [
      | inl less ↦ absurd (let h = are.all (length rows) less linkable in omega (arith, h))
      | inr past ↦ omega (arith, past, within)
    ] in
    let here : IsRowAt (kinds ++ kind ∷ []) links (length rows) row = record {
      index = index;
      kind =
          subst (λ (n : ℕ). slice_get (kinds ++ kind ∷ []) n ≡ Some (row.edge.now, row.kind)) (sym same)
          (get_last kinds kind ∙ ap (λ (k : EdgeKind). Some k) is);
      link = there ∙ ap (λ (l : LinkedEdge). Some l) (sym linked);
    } in
    let all_rows : AreRowsOf (kinds ++ kind ∷ []) links (rows ++ row ∷ []) = record {
      each = λ k r at.
          elim (get_pushed rows row k r at) [
            | inl before ↦ row_grown kinds (kind ∷ []) links k r (are.each k r before)
            | inr last ↦
                subst (λ (r : DependencyRow). IsRowAt (kinds ++ kind ∷ []) links k r) last.1
                (subst (λ (n : ℕ). IsRowAt (kinds ++ kind ∷ []) links n row) (sym last.0) here)
          ];
      all = λ k below link. omega (arith, below, same, length_push kinds kind, length_push rows row);
    } in
    subst (λ (l : List DependencyRow). AreRowsOf (kinds ++ kind ∷ []) links l) (sym pushed) all_rows

abbrev pub row_of : Bor Edge → KindRow → LinkedEdge → ℕ → DependencyRow
row_of edge kind linked index = record { edge = edge; kind = kind; linked = linked; index = index }

-- a row whose edge is copied
pub rows_pushed : (kinds : List EdgeKind) (links : List LinkedEdge) (rows new : List DependencyRow) (edge : Bor Edge)
    (kind : KindRow) (index : ℕ) (default : LinkedEdge)
    → new ≡ rows ++ row_of edge kind (get_or links index default) index ∷ [] → index ≡ length rows
    → index < length links → AreRowsOf kinds links rows → AreRowsOf (kinds ++ of_kind edge.now kind ∷ []) links new
rows_pushed kinds links rows new edge kind index default pushed same below are =
    rows_more kinds links rows new (of_kind edge.now kind) (get_or links index default)
    (row_of edge kind (get_or links index default) index) pushed
    (ap (λ (n : ℕ). slice_get links n) (sym same) ∙ slice_get-get_or links index default below) same refl refl are

-- without a further edge there is no further row
pub rows_ended : (kinds more : List EdgeKind) (links : List LinkedEdge) (rows : List DependencyRow)
    → length links ≤ length rows → AreRowsOf kinds links rows → AreRowsOf (kinds ++ more) links rows
rows_ended kinds more links rows past are = record {
  each = λ k row at. row_grown kinds more links k row (are.each k row at);
  all = λ k kind link. omega (arith, link, past);
}

-- ---- kinds

pub kinds_more : (kinds : List EdgeKind) (edge : Edge) (i : ℕ) (kind : KindRow) → i < length edge.kinds.items
    → kind ≡ get_or edge.kinds.items i kind
    → kinds ++ map (of_kind edge) (take (i + 1) edge.kinds.items)
    ≡ (kinds ++ map (of_kind edge) (take i edge.kinds.items)) ++ of_kind edge kind ∷ []
kinds_more kinds edge i kind below is =
    let ks = edge.kinds.items in
    ap (λ (l : List KindRow). kinds ++ map (of_kind edge) l) (take_more ks i kind below)
    ∙ ap (λ (l : List EdgeKind). kinds ++ l) (map-append (of_kind edge) (take i ks) (get_or ks i kind ∷ []))
    ∙ sym (append_assoc kinds (map (of_kind edge) (take i ks)) (of_kind edge (get_or ks i kind) ∷ []))
    ∙ ap (λ (k : KindRow). (kinds ++ map (of_kind edge) (take i ks)) ++ of_kind edge k ∷ []) (sym is)

-- the kinds of an edge from the index i on
pub kinds_rest : (kinds : List EdgeKind) (edge : Edge) (i : ℕ)
    → kinds ++ kinds_by edge
    ≡ (kinds ++ map (of_kind edge) (take i edge.kinds.items)) ++ map (of_kind edge) (drop i edge.kinds.items)
kinds_rest kinds edge i =
    let ks = edge.kinds.items in
    ap (λ (l : List KindRow). kinds ++ map (of_kind edge) l) (sym (take-append-drop i ks))
    ∙ ap (λ (l : List EdgeKind). kinds ++ l) (map-append (of_kind edge) (take i ks) (drop i ks))
    ∙ sym (append_assoc kinds (map (of_kind edge) (take i ks)) (map (of_kind edge) (drop i ks)))

pub kinds_all : (kinds : List EdgeKind) (edge : Edge) (i : ℕ) → length edge.kinds.items ≤ i
    → kinds ++ map (of_kind edge) (take i edge.kinds.items) ≡ kinds ++ kinds_by edge
kinds_all kinds edge i past =
    ap (λ (l : List KindRow). kinds ++ map (of_kind edge) l) (take_all i edge.kinds.items past)

pub edges_more : (edges : List Edge) (i : ℕ) (edge : Edge) → i < length edges → edge ≡ get_or edges i edge
    → kinds_of (take (i + 1) edges) ≡ kinds_of (take i edges) ++ kinds_by edge
edges_more edges i edge below is =
    ap kinds_of (take_more edges i edge below)
    ∙ flat_map-append kinds_by (take i edges) (get_or edges i edge ∷ [])
    ∙ ap (λ (l : List EdgeKind). kinds_of (take i edges) ++ l) (append-nil (kinds_by (get_or edges i edge)))
    ∙ ap (λ (e : Edge). kinds_of (take i edges) ++ kinds_by e) (sym is)
