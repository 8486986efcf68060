-- Edges of a dependency, added one after the other.
use Rattle.std.proofs.Common.{◌≡◌, sym, ◌∙◌, ap, subst, ℕ, ◌+◌, ◌<◌, ◌≤◌, List, [], ◌∷◌, ◌++◌, map, take, length}
use Rattle.std.proofs.Common.{get_or, append_assoc, below_more, arith, Option, Some, None}
use Rattle.std.specs.Prelude.{Contains}
use Rattle.std.proofs.lemmas.List.{take_more, take_all, map-append, get_or_default, append-nil}
use Rattle.std.proofs.lemmas.List.{get_or_push, length-append}
use Rattle.std.proofs.Math.ListN.{get_or-append}
use Rattle.std.proofs.lemmas.List.Concat.{flat_map-append}
use Rattle.cargo_metadata.specs.declared.nodes.Node.{Node}
use Rattle.cargo_metadata.specs.declared.nodes.KindRow.{KindRow}
use Rattle.cargo_metadata.specs.declared.nodes.Dependency.{Dependency as Written}
use Rattle.package_graphs.specs.declared.packages.Dependency.{Dependency}
use Rattle.std.specs.Borrow.{Bor}
use Rattle.known_targets.specs.declared.target_set.TargetSet.{TargetSet}
use Rattle.cargo_metadata.specs.Links.{HoldsWhere, AreEdgesOf}
use Rattle.cargo_metadata.specs.Links.{IsSpelled, IsSound, Asked, asked_as, asked_by, asked_of, IsEdge, AreEach}
use Rattle.cargo_metadata.specs.Links.{of_none, of_more}
use Rattle.cargo_metadata.specs.Refusals.{IsRefusedBy, IsInDependency}
use Rattle.cargo_metadata.specs.declared.graphs.edges.ConditionError.{ConditionError}
use Rattle.cargo_metadata.specs.declared.graphs.edges.ConditionError.TheVariants as no_set
use Rattle.cargo_metadata.specs.Inside.Adding.{AddsRows, AddsKinds, AreEdgesSoFar, IsNoSet, wrong_at}

-- ---- what is read at an index, at any other default

pub at_any : {X : Type 0} (P : X → Type 0) (xs : List X) (i : ℕ) (x : X) → i < length xs → x ≡ get_or xs i x → P x
    → (y : X) → P (get_or xs i y)
at_any P xs i x below is p y = subst P (is ∙ get_or_default xs i x y below) p

pub before_more : {X : Type 0} (P : X → Type 0) (xs : List X) (i : ℕ) (x : X) → i < length xs → x ≡ get_or xs i x
    → ((k : ℕ) (y : X) → k < i → P (get_or xs k y)) → P x → (k : ℕ) (y : X) → k < i + 1 → P (get_or xs k y)
before_more {X} P xs i x below is before p k y more =
    below_more (λ k. (y : X) → P (get_or xs k y)) i (λ k less y. before k y less) (at_any P xs i x below is p) k more y

-- what is pushed
pub pushed_more : {X : Type 0} (P : ℕ → X → Type 0) (xs ys : List X) (x : X) (n : ℕ) → length xs ≡ n
    → ys ≡ xs ++ x ∷ [] → ((k : ℕ) (d : X) → k < n → P k (get_or xs k d)) → P n x → (k : ℕ) (d : X) → k < n + 1
    → P k (get_or ys k d)
pushed_more {X} P xs ys x n count pushed before here k d more =
    subst (λ (zs : List X). P k (get_or zs k d)) (sym pushed)
    (below_more (λ k. (d : X) → P k (get_or (xs ++ x ∷ []) k d)) n
    (λ k below d. subst (P k) (sym (get_or-append xs (x ∷ []) d k (omega (arith, below, count)))) (before k d below))
    (λ d. subst (P n) (sym (get_or_push xs x d n count)) here) k more d)

-- ---- edges

each_more : (ids : List (List ℕ)) (xs ys zs : List Asked) (x : Asked) (es fs : List Dependency) (e : Dependency)
    → ys ≡ xs ++ (zs ++ x ∷ []) → fs ≡ es ++ e ∷ [] → AreEach (IsEdge ids) (xs ++ zs) es → IsEdge ids x e
    → AreEach (IsEdge ids) ys fs
each_more ids xs ys zs x es fs e are pushed each edge =
    subst (λ (vs : List Asked). AreEach (IsEdge ids) vs fs) (append_assoc xs zs (x ∷ []) ∙ sym are)
    (subst (λ (gs : List Dependency). AreEach (IsEdge ids) ((xs ++ zs) ++ x ∷ []) gs) (sym pushed)
    (of_more (xs ++ zs) x es e each edge))

rows_more : (on : List ℕ) (rows : List KindRow) (i : ℕ) (row : KindRow) → i < length rows → row ≡ get_or rows i row
    → map (asked_as on) (take (i + 1) rows)
    ≡ map (asked_as on) (take i rows) ++ (on, row) ∷ []
rows_more on rows i row below is =
    ap (λ (rs : List KindRow). map (asked_as on) rs) (take_more rows i row below)
    ∙ map-append (λ (r : KindRow). (on, r)) (take i rows) (get_or rows i row ∷ [])
    ∙ ap (λ (r : KindRow). map (asked_as on) (take i rows) ++ (on, r) ∷ []) (sym is)

asked_more : (ds : List Written) (j : ℕ) (d : Written) → j < length ds → d ≡ get_or ds j d
    → asked_of (take (j + 1) ds) ≡ asked_of (take j ds) ++ asked_by d
asked_more ds j d below is =
    ap asked_of (take_more ds j d below)
    ∙ flat_map-append asked_by (take j ds) (get_or ds j d ∷ [])
    ∙ ap (λ (xs : List Asked). asked_of (take j ds) ++ xs) (append-nil (asked_by (get_or ds j d)))
    ∙ ap (λ (d : Written). asked_of (take j ds) ++ asked_by d) (sym is)

pub rows_none : (ids : List (List ℕ)) (on : List ℕ) (rows : List KindRow) (es : List Dependency)
    → AddsRows ids on rows 0 es es
rows_none ids on rows es = record {
  spelled = λ k row below. absurd (omega arith);
  added = λ before each. subst (λ (xs : List Asked). AreEach (IsEdge ids) xs es) (sym (append-nil before)) each;
}

pub adds_more : (ids : List (List ℕ)) (on : List ℕ) (rows : List KindRow) (i : ℕ) (row : KindRow)
    (old es fs : List Dependency) (e : Dependency) → i < length rows → row ≡ get_or rows i row → fs ≡ es ++ e ∷ []
    → AddsRows ids on rows i old es → IsSpelled row.condition → IsEdge ids (on, row) e
    → AddsRows ids on rows (i + 1) old fs
adds_more ids on rows i row old es fs e below is pushed adds spelled edge = record {
  spelled = before_more (λ (r : KindRow). IsSpelled r.condition) rows i row below is adds.spelled spelled;
  added = λ before each.
      each_more ids before (before ++ map (asked_as on) (take (i + 1) rows))
      (map (asked_as on) (take i rows)) (on, row) es fs e
      (ap (λ (zs : List Asked). before ++ zs) (rows_more on rows i row below is)) pushed
      (adds.added before each) edge;
}

pub adds_all : (ids : List (List ℕ)) (d : Written) (i : ℕ) (old es : List Dependency) → Contains ids d.on.now
    → length d.kinds.items ≤ i → AddsRows ids d.on.now d.kinds.items i old es → AddsKinds ids d old es
adds_all ids d i old es names past adds =
    let rows = d.kinds.items in
    record {
      sound = record {
        names = names;
        spelled = λ k row below. adds.spelled k row (omega (arith, below, past));
      };
      added = λ before each.
          subst (λ (rs : List KindRow). AreEach (IsEdge ids) (before ++ map (asked_as d.on.now) rs) es)
          (take_all i rows past) (adds.added before each);
    }

-- ---- edges of all dependencies

pub edges_none : (ids : List (List ℕ)) (ds : List Written) (es : List Dependency) → es ≡ []
    → AreEdgesSoFar ids ds 0 es
edges_none ids ds es none = record {
  sound = λ k d below. absurd (omega arith);
  each = subst (λ (fs : List Dependency). AreEach (IsEdge ids) [] fs) (sym none) of_none;
}

pub edges_more : (ids : List (List ℕ)) (ds : List Written) (j : ℕ) (d : Written) (old new : List Dependency)
    → j < length ds → d ≡ get_or ds j d → AddsKinds ids d old new → AreEdgesSoFar ids ds j old
    → AreEdgesSoFar ids ds (j + 1) new
edges_more ids ds j d old new below is adds before = record {
  sound = before_more (λ (d : Written). IsSound ids d) ds j d below is before.sound adds.sound;
  each =
      subst (λ (xs : List Asked). AreEach (IsEdge ids) xs new)
      (sym (asked_more ds j d below is)) (adds.added (asked_of (take j ds)) before.each);
}

-- where a condition holds it is spelled
pub held_spelled : (condition : Option (Bor (List ℕ))) (set : TargetSet) → HoldsWhere condition set
    → IsSpelled condition
held_spelled None set holds = tt
held_spelled (Some text) set holds = (holds.0, holds.1)

pub edges_all : (ids : List (List ℕ)) (n : Node) (j : ℕ) (es : List Dependency) → length n.dependencies.items ≤ j
    → AreEdgesSoFar ids n.dependencies.items j es → AreEdgesOf ids n es
edges_all ids n j es past so_far = record {
  sound = λ k d below. so_far.sound k d (omega (arith, below, past));
  each =
      subst (λ (ds : List Written). AreEach (IsEdge ids) (asked_of ds) es) (take_all j n.dependencies.items past)
      so_far.each;
}

pub refused_at : (ids : List (List ℕ)) (d : Written) (i : ℕ) (row : KindRow) (n : ConditionError)
    → i < length d.kinds.items
    → row ≡ get_or d.kinds.items i row → Contains ids d.on.now
    → ((k : ℕ) (r : KindRow) → k < i → IsSpelled (get_or d.kinds.items k r).condition) → IsNoSet row.condition n
    → IsInDependency ids (wrong_at i n) d
refused_at ids d i row (no_set.Refused e) below is names before refused = record {
  names = names;
  refused = record {
    before = before;
    inside = below;
    fault = at_any (λ (r : KindRow). IsRefusedBy e r.condition) d.kinds.items i row below is refused;
  };
}
refused_at ids d i row (no_set.Memory error) below is names before refused = tt

pub pushed_count : {X : Type 0} (xs ys : List X) (x : X) (n : ℕ) → length xs ≡ n → ys ≡ xs ++ x ∷ []
    → length ys ≡ n + 1
pushed_count xs ys x n count pushed = ap length pushed ∙ length-append xs (x ∷ []) ∙ ap (λ (m : ℕ). m + 1) count
