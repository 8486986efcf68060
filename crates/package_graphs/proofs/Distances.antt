-- Paths are no shorter than distances.
use Rattle.std.proofs.Common.{◌≡◌, ℕ, ◌<◌, ◌≤◌, ◌+◌, List, [], ◌∷◌, ◌++◌, length, get_or, take, sym, ◌∙◌, ap, subst}
use Rattle.std.proofs.Common.{Vec, Global, Result, IfOk, IfSome, IfNone, arith, Option, None, Some, inl, inr}
use Rattle.std.proofs.Common.{slice_get, below_more}
use Rattle.std.specs.Prelude.{Contains}
use Rattle.std.proofs.lemmas.List.{length-append, take_more, take_all, get_or_default}
use Rattle.std.proofs.lemmas.List.Elements.{All-contains}
use Rattle.std.proofs.lemmas.Option.{slice_get_cases, get_or_from_slice_get}
use Rattle.package_graphs.specs.Packages.{Sided, dependencies}
use Rattle.known_targets.specs.Sets.{place}
use Rattle.package_graphs.specs.Paths.{Steps, IsPath, starts, goes_on, IsUnreached, IsUnreachedBy, IsShortestOf}
use Rattle.package_graphs.specs.Paths.{IsShortestTo}
use Rattle.package_graphs.specs.Paths.{AreShortestOf, of_none, of_path, of_unreached}
use Rattle.package_graphs.specs.Inside.Searching.{IsStepOf, IsPathOf, Leads, distance, IsWithin, IsNear, IsFarAway}
use Rattle.package_graphs.specs.Inside.Searching.{FAR_AWAY}
use Rattle.package_graphs.specs.declared.packages.Dependency.{Dependency}
use Rattle.known_targets.specs.declared.known.KnownTarget.{KnownTarget}
use Rattle.package_graphs.specs.declared.packages.Kinds.{Kinds}
use Rattle.package_graphs.specs.declared.packages.Package.{Package}
use Rattle.package_graphs.specs.declared.paths.PathQuery.{PathQuery}
use Rattle.package_graphs.specs.declared.paths.PathTo.{PathTo}
use Rattle.package_graphs.specs.declared.paths.Step.{Step}
use Rattle.package_graphs.specs.declared.paths.Search.{Search}
use Rattle.package_graphs.specs.declared.sides.Side.{Side}
use Rattle.package_graphs.specs.declared.sides.Side.TheVariants.{Target, Host}
use Rattle.package_graphs.proofs.Sided.{has_package}

pub contains_got : {X : Type 0} (xs : List X) (i : ℕ) (x : X) → slice_get xs i ≡ Some x → Contains xs x
contains_got xs i x got = elim (slice_get_cases xs i).1 [
  | inl (y, below, is, read) ↦ (i, below, get_or_from_slice_get xs i x x got)
  | inr (past, none) ↦ absurd cc
]

-- what holds of the elements before a place, and of the one there
pub upto_more : {X : Type 0} (P : X → Type 0) (xs : List X) (i : ℕ) (d : X) → i < length xs
    → ((k : ℕ) (x : X) → k < i → P (get_or xs k x)) → P (get_or xs i d) → (k : ℕ) (x : X) → k < i + 1
    → P (get_or xs k x)
upto_more {X} P xs i d inside before here k x below =
    below_more (λ k. (x : X) → P (get_or xs k x)) i (λ k less x. before k x less)
    (λ x. subst P (get_or_default xs i d x inside) here) k below x

module _ (s : Search) (ds : List ℕ) (near : (n : Sided) → n.0 < length s.packages.now → IsNear s ds n) where
  pub no_nearer : (steps : List Step) (n : Sided) → IsPathOf s steps n → n.0 < length s.packages.now
      → distance ds n ≤ length steps
  no_nearer _ n (starts start is) inside = let e = (near n inside).root is in omega (arith, e)
  no_nearer _ n (goes_on steps step m end path leads) inside =
      let d = leads.dependency in
      let listed = contains_got (dependencies s.packages.now m.0) step.dependency d leads.stands in
      let within = has_package s.packages.now m.0 d listed in
      let before = no_nearer steps m path within in
      let next = All-contains (λ d. IsWithin s ds m (distance ds m + 1) d) (dependencies s.packages.now m.0) d
      (near m within).next listed n leads.leads inside in
      omega (arith, before, next, length-append steps (step ∷ []))

  -- what steps lead to is reached
  pub is_reached : (steps : List Step) (n : Sided) → IsPathOf s steps n → n.0 < length s.packages.now
      → distance ds n < FAR_AWAY
  is_reached _ n (starts start is) inside = let e = (near n inside).root is in omega (arith, e)
  is_reached _ n (goes_on steps step m end path leads) inside =
      let d = leads.dependency in
      let listed = contains_got (dependencies s.packages.now m.0) step.dependency d leads.stands in
      let within = has_package s.packages.now m.0 d listed in
      let before = (near m within).reached (is_reached steps m path within) in
      let next = All-contains (λ d. IsWithin s ds m (distance ds m + 1) d) (dependencies s.packages.now m.0) d
      (near m within).next listed n leads.leads inside in
      omega (arith, before, next)

  pub unreached_on : (n : Sided) → distance ds n ≡ FAR_AWAY → n.0 < length s.packages.now → (steps : List Step)
      → IsPathOf s steps n → ⊥
  unreached_on n far inside steps path = let e = is_reached steps n path inside in absurd (omega (arith, e, far))

  pub unreached : (p : ℕ) → distance ds (p, Target) ≡ FAR_AWAY → distance ds (p, Host) ≡ FAR_AWAY
      → p < length s.packages.now → (steps : List Step) → Leads s steps p → ⊥
  unreached p target host inside steps (Target, path) = unreached_on (p, Target) target inside steps path
  unreached p target host inside steps (Host, path) = unreached_on (p, Host) host inside steps path

  pub none_lead : (side : Option Side) (p : ℕ) → IsFarAway ds side p → p < length s.packages.now
      → IsUnreached s.packages.now s.traversal.kinds s.traversal.host (place s.at) side p
  none_lead None p far inside = unreached p far.0 far.1 inside
  none_lead (Some side) p far inside = unreached_on (p, side) far inside

-- one more step of a path
pub path_more : (s : Search) (steps : List Step) (i : ℕ) (step : Step) (m n : Sided) → i < length steps
    → step ≡ get_or steps i step → IsPathOf s (take i steps) m → IsStepOf s step m n
    → IsPathOf s (take (i + 1) steps) n
path_more s steps i step m n below is path leads =
    subst (λ (xs : List Step). IsPathOf s xs n)
    (ap (λ (x : Step). take i steps ++ x ∷ []) is ∙ sym (take_more steps i step below))
    (goes_on (take i steps) step m n path leads)

pub both_near : (s : Search) (ds : List ℕ) (p : ℕ) → IsNear s ds (p, Target) → IsNear s ds (p, Host) → (side : Side)
    → IsNear s ds (p, side)
both_near s ds p target host Target = target
both_near s ds p target host Host = host

-- where both places of a package are that far, no path to it is shorter
pub both_far : (s : Search) (ds : List ℕ) (p most : ℕ) → most ≤ distance ds (p, Target) → most ≤ distance ds (p, Host)
    → ((n : Sided) → n.0 < length s.packages.now → IsNear s ds n) → p < length s.packages.now → (others : List Step)
    → Leads s others p → most ≤ length others
both_far s ds p most target host near inside others (Target, path) =
    let e = no_nearer s ds near others (p, Target) path inside in omega (arith, e, target)
both_far s ds p most target host near inside others (Host, path) =
    let e = no_nearer s ds near others (p, Host) path inside in omega (arith, e, host)

-- ---- paths to packages, one after the other

module _ (packages : List Package) (query : PathQuery) (to : List ℕ) (i p : ℕ) (below : i < length to)
    (is : p ≡ get_or to i p) where
  next_is : take (i + 1) to ≡ take i to ++ p ∷ []
  next_is = take_more to i p below ∙ ap (λ (x : ℕ). take i to ++ x ∷ []) (sym is)

  pub one_path : (paths longer : List PathTo) (path : PathTo) → path.to ≡ p → longer ≡ paths ++ path ∷ []
      → IsShortestOf packages query path → AreShortestOf packages query (take i to) paths
      → AreShortestOf packages query (take (i + 1) to) longer
  one_path paths longer path there pushed shortest before =
      subst (λ (ps : List PathTo). AreShortestOf packages query (take (i + 1) to) ps) (sym pushed)
      (subst (λ (xs : List ℕ). AreShortestOf packages query xs (paths ++ path ∷ []))
      (ap (λ (x : ℕ). take i to ++ x ∷ []) there ∙ sym next_is)
      (of_path (take i to) paths path before shortest))

  pub no_path : (paths : List PathTo) → (p < length packages → IsUnreachedBy packages query p)
      → AreShortestOf packages query (take i to) paths → AreShortestOf packages query (take (i + 1) to) paths
  no_path paths none before =
      subst (λ (xs : List ℕ). AreShortestOf packages query xs paths) (sym next_is)
      (of_unreached (take i to) paths p before none)

pub all_paths : (packages : List Package) (query : PathQuery) (to : List ℕ) (i : ℕ) (paths : List PathTo)
    → length to ≤ i → AreShortestOf packages query (take i to) paths → AreShortestOf packages query to paths
all_paths packages query to i paths past found =
    subst (λ (xs : List ℕ). AreShortestOf packages query xs paths) (take_all i to past) found

pub no_paths : (packages : List Package) (query : PathQuery) (paths : List PathTo) → paths ≡ []
    → AreShortestOf packages query [] paths
no_paths packages query paths none =
    subst (λ (ps : List PathTo). AreShortestOf packages query [] ps) (sym none) of_none

-- ---- the kinds and the host are those of the query

pub same_unreached : {A E : Type 0} (r : Result (Option A) E) (packages : List Package) (ks ms : Kinds)
    (h g : Option KnownTarget) (k : ℕ) (side : Option Side) (p : ℕ) → ks ≡ ms → h ≡ g
    → IfOk r (λ found. IfNone found (p < length packages → IsUnreached packages ks h k side p))
    → IfOk r (λ found. IfNone found (p < length packages → IsUnreached packages ms g k side p))
same_unreached r packages ks ms h g k side p kinds host none =
    subst (λ (g : Option KnownTarget). IfOk r (λ found. IfNone found
    (p < length packages → IsUnreached packages ms g k side p))) host
    (subst (λ (ms : Kinds). IfOk r (λ found. IfNone found
    (p < length packages → IsUnreached packages ms h k side p))) kinds none)

module _ (packages : List Package) (ks ms : Kinds) (h g : Option KnownTarget) (k : ℕ) (side : Option Side) (p : ℕ)
    (kinds : ks ≡ ms) (host : h ≡ g) (found : Option (Vec Step Global)) where
  pub same_shortest : (steps : Vec Step Global) → found ≡ Some steps
      → IfSome found (λ steps. IsShortestTo packages ks h k side steps.items p)
      → IsShortestTo packages ms g k side steps.items p
  same_shortest steps is shortest =
      subst (λ (g : Option KnownTarget). IsShortestTo packages ms g k side steps.items p) host
      (subst (λ (ms : Kinds). IsShortestTo packages ms h k side steps.items p) kinds
      (subst (λ (o : Option (Vec Step Global)). IfSome o (λ steps. IsShortestTo packages ks h k side steps.items p)) is
      shortest))

  pub same_none : found ≡ None → IfNone found (p < length packages → IsUnreached packages ks h k side p)
      → p < length packages → IsUnreached packages ms g k side p
  same_none is none inside =
      subst (λ (g : Option KnownTarget). IsUnreached packages ms g k side p) host
      (subst (λ (ms : Kinds). IsUnreached packages ms h k side p) kinds
      (subst (λ (o : Option (Vec Step Global)). IfNone o (p < length packages → IsUnreached packages ks h k side p)) is
      none inside))
