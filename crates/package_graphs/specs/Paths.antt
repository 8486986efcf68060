-- Paths of dependencies from a root.
use Rattle.std.specs.Prelude.{◌≡◌, ◌<◌, ◌≤◌, ℕ, IsTrue, List, [], ◌∷◌, ◌++◌, Option, Some, None, length}
use Rattle.std.specs.List.{slice_get}
use Rattle.known_targets.specs.Sets.{is_member, place}
use Rattle.known_targets.specs.declared.known.KnownTarget.{KnownTarget}
use Rattle.package_graphs.specs.Kinds.{is_followed}
use Rattle.package_graphs.specs.Packages.{is_root, is_macro, dependencies, Sided, evaluated_at, side_after, StartsOn}
use Rattle.package_graphs.specs.declared.packages.Kinds.{Kinds}
use Rattle.package_graphs.specs.declared.packages.Dependency.{Dependency}
use Rattle.package_graphs.specs.declared.packages.Package.{Package}
use Rattle.package_graphs.specs.declared.sides.Side.{Side}
use Rattle.package_graphs.specs.declared.paths.PathQuery.{PathQuery}
use Rattle.package_graphs.specs.declared.paths.PathTo.{PathTo}
use Rattle.package_graphs.specs.declared.paths.Step.{Step}

abbrev pub Steps : Type 0
Steps = List Step

-- the dependency d is followed from m, is true on the target k, and leads to n
pub record LeadsBy (packages : List Package) (kinds : Kinds) (host : Option KnownTarget) (k : ℕ) (d : Dependency)
    (m n : Sided) : Type 0 where
  pub ends : d.to ≡ n.0
  pub followed : IsTrue (is_followed kinds (is_root packages m.0) d.kind)
  pub holds : IsTrue (is_member d.holds (evaluated_at host k m.1 d.kind))
  pub on : n.1 ≡ side_after m.1 d.kind (is_macro packages n.0)

-- the step goes along a dependency of m, to n
pub record IsStep (packages : List Package) (kinds : Kinds) (host : Option KnownTarget) (k : ℕ) (step : Step)
    (m n : Sided) : Type 0 where
  pub from : step.from ≡ m.0
  pub dependency : Dependency
  pub stands : slice_get (dependencies packages m.0) step.dependency ≡ Some dependency
  pub leads : LeadsBy packages kinds host k dependency m n

-- the steps lead from a root to n on the target k; for a root there are no steps
pub data IsPath (packages : List Package) (kinds : Kinds) (host : Option KnownTarget) (k : ℕ)
    : List Step → Sided → Type 0 where
  starts : (n : Sided) → StartsOn packages n → IsPath packages kinds host k [] n
  goes_on : (steps : List Step) (step : Step) (m n : Sided) → IsPath packages kinds host k steps m
      → IsStep packages kinds host k step m n → IsPath packages kinds host k (steps ++ step ∷ []) n

-- these steps lead to the package p, on one side or the other
abbrev pub LeadTo : List Package → Kinds → Option KnownTarget → ℕ → List Step → ℕ → Type 0
LeadTo packages kinds host k steps p = (side : Side) × IsPath packages kinds host k steps (p, side)

-- no steps lead to the package p, on this side, or without one on either side
abbrev pub IsUnreached : List Package → Kinds → Option KnownTarget → ℕ → Option Side → ℕ → Type 0
IsUnreached packages kinds host k None p = (steps : List Step) → LeadTo packages kinds host k steps p → ⊥
IsUnreached packages kinds host k (Some side) p = (steps : List Step) → IsPath packages kinds host k steps (p, side) → ⊥

-- they lead there, and no fewer steps do
pub record IsShortest (packages : List Package) (kinds : Kinds) (host : Option KnownTarget) (k : ℕ)
    (steps : List Step) (p : ℕ) : Type 0 where
  pub path : LeadTo packages kinds host k steps p
  pub shortest : (others : List Step) → LeadTo packages kinds host k others p → length steps ≤ length others

-- the steps lead to the package on this side, and no fewer steps do
pub record IsShortestOn (packages : List Package) (kinds : Kinds) (host : Option KnownTarget) (k : ℕ)
    (steps : List Step) (n : Sided) : Type 0 where
  pub path : IsPath packages kinds host k steps n
  pub shortest : (others : List Step) → IsPath packages kinds host k others n → length steps ≤ length others

-- the steps are a shortest path to the package p, on this side, or without one on either side
abbrev pub IsShortestTo : List Package → Kinds → Option KnownTarget → ℕ → Option Side → List Step → ℕ → Type 0
IsShortestTo packages kinds host k None steps p = IsShortest packages kinds host k steps p
IsShortestTo packages kinds host k (Some side) steps p = IsShortestOn packages kinds host k steps (p, side)

-- the path is a shortest one of the query to its package
abbrev pub IsShortestOf : List Package → PathQuery → PathTo → Type 0
IsShortestOf packages query path =
    IsShortestTo packages query.kinds query.host (place query.at) query.side path.steps.items path.to

-- no steps of the query lead to the package p
abbrev pub IsUnreachedBy : List Package → PathQuery → ℕ → Type 0
IsUnreachedBy packages query p = IsUnreached packages query.kinds query.host (place query.at) query.side p

-- a shortest path to each of the packages, in order; those that no steps lead to have none
pub data AreShortestOf (packages : List Package) (query : PathQuery) : List ℕ → List PathTo → Type 0 where
  of_none : AreShortestOf packages query [] []
  of_path : (to : List ℕ) (paths : List PathTo) (path : PathTo) → AreShortestOf packages query to paths
      → IsShortestOf packages query path → AreShortestOf packages query (to ++ path.to ∷ []) (paths ++ path ∷ [])
  of_unreached : (to : List ℕ) (paths : List PathTo) (p : ℕ) → AreShortestOf packages query to paths
      → (p < length packages → IsUnreachedBy packages query p)
      → AreShortestOf packages query (to ++ p ∷ []) paths
