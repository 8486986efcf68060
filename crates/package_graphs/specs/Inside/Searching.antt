-- The knowledge during a search for a path, of the packages and the target of the search.
use Rattle.std.specs.Prelude.{◌≡◌, ◌<◌, ◌≤◌, ◌+◌, ◌-◌, ◌^◌, ℕ, List, Option, Some, None, length, All}
use Rattle.std.specs.List.{slice_index_or}
use Rattle.known_targets.specs.Sets.{place}
use Rattle.package_graphs.specs.Packages.{Sided, node_of, dependencies, StartsOn}
use Rattle.package_graphs.specs.Paths.{LeadsBy, IsStep, IsPath, LeadTo}
use Rattle.package_graphs.specs.declared.packages.Dependency.{Dependency}
use Rattle.package_graphs.specs.declared.sides.Side.{Side}
use Rattle.package_graphs.specs.declared.sides.Side.TheVariants.{Target, Host}
use Rattle.package_graphs.specs.declared.paths.Step.{Step}
use Rattle.package_graphs.specs.declared.paths.Search.{Search}

abbrev pub LeadsAlong : Search → Dependency → Sided → Sided → Type 0
LeadsAlong s d m n = LeadsBy s.packages.now s.traversal.kinds s.traversal.host (place s.at) d m n

abbrev pub IsStepOf : Search → Step → Sided → Sided → Type 0
IsStepOf s step m n = IsStep s.packages.now s.traversal.kinds s.traversal.host (place s.at) step m n

abbrev pub IsPathOf : Search → List Step → Sided → Type 0
IsPathOf s steps n = IsPath s.packages.now s.traversal.kinds s.traversal.host (place s.at) steps n

abbrev pub Leads : Search → List Step → ℕ → Type 0
Leads s steps p = LeadTo s.packages.now s.traversal.kinds s.traversal.host (place s.at) steps p

abbrev pub distance : List ℕ → Sided → ℕ
distance ds n = slice_index_or ds (node_of n.0 n.1) 0

-- the place that the dependency d leads to from m has at most this distance
abbrev pub IsWithin : Search → List ℕ → Sided → ℕ → Dependency → Type 0
IsWithin s ds m most d =
    (n : Sided) → LeadsAlong s d m n → n.0 < length s.packages.now → distance ds n ≤ most

-- the distance of a place that was not reached
abbrev pub FAR_AWAY : ℕ
FAR_AWAY = 2 ^ 64 - 1

-- a root has the distance 0, and the place that a dependency of m leads to is at most one step farther than m, which is
-- reached if m is
pub record IsNear (s : Search) (ds : List ℕ) (m : Sided) : Type 0 where
  pub root : StartsOn s.packages.now m → distance ds m ≡ 0
  pub next : All (λ d. IsWithin s ds m (distance ds m + 1) d) (dependencies s.packages.now m.0)
  pub reached : distance ds m < FAR_AWAY → distance ds m + 1 < FAR_AWAY

-- each place is at most one step farther than those before it
abbrev pub AreNear : Search → List ℕ → Type 0
AreNear s ds = (n : Sided) → n.0 < length s.packages.now → IsNear s ds n

-- the package p was not reached on this side, or without one on either side
abbrev pub IsFarAway : List ℕ → Option Side → ℕ → Type 0
IsFarAway ds None p = (distance ds (p, Target) ≡ FAR_AWAY) × (distance ds (p, Host) ≡ FAR_AWAY)
IsFarAway ds (Some side) p = distance ds (p, side) ≡ FAR_AWAY
