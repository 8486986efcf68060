-- The targets on which a package is in the build: by the targets alone, and on each side, target and host.
use Rattle.std.specs.Prelude.{◌≡◌, ℕ, ◌+◌, ◌*◌, Bool, true, false, ◌||◌, cond, IsTrue, Option, Some, None, List, []}
use Rattle.std.specs.Prelude.{map, Contains}
use Rattle.std.specs.List.{slice_index_or}
use Rattle.known_targets.specs.Sets.{place, is_member}
use Rattle.known_targets.specs.declared.known.KnownTarget.{KnownTarget}
use Rattle.package_graphs.specs.Reaching.{Reaches}
use Rattle.package_graphs.specs.Graphs.{is_in}
use Rattle.package_graphs.specs.Kinds.{is_followed}
use Rattle.package_graphs.specs.declared.packages.Kind.{Kind}
use Rattle.package_graphs.specs.declared.packages.Kind.TheVariants.{Normal, Build, Dev}
use Rattle.package_graphs.specs.declared.packages.Kinds.{Kinds}
use Rattle.package_graphs.specs.declared.packages.Dependency.{Dependency}
use Rattle.package_graphs.specs.declared.packages.Package.{Package}
use Rattle.package_graphs.specs.declared.sides.Side.{Side}
use Rattle.package_graphs.specs.declared.sides.Side.TheVariants.{Target, Host}
use Rattle.package_graphs.specs.declared.package_sets.PackageTargets.{PackageTargets}

-- types, as laws and callers name them
abbrev pub Packages : Type 0
Packages = List Package

abbrev pub KindSet : Type 0
KindSet = Kinds

abbrev pub BuiltFor : Type 0
BuiltFor = Side

abbrev pub HostTarget : Type 0
HostTarget = KnownTarget

abbrev pub is_root : List Package → ℕ → Bool
is_root packages p = slice_index_or (map (λ p. p.is_root) packages) p false

abbrev pub is_macro : List Package → ℕ → Bool
is_macro packages p = slice_index_or (map (λ p. p.is_macro) packages) p false

abbrev pub dependencies : List Package → ℕ → List Dependency
dependencies packages p = slice_index_or (map (λ p. p.dependencies.items) packages) p []

-- p has a dependency on q, of a kind that is followed
pub record DependsOn (packages : List Package) (kinds : Kinds) (p q : ℕ) : Type 0 where
  pub dependency : Dependency
  pub begins : Contains (dependencies packages p) dependency
  pub ends : dependency.to ≡ q
  pub followed : IsTrue (is_followed kinds (is_root packages p) dependency.kind)

-- the offset of a side among the sets of a package
abbrev pub number_of : Side → ℕ
number_of Target = 0
number_of Host = 1

abbrev pub node_of : ℕ → Side → ℕ
node_of p from = 2 * p + number_of from

-- ---- by the targets alone

pub record LeadsTo (packages : List Package) (kinds : Kinds) (k p q : ℕ) : Type 0 where
  pub depends : DependsOn packages kinds p q
  pub holds : IsTrue (is_member depends.dependency.holds k)

-- the package p is reached on the target k: dependencies whose conditions are true on k lead to it from a root
abbrev pub IsThere : List Package → Kinds → ℕ → ℕ → Type 0
IsThere packages kinds k p = Reaches (λ root. IsTrue (is_root packages root)) (λ p q. LeadsTo packages kinds k p q) p

-- ---- by sides

-- a package, and the side for which it is built
abbrev pub Sided : Type 0
Sided = ℕ × Side

abbrev pub IsForTarget : Sided → Type 0
IsForTarget n = n.1 ≡ Target

abbrev pub IsForHost : Sided → Type 0
IsForHost n = n.1 ≡ Host

abbrev pub is_same : Side → Side → Bool
is_same Target Target = true
is_same Target Host = false
is_same Host Target = false
is_same Host Host = true

-- true if a dependency is decided for the host: what the host needs, and what a build script needs
abbrev pub is_of_host : Side → Kind → Bool
is_of_host Host kind = true
is_of_host Target Normal = false
is_of_host Target Build = true
is_of_host Target Dev = false

abbrev pub is_build : Kind → Bool
is_build Normal = false
is_build Build = true
is_build Dev = false

-- these kinds, without build-dependencies
abbrev pub shipped : Kinds → Kinds
shipped kinds = record { normal = kinds.normal; build = false; dev = kinds.dev }

abbrev pub side : Bool → Side
side true = Host
side false = Target

-- the target for which a dependency is decided in a build for the target k; without a host it is k
abbrev pub evaluated_at : Option KnownTarget → ℕ → Side → Kind → ℕ
evaluated_at None k from kind = k
evaluated_at (Some host) k from kind = cond (is_of_host from kind) (place host) k

-- the side for which a package is built that a dependency leads to; a procedural macro is built for the host
abbrev pub side_after : Side → Kind → Bool → Side
side_after from kind is_macro = side (is_of_host from kind || is_macro)

pub record StartsOn (packages : List Package) (n : Sided) : Type 0 where
  pub root : IsTrue (is_root packages n.0)
  pub on : n.1 ≡ side (is_macro packages n.0)

pub record LeadsOn (packages : List Package) (kinds : Kinds) (host : Option KnownTarget) (k : ℕ) (m n : Sided)
    : Type 0 where
  pub depends : DependsOn packages kinds m.0 n.0
  pub holds : IsTrue (is_member depends.dependency.holds (evaluated_at host k m.1 depends.dependency.kind))
  pub on : n.1 ≡ side_after m.1 depends.dependency.kind (is_macro packages n.0)

-- a root is in the build on its side, and dependencies lead on, among packages that are built for the target or for the
-- host
abbrev pub IsThereOn : List Package → Kinds → Option KnownTarget → ℕ → Sided → Type 0
IsThereOn packages kinds host k n = Reaches (StartsOn packages) (LeadsOn packages kinds host k) n

-- each dependency is a normal one, and no package is a procedural macro
pub record IsPlain (packages : List Package) : Type 0 where
  pub normal : (p : ℕ) (d : Dependency) → Contains (dependencies packages p) d → d.kind ≡ Normal
  pub no_macro : (p : ℕ) → is_macro packages p ≡ false

-- true if the sets of a package have the target k, on a side
abbrev pub is_on : PackageTargets → ℕ → Side → ℕ → Bool
is_on sets p from k = is_in sets.sets.items (node_of p from) k

abbrev pub is_at : PackageTargets → ℕ → ℕ → Bool
is_at sets p k = is_on sets p Target k || is_on sets p Host k
