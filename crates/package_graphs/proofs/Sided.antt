-- The graph of both sides leads on as the packages do.
use Rattle.std.proofs.Common.{◌≡◌, ℕ, zero, suc, ◌<◌, ◌≤◌, ◌*◌, Bool, true, false, cond, ◌&&◌, List, [], ◌∷◌, map}
use Rattle.std.proofs.Common.{length, get_or}
use Rattle.std.proofs.Common.{refl, sym, ◌∙◌, ap, subst, inl, inr, arith, Option, Some, None}
use Rattle.std.specs.Prelude.{Contains, flat_map, nat_lt, IsTrue}
use Rattle.std.proofs.lemmas.Bool.{cases_lt, and_parts, and_from, lt-ltb}
use Rattle.std.proofs.lemmas.List.{get_or_past, get_or-map, length-map}
use Rattle.known_targets.specs.Sets.{place, is_member}
use Rattle.known_targets.specs.declared.known.KnownTarget.{KnownTarget}
use Rattle.known_targets.specs.declared.target_set.TargetSet.{TargetSet}
use Rattle.package_graphs.specs.Reaching.{starts, goes_on}
use Rattle.package_graphs.specs.Graphs.{Edges, edges_from, IsPresent, LeadsAt}
use Rattle.package_graphs.specs.Kinds.{is_followed}
use Rattle.package_graphs.specs.Packages.{is_root, is_macro, dependencies, Sided, is_of_host, evaluated_at, side}
use Rattle.package_graphs.specs.Packages.{side_after}
use Rattle.package_graphs.specs.Packages.{StartsOn, LeadsOn, IsThereOn, node_of}
use Rattle.package_graphs.specs.Inside.Numbered.{condition_targets, edge_of, edges_of, numbered, AreFirst}
use Rattle.package_graphs.specs.declared.graph.Edge.{Edge}
use Rattle.package_graphs.specs.declared.packages.Dependency.{Dependency}
use Rattle.package_graphs.specs.declared.packages.Package.{Package}
use Rattle.package_graphs.specs.declared.sides.Side.{Side}
use Rattle.package_graphs.specs.declared.sides.Side.TheVariants.{Target, Host}
use Rattle.package_graphs.specs.declared.two_sided_graph.TraversalQuery.{TraversalQuery}
use Rattle.package_graphs.proofs.Chosen.{contains_flat_map, in_flat_map, contains_if, in_if}
use Rattle.package_graphs.proofs.Reached.{held_along}

-- ---- the nodes and their edges

two_on : (p : ℕ) (from : Side) → node_of (suc p) from ≡ suc (suc (node_of p from))
two_on p Target = omega arith
two_on p Host = omega arith

pub length_numbered : (q : TraversalQuery) (packages units : List Package)
    → length (numbered q packages units) ≡ 2 * length units
length_numbered q packages [] = refl
length_numbered q packages (u ∷ us) = let before = length_numbered q packages us in omega (arith, before)

pub edges_of_node : (q : TraversalQuery) (packages units : List Package) (p : ℕ) (from : Side)
    → get_or (numbered q packages units) (node_of p from) []
    ≡ flat_map (edges_of q packages (is_root units p) from) (dependencies units p)
edges_of_node q packages [] p from = refl
edges_of_node q packages (u ∷ us) zero Target = refl
edges_of_node q packages (u ∷ us) zero Host = refl
edges_of_node q packages (u ∷ us) (suc p) from =
    ap (λ (n : ℕ). get_or (numbered q packages (u ∷ us)) n []) (two_on p from)
    ∙ edges_of_node q packages us p from

pub same_node : (p r : ℕ) (from to : Side) → node_of p from ≡ node_of r to → (p ≡ r) × (from ≡ to)
same_node p r Target Target e = (omega (arith, e), refl)
same_node p r Host Host e = (omega (arith, e), refl)
same_node p r Target Host e = absurd (omega (arith, e))
same_node p r Host Target e = absurd (omega (arith, e))

pub fits_node : (p n : ℕ) (from : Side) → p < n → node_of p from < 2 * n
fits_node p n Target below = omega (arith, below)
fits_node p n Host below = omega (arith, below)

pub has_package : (packages : List Package) (p : ℕ) (d : Dependency) → Contains (dependencies packages p) d
    → p < length packages
has_package packages p d (j, below, is) =
    elim (cases_lt p (length packages)) as (λ _. p < length packages) [
      | inl inside ↦ inside
      | inr past ↦
          let fits : length (map (λ p. p.dependencies.items) packages) ≤ p =
          omega (arith, past, length-map packages (λ p. p.dependencies.items)) in
          let none : dependencies packages p ≡ [] =
          get_or_past (map (λ p. p.dependencies.items) packages) p [] fits in
          let nowhere : j < 0 = subst (λ (ds : List Dependency). j < length ds) none below in
          absurd (omega (arith, nowhere))
    ]

-- ---- where an edge holds

by_bool : (b : Bool) (always never : TargetSet) (k : ℕ) → is_member always k ≡ true → is_member never k ≡ false
    → is_member (cond b always never) k ≡ b
by_bool true always never k all none = all
by_bool false always never k all none = none

of_host : (b : Bool) (s d : TargetSet) (h k : ℕ) → is_member s k ≡ is_member d h
    → is_member (cond b s d) k ≡ is_member d (cond b h k)
of_host true s d h k is = is
of_host false s d h k is = refl

pub holds_is : (host : Option KnownTarget) (always never : TargetSet) (from : Side) (d : Dependency) (k : ℕ)
    → is_member always k ≡ true → is_member never k ≡ false
    → is_member (condition_targets host always never from d) k ≡ is_member d.holds (evaluated_at host k from d.kind)
holds_is None always never from d k all none = refl
holds_is (Some host) always never from d k all none =
    of_host (is_of_host from d.kind) (cond (is_member d.holds (place host)) always never) d.holds (place host) k
    (by_bool (is_member d.holds (place host)) always never k all none)

-- ---- both ways

module _ (q : TraversalQuery) (packages : List Package) (k : ℕ) (roots : List ℕ)
    (all : is_member q.always k ≡ true) (none : is_member q.never k ≡ false)
    (firsts : AreFirst q packages (length packages) roots) where
  abbrev Graph : Edges
  Graph = numbered q packages packages

  -- the node is that of a package and side that is there
  abbrev Meant : ℕ → Type 0
  Meant r = (n : Sided) × (r ≡ node_of n.0 n.1) × IsThereOn packages q.kinds q.host k n

  meant_first : (r : ℕ) → Contains roots r → Meant r
  meant_first r is =
      let f = firsts.sound r is in
      let n : Sided = (f.0, side (is_macro packages f.0)) in
      (n, f.2, starts n (record { root = f.1; on = refl }))

  chosen : (m r : ℕ) (n : Sided) → m ≡ node_of n.0 n.1 → LeadsAt Graph k m r
      → (d : Dependency) × Contains (dependencies packages n.0) d
      × IsTrue (is_followed q.kinds (is_root packages n.0) d.kind) × (r ≡ (edge_of q packages n.1 d).to)
      × IsTrue (is_member (edge_of q packages n.1 d).holds k)
  chosen m r n is leads =
      let begins = subst (λ (x : ℕ). Contains (edges_from Graph x) leads.edge) is leads.begins in
      let listed = subst (λ (es : List Edge). Contains es leads.edge)
      (edges_of_node q packages packages n.0 n.1) begins in
      let from = contains_flat_map (edges_of q packages (is_root packages n.0) n.1) (dependencies packages n.0)
      leads.edge listed in
      let picked = contains_if
      (nat_lt from.0.to (length packages) && is_followed q.kinds (is_root packages n.0) from.0.kind)
      (edge_of q packages n.1 from.0) leads.edge from.2 in
      let parts = and_parts (nat_lt from.0.to (length packages)) _ picked.0 in (
        from.0,
        from.1,
        parts.1,
        sym leads.ends ∙ ap (λ (e : Edge). e.to) (sym picked.1),
        subst (λ (e : Edge). IsTrue (is_member e.holds k)) (sym picked.1) leads.holds,
      )

  meant_on : (m r : ℕ) → Meant m → LeadsAt Graph k m r → Meant r
  meant_on m r (n, is, there) leads =
      let c = chosen m r n is leads in
      let d = c.0 in
      let next : Sided = (d.to, side_after n.1 d.kind (is_macro packages d.to)) in (
        next,
        c.3,
        goes_on n next there (record {
          depends = record { dependency = d; begins = c.1; ends = refl; followed = c.2 };
          holds = sym (holds_is q.host q.always q.never n.1 d k all none) ∙ c.4;
          on = refl;
        }),
      )

  pub sided_from_node : (n : Sided) → IsPresent Graph roots k (node_of n.0 n.1)
      → IsThereOn packages q.kinds q.host k n
  sided_from_node n here =
      let meant = held_along (λ root. Contains roots root) (λ m r. LeadsAt Graph k m r) Meant meant_first meant_on
      (node_of n.0 n.1) here in
      let same = same_node n.0 meant.0.0 n.1 meant.0.1 meant.1 in
      let first = subst (λ (p : ℕ). IsThereOn packages q.kinds q.host k (p, meant.0.1)) (sym same.0) meant.2 in
      subst (λ (s : Side). IsThereOn packages q.kinds q.host k (n.0, s)) (sym same.1) first

  abbrev Present : Sided → Type 0
  Present n = n.0 < length packages → IsPresent Graph roots k (node_of n.0 n.1)

  present_first : (n : Sided) → StartsOn packages n → Present n
  present_first n is inside =
      starts (node_of n.0 n.1)
      (subst (λ (s : Side). Contains roots (node_of n.0 s)) (sym is.on) (firsts.complete n.0 inside is.root))

  present_on : (m n : Sided) → Present m → LeadsOn packages q.kinds q.host k m n → Present n
  present_on m n here leads inside =
      let d = leads.depends.dependency in
      let edge = edge_of q packages m.1 d in
      let is_inside : nat_lt d.to (length packages) ≡ true =
      lt-ltb d.to (length packages) (subst (λ (x : ℕ). x < length packages) (sym leads.depends.ends) inside) in
      let listed = in_flat_map (edges_of q packages (is_root packages m.0) m.1) (dependencies packages m.0) d edge
      leads.depends.begins
      (in_if _ edge (and_from (nat_lt d.to (length packages)) _ is_inside leads.depends.followed)) in
      let begins = subst (λ (es : List Edge). Contains es edge)
      (sym (edges_of_node q packages packages m.0 m.1)) listed in
      let on : side_after m.1 d.kind (is_macro packages d.to) ≡ n.1 =
      ap (λ (x : ℕ). side_after m.1 d.kind (is_macro packages x)) leads.depends.ends ∙ sym leads.on in
      let ends : edge.to ≡ node_of n.0 n.1 =
      ap (λ (x : ℕ). node_of x (side_after m.1 d.kind (is_macro packages d.to))) leads.depends.ends
      ∙ ap (λ (s : Side). node_of n.0 s) on in
      goes_on (node_of m.0 m.1) (node_of n.0 n.1) (here (has_package packages m.0 d leads.depends.begins)) (record {
        edge = edge;
        begins = begins;
        ends = ends;
        holds = holds_is q.host q.always q.never m.1 d k all none ∙ leads.holds;
      })

  pub node_from_sided : (n : Sided) → IsThereOn packages q.kinds q.host k n → Present n
  node_from_sided n =
      held_along (StartsOn packages) (LeadsOn packages q.kinds q.host k) Present present_first present_on n

-- ---- what is read of a package

pub root_read : (packages : List Package) (p : ℕ) (x : Package) → p < length packages
    → is_root packages p ≡ (get_or packages p x).is_root
root_read packages p x inside = get_or-map (λ p. p.is_root) packages p x false inside

pub macro_read : (packages : List Package) (p : ℕ) (x : Package) → p < length packages
    → is_macro packages p ≡ (get_or packages p x).is_macro
macro_read packages p x inside = get_or-map (λ p. p.is_macro) packages p x false inside
