use Rattle.std.proofs.Common.{◌≡◌, ◌<◌, ◌↔◌, ℕ, List, length, Option, sym, subst, inl, inr, arith}
use Rattle.std.proofs.lemmas.Bool.{or_cases}
use Rattle.std.specs.Prelude.{IsTrue, None}
use Rattle.known_targets.specs.declared.known.KnownTarget.{KnownTarget}
use Rattle.known_targets.specs.declared.table.TheConstants.{COUNT}
use Rattle.package_graphs.specs.Graphs.{Edges, is_in, IsPresent}
use Rattle.package_graphs.specs.Packages.{Sided, IsThere, IsThereOn, node_of}
use Rattle.package_graphs.specs.declared.packages.Kinds.{Kinds}
use Rattle.package_graphs.specs.declared.sides.Side.TheVariants.{Target, Host}
use Rattle.package_graphs.specs.Inside.Numbered.{numbered}
use Rattle.package_graphs.specs.declared.two_sided_graph.TraversalQuery.{TraversalQuery}
use Rattle.package_graphs.proofs.Sided.{length_numbered, fits_node, sided_from_node, node_from_sided}
use Rattle.package_graphs.proofs.Alone.{alone_from_none, none_from_alone}
use Rattle.package_graphs.proofs.Followed.{from_side}
use Rattle.package_graphs.proofs.package_sets.package_targets.Goals as goal

pub returns : goal.returns
returns c =
    let packages = c.args.packages.now in
    let q : TraversalQuery = c.new-traversal.result in
    let sets = c.in_ok-reached_targets.field-0.items in
    let nodes = c.in_ok-roots.roots.items in
    let firsts = c.in_ok-roots.ensures in
    let at_node : (n : Sided) (k : ℕ) → n.0 < length packages → k < COUNT
    → IsTrue (is_in sets (node_of n.0 n.1) k) ↔ IsPresent (numbered q packages packages) nodes k (node_of n.0 n.1) =
    λ n k inside known.
    let below : node_of n.0 n.1 < length (numbered q packages packages) =
    let fits = fits_node n.0 (length packages) n.1 inside in
    let count = length_numbered q packages packages in
    omega (arith, fits, count) in
    let fits = subst (λ (es : Edges). node_of n.0 n.1 < length es) (sym c.in_ok-graph.ensures) below in
    let e = c.in_ok-reached_targets.ensures.exact (node_of n.0 n.1) k fits known in
    let f = subst (λ (es : Edges). IsTrue (is_in sets (node_of n.0 n.1) k)
    ↔ IsPresent es c.deref.result.now k (node_of n.0 n.1)) c.in_ok-graph.ensures e in
    subst (λ (rs : List ℕ). IsTrue (is_in sets (node_of n.0 n.1) k)
    ↔ IsPresent (numbered q packages packages) rs k (node_of n.0 n.1)) c.deref.ensures.value f in
    let asked : (n : Sided) (k : ℕ) → n.0 < length packages → k < COUNT
    → IsTrue (is_in sets (node_of n.0 n.1) k) ↔ IsThereOn packages q.kinds q.host k n =
    λ n k inside known.
    let e = at_node n k inside known in
    let all = c.new-traversal.ensures.sets.all k known in
    let none = c.new-traversal.ensures.sets.none k known in (
      λ h. sided_from_node q packages k nodes all none firsts n (e.0 h),
      λ h. e.1 (node_from_sided q packages k nodes all none firsts n h inside),
    ) in
    let exact : (n : Sided) (k : ℕ) → n.0 < length packages → k < COUNT
    → IsTrue (is_in sets (node_of n.0 n.1) k) ↔ IsThereOn packages c.args.kinds c.args.host k n =
    λ n k inside known.
    subst (λ (kinds : Kinds). IsTrue (is_in sets (node_of n.0 n.1) k) ↔ IsThereOn packages kinds c.args.host k n)
    c.new-traversal.ensures.kinds
    (subst (λ (host : Option KnownTarget). IsTrue (is_in sets (node_of n.0 n.1) k)
    ↔ IsThereOn packages q.kinds host k n) c.new-traversal.ensures.host (asked n k inside known)) in
    let alone : c.args.host ≡ None → (n : Sided) (k : ℕ) → n.0 < length packages → k < COUNT
    → IsTrue (is_in sets (node_of n.0 n.1) k) → IsThere packages c.args.kinds k n.0 =
    λ none n k inside known h.
    alone_from_none packages c.args.kinds k n
    (subst (λ (host : Option KnownTarget). IsThereOn packages c.args.kinds host k n) none
    ((exact n k inside known).0 h)) in
    record {
      exact = exact;
      without_host = λ none p k inside known. (
        λ h.
            elim (or_cases (is_in sets (node_of p Target) k) (is_in sets (node_of p Host) k) h) [
              | inl a ↦ alone none (p, Target) k inside known a
              | inr b ↦ alone none (p, Host) k inside known b
            ],
        λ h.
            let there = none_from_alone packages c.args.kinds k p h in
            from_side (λ s. is_in sets (node_of p s) k) there.0
            ((exact (p, there.0) k inside known).1
            (subst (λ (host : Option KnownTarget). IsThereOn packages c.args.kinds host k (p, there.0)) (sym none)
            there.1)),
      );
    }
