use Rattle.std.proofs.Common.{◌≡◌, ◌<◌, ◌==◌, ℕ, true, List, length, get_or, refl, sym, ◌∙◌, subst, arith}
use Rattle.std.proofs.lemmas.Bool.{or_left, or_right, and_from, and_parts, eq-eqb}
use Rattle.known_targets.specs.Sets.{is_member}
use Rattle.known_targets.specs.declared.table.TheConstants.{COUNT}
use Rattle.package_graphs.specs.Graphs.{edge_lists, edges_from, is_in}
use Rattle.package_graphs.proofs.Carried.{carried_more, sound_more, along, read_edge, no_edge}
use Rattle.package_graphs.proofs.SetLists.{is_in_read}
use Rattle.package_graphs.specs.declared.graph.Edge.{Edge}
use Rattle.package_graphs.proofs.presence.go_over.Goals as goal

pub edges-preserved : goal.edges-preserved
edges-preserved c =
    let graph = edge_lists c.args.graph.now in
    let node = c.args.node in
    let at = is_in c.edges.sets.items in
    let new = is_in c.add.new.sets.items in
    let i = c.edges.edge-index in
    let edges = c.edges_from-edges.result.now in
    let edge = get_or edges i no_edge in
    let is : (d : Edge) → edge ≡ get_or (edges_from graph node) i d =
    λ d. read_edge edges (edges_from graph node) i no_edge d c.edges_from-edges.ensures c.edges-test.true in
    let inside : i < length (edges_from graph node) =
    subst (λ (es : List Edge). i < length es) c.edges_from-edges.ensures c.edges-test.true in
    let fits : node < length c.edges.sets.items =
    omega (arith, c.requires.known, c.edges.invariant.count, c.edges.sets.ok.0) in
    let read : (k : ℕ) → at node k ≡ is_member c.index.result.now k =
    λ k. is_in_read c.edges.sets.items node c.index.result.now k fits c.index.ensures in
    let grown : (n k : ℕ) → k < COUNT → at n k ≡ true → new n k ≡ true =
    λ n k known here. c.in_ok-add.ensures.sets n k known ∙ or_left _ _ here in
    record {
      queue = c.in_ok-add.ensures.queue;
      nodes = c.in_ok-add.ensures.nodes ∙ c.edges.invariant.nodes;
      count = c.in_ok-add.ensures.count ∙ c.edges.invariant.count;
      grown = λ n k known here. grown n k known (c.edges.invariant.grown n k known here);
      waited = λ n rests. c.edges.invariant.waited n (c.in_ok-add.ensures.waited n rests);
      same = λ n k known rests. c.in_ok-add.ensures.same n k known rests
          ∙ c.edges.invariant.same n k known (c.in_ok-add.ensures.waited n rests);
      carried = λ rests.
          carried_more graph at new node i edge grown (λ k known. c.in_ok-add.ensures.same node k known rests) is
          (c.edges.invariant.carried (c.in_ok-add.ensures.waited node rests))
          (λ k known end here holds.
          let was = sym (c.in_ok-add.ensures.same node k known rests) ∙ here in
          let both = c.along-more.ensures k known ∙ and_from _ _ (sym (read k) ∙ was) holds in
          c.in_ok-add.ensures.sets edge.to k known
          ∙ or_right (at edge.to k) _ (and_from (edge.to == edge.to) _ (eq-eqb edge.to edge.to refl) both));
      sound = λ roots h.
          sound_more graph roots at new edge.to (is_member c.along-more.result) c.in_ok-add.ensures.sets
          (λ k known more.
          let parts = and_parts _ _ (sym (c.along-more.ensures k known) ∙ more) in
          along graph roots at node i edge inside is (c.edges.invariant.sound roots h) k known
          (read k ∙ parts.0) parts.1)
          (c.edges.invariant.sound roots h);
      work = omega (arith, c.in_ok-add.ensures.work, c.edges.invariant.work);
    }
