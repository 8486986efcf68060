use Rattle.std.proofs.Common.{◌≡◌, ◌<◌, ◌∷◌, ◌++◌, [], List, length, set, sym, ◌∙◌, ap, arith}
use Rattle.std.proofs.lemmas.List.{get_or-map, map-set, length-map}
use Rattle.package_graphs.specs.Graphs.{edge_lists, edges_from}
use Rattle.package_graphs.specs.declared.graph.Edge.{Edge}
use Rattle.package_graphs.proofs.graph.Graph.add_edge.Goals as goal

pub returns : goal.returns
returns c =
    let nodes = c.args.self.now.nodes.items in
    let fits : c.args.from < length nodes = omega (arith, c.requires, length-map nodes (λ edges. edges.items)) in
    let old = get_or-map (λ edges. edges.items) nodes c.args.from c.index_mut.result.now [] fits in
    let is : c.push.new.self.items ≡ edges_from (edge_lists c.args.self.now) c.args.from ++ c.args.edge ∷ [] =
    c.in_ok-push.ensures.items ∙ ap (λ (es : List Edge). es ++ c.args.edge ∷ [])
    (ap (λ v. v.items) c.index_mut.ensures.value ∙ sym old) in
    map-set (λ edges. edges.items) nodes c.args.from c.push.new.self
    ∙ ap (λ (es : List Edge). set (edge_lists c.args.self.now) c.args.from es) is
