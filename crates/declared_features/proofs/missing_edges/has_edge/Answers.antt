use Rattle.std.proofs.Common.{◌≡◌, ◌<◌, ◌≤◌, ◌+◌, ◌∙◌, ◌⊎◌, inl, inr, ℕ, List, Option, Some, None, Bor, Vec, Global}
use Rattle.std.proofs.Common.{Bool, true, false}
use Rattle.std.proofs.Common.{length, take, get_or, sym, refl, ap, subst, arith, map}
use Rattle.std.specs.Prelude.{Any}
use Rattle.declared_features.specs.Edges.{IsOf}
use Rattle.declared_features.specs.MissingEdges.{HasEdge}
use Rattle.declared_features.specs.declared.declaring.DependencyRow.{DependencyRow}
use Rattle.declared_features.proofs.First.{none_next, none_end}
use Rattle.declared_features.proofs.EdgeKeys.{edge_of_row, row_of_edge, edge_moves}
use Rattle.declared_features.proofs.missing_edges.has_edge.Goals as goal

pub returns-then-is_declared_as : goal.returns-then-is_declared_as
returns-then-is_declared_as c =
    let rows = c.in_ok-rows.rows in
    let below : c.rows.i < length rows.items = omega (arith, c.rows-test.true, c.len-i-end.ensures, rows.ok.0) in
    let has : HasEdge c.args.graph.now c.args.node c.args.declared.now = record {
      row = c.index.result.now;
      there = edge_of_row c.args.graph.now c.args.node rows.items c.rows.i c.index.result.now c.in_ok-rows.ensures below
          c.index.ensures;
      belongs = c.is_declared_as.ensures.0 c.if-is_declared_as.true;
    } in
    (λ h. has, λ h. refl)

pub rows-preserved : goal.rows-preserved
rows-preserved c =
    let rows = c.in_ok-rows.rows in
    let below : c.rows.i < length rows.items = omega (arith, c.rows-test.true, c.len-i-end.ensures, rows.ok.0) in
    none_next (λ row. IsOf c.args.graph.now c.args.node row c.args.declared.now) rows.items c.rows.i c.index.result.now
    below c.index.ensures (λ is. let yes = c.is_declared_as.ensures.1 is in let no = c.if-is_declared_as.false in cc)
    c.rows.invariant

pub returns : goal.returns
returns c =
    let graph = c.args.graph.now in
    let rows = c.in_ok-rows.rows in
    let past : length rows.items ≤ c.rows.i = omega (arith, c.rows-test.false, c.len-i-end.ensures, rows.ok.0) in
    let P = λ (row : DependencyRow). IsOf graph c.args.node row c.args.declared.now in (
      λ h. absurd (let no : false ≡ true = h in cc),
      λ has. absurd (none_end P rows.items c.rows.i past c.rows.invariant
          (row_of_edge graph c.args.node rows.items P (edge_moves graph c.args.node c.args.declared.now)
          c.in_ok-rows.ensures
          has.row has.there has.belongs)),
    )
