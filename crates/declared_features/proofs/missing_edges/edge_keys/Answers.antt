use Rattle.std.proofs.Common.{◌≡◌, ◌<◌, ◌≤◌, ◌+◌, ◌∙◌, ◌⊎◌, inl, inr, ℕ, List, Option, Some, None, Bor, Vec, Global}
use Rattle.std.proofs.Common.{Bool, true, false}
use Rattle.std.proofs.Common.{length, take, get_or, sym, refl, ap, subst, arith, map}
use Rattle.std.specs.Prelude.{Any}
use Rattle.declared_features.specs.Inside.Keys.{HasKey, IsKeyOf, HasEdgeWith}
use Rattle.declared_features.proofs.Growing.{grown_next, grown_end, grown_from_nothing}
use Rattle.declared_features.proofs.EdgeKeys.{no_keys, keys_of_rows}
use Rattle.declared_features.proofs.missing_edges.edge_keys.Goals as goal

pub rows-preserved : goal.rows-preserved
rows-preserved c =
    let rows = c.in_ok-rows.rows in
    let below : c.rows.i < length rows.items = omega (arith, c.rows-test.true, c.len-i-end.ensures, rows.ok.0) in
    grown_next (HasKey c.new-keys.result) (HasKey c.rows.keys) (HasKey c.add_key.new.keys) rows.items c.rows.i
    c.index.result.now (λ row key. IsKeyOf c.args.graph.now row key) below c.index.ensures c.in_ok-add_key.ensures
    c.rows.invariant

pub returns : goal.returns
returns c key =
    let graph = c.args.graph.now in
    let rows = c.in_ok-rows.rows in
    let past : length rows.items ≤ c.rows.i = omega (arith, c.rows-test.false, c.len-i-end.ensures, rows.ok.0) in
    let just =
    grown_from_nothing (HasKey c.new-keys.result) (HasKey c.rows.keys)
    (λ key. Any (λ row. IsKeyOf graph row key) rows.items) (no_keys c.new-keys.result c.new-keys.ensures.empty)
    (grown_end (HasKey c.new-keys.result) (HasKey c.rows.keys) rows.items c.rows.i
    (λ row key. IsKeyOf graph row key) past c.rows.invariant) key in
    let edges = keys_of_rows graph c.args.node rows.items key c.in_ok-rows.ensures in
    (λ has. edges.0 (just.0 has), λ has. just.1 (edges.1 has))
