use Rattle.std.proofs.Common.{◌≡◌, ◌<◌, ◌≤◌, length, List, map, take, drop, ◌++◌, sym, subst, arith}
use Rattle.std.proofs.lemmas.List.{append-nil}
use Rattle.declared_features.specs.Rows.{EdgeKind, of_kind, AreRowsOf}
use Rattle.declared_features.proofs.Placing.{rows_pushed, rows_ended, kinds_more, kinds_rest, kinds_all}
use Rattle.declared_features.proofs.declaring.push_rows.Goals as goal

pub kinds-init : goal.kinds-init
kinds-init c kinds are =
    subst (λ (ks : List EdgeKind). AreRowsOf ks c.args.links.now c.args.rows.now.items) (sym (append-nil kinds)) are

pub returns-then-index-links : goal.returns-then-index-links
returns-then-index-links c kinds are =
    let edge = c.args.edge.now in
    let i = c.kinds.i in
    let rows = c.kinds.rows.items in
    let past : length c.args.links.now ≤ length rows =
    omega (arith, c.if-index-links.true, c.len-index.ensures, c.kinds.rows.ok.0) in
    subst (λ (ks : List EdgeKind). AreRowsOf ks c.args.links.now rows) (sym (kinds_rest kinds edge i))
    (rows_ended (kinds ++ map (of_kind edge) (take i edge.kinds.items)) (map (of_kind edge) (drop i edge.kinds.items))
    c.args.links.now rows past (c.kinds.invariant kinds are))

pub kinds-preserved : goal.kinds-preserved
kinds-preserved c kinds are =
    let edge = c.args.edge.now in
    let i = c.kinds.i in
    let links = c.args.links.now in
    let rows = c.kinds.rows.items in
    let kind = c.index-kind.result.now in
    let below : i < length edge.kinds.items = omega (arith, c.kinds-test.true, c.len-i-end.ensures, edge.kinds.ok.0) in
    let index : c.len-index.result ≡ length rows = omega (arith, c.len-index.ensures, c.kinds.rows.ok.0) in
    subst (λ (ks : List EdgeKind). AreRowsOf ks links c.push.new.self.items)
    (sym (kinds_more kinds edge i kind below c.index-kind.ensures))
    (rows_pushed (kinds ++ map (of_kind edge) (take i edge.kinds.items)) links rows c.push.new.self.items c.args.edge
    kind c.len-index.result _ c.in_ok-push.ensures.items index (omega arith) (c.kinds.invariant kinds are))

pub returns : goal.returns
returns c kinds are =
    let edge = c.args.edge.now in
    let i = c.kinds.i in
    let past : length edge.kinds.items ≤ i = omega (arith, c.kinds-test.false, c.len-i-end.ensures, edge.kinds.ok.0) in
    subst (λ (ks : List EdgeKind). AreRowsOf ks c.args.links.now c.kinds.rows.items) (kinds_all kinds edge i past)
    (c.kinds.invariant kinds are)
