use Rattle.std.proofs.lemmas.Result.{err_from_is_err_and}
use Rattle.cargo_platform.specs.Trees.{Value, tree_of, value_of}
use Rattle.cargo_platform.specs.Spelling.{Expressions}
use Rattle.cargo_platform.specs.Walk.{Wanting, WithWord, WithTree}
use Rattle.cargo_platform.specs.Inside.Parsing.{opening, stack, at_name, at_lone_name}
use Rattle.cargo_platform.proofs.TreeViews.{tree_of-Value}
use Rattle.cargo_platform.proofs.Parsing.{reads_same, reads_then, stops_then, at_word, at_literal, at_plain}
use Rattle.cargo_platform.proofs.parser.behind_name.Goals as goal

pub returns-in-Some-clause-begun : goal.returns-in-Some-clause-begun
returns-in-Some-clause-begun c =
    let l = c.args.reader.now.ahead in
    let m = c.open_group.new.reader.ahead in
    let gs = stack c.args.groups.now in
    let raw = c.args.raw in
    let name = c.args.name.now in
    let o = opening c.in-Some.group in
    let is = c.in-Some.ensures in
    reads_then Expressions l l m (at_name raw name gs) (WithWord o gs) (Wanting (stack c.open_group.new.groups))
    (reads_same Expressions l (at_name raw name gs) (WithWord o gs) (at_word o raw name gs is.0 is.1 is.2))
    c.in_ok-open_group.ensures.opened

pub returns-in-Some-literal_named-clause-begun : goal.returns-in-Some-literal_named-clause-begun
returns-in-Some-literal_named-clause-begun c =
    let l = c.args.reader.now.ahead in
    let gs = stack c.args.groups.now in
    let e = tree_of c.in-Some-literal_named.literal in
    let is = c.in-Some-literal_named.ensures in
    reads_same Expressions l (at_name c.args.raw c.args.name.now gs) (WithTree e gs)
    (at_literal e c.args.raw c.args.name.now gs is.0)

pub returns-in_err-value-clause-refused : goal.returns-in_err-value-clause-refused
returns-in_err-value-clause-refused c =
    let l = c.args.reader.now.ahead in
    let gs = stack c.args.groups.now in
    let raw = c.args.raw in
    let name = c.args.name.now in
    let r = c.in_err-value.field-0.0 in
    let p = err_from_is_err_and c.from_residual-in_err-value.result c.from_residual-in_err-value.ensures.1 in
    rw (p.1, p.2)
    (stops_then Expressions l l (at_name raw name gs) (at_lone_name raw name gs) r
    (reads_same Expressions l (at_name raw name gs) (at_lone_name raw name gs)
    (at_plain raw name gs (c.in_default.ensures, c.in_default-literal_named.ensures)))
    (c.in_err-value.ensures.refused Expressions gs))

pub returns-clause-begun : goal.returns-clause-begun
returns-clause-begun c =
    let l = c.args.reader.now.ahead in
    let m = c.read_value.new.reader.ahead in
    let gs = stack c.args.groups.now in
    let raw = c.args.raw in
    let name = c.args.name.now in
    let v = c.in_ok-value.value in
    rw (tree_of-Value v)
    (reads_then Expressions l l m (at_name raw name gs) (at_lone_name raw name gs) (WithTree (Value (value_of v)) gs)
    (reads_same Expressions l (at_name raw name gs) (at_lone_name raw name gs)
    (at_plain raw name gs (c.in_default.ensures, c.in_default-literal_named.ensures)))
    (c.in_ok-value.ensures.value Expressions gs))

pub returns-clause-clear : goal.returns-clause-clear
returns-clause-clear c =
    rw (tree_of-Value c.in_ok-value.value) c.in_ok-value.ensures.clear

pub returns-in_err-open_group-clause-refused : goal.returns-in_err-open_group-clause-refused
returns-in_err-open_group-clause-refused c =
    let l = c.args.reader.now.ahead in
    let gs = stack c.args.groups.now in
    let raw = c.args.raw in
    let name = c.args.name.now in
    let o = opening c.in-Some.group in
    let r = c.in_err-open_group.field-0.0 in
    let is = c.in-Some.ensures in
    let p = err_from_is_err_and c.from_residual.result c.from_residual.ensures.1 in
    rw (p.1, p.2)
    (stops_then Expressions l l (at_name raw name gs) (WithWord o gs) r
    (reads_same Expressions l (at_name raw name gs) (WithWord o gs) (at_word o raw name gs is.0 is.1 is.2))
    c.in_err-open_group.ensures.refused)
