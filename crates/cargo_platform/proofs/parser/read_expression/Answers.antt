use Rattle.std.proofs.Common.{◌≡◌, ◌∙◌, refl, sym, ap, subst, true, List, [], ◌∷◌, Option, Some}
use Rattle.std.proofs.lemmas.Result.{err_from_is_err_and}
use Rattle.cargo_platform.specs.declared.cfg.CfgExpr.{CfgExpr}
use Rattle.cargo_platform.specs.Inside.Ahead.{Ahead}
use Rattle.cargo_platform.specs.Tokens.{Comma}
use Rattle.cargo_platform.specs.Trees.{Tree, tree_of}
use Rattle.cargo_platform.specs.Spelling.{Expressions}
use Rattle.cargo_platform.specs.Walk.{Opening, Wanting, WithTree, start, Word, Several, Negation, kind, kinds}
use Rattle.cargo_platform.specs.Inside.Parsing.{is_list, opening, stack, with_last, at_done, Reads, IsClear}
use Rattle.cargo_platform.specs.Inside.Parsing.{IsClearAfter}
use Rattle.cargo_platform.proofs.Parsing.{reads_taken, reads_then, stops_then, whole_stops, comma_step}
use Rattle.cargo_platform.proofs.parser.read_expression.Goals as goal

-- what was read up to an expression, and that what comes next does not go on with it
record Ended (a l : Ahead) (gs : List Opening) (e : Tree) : Type 0 where
  reads : Reads Expressions a l start (WithTree e gs)
  clear : IsClear e l

-- an expression was read last
ended : (a l m : Ahead) (gs os : List Opening) (last : Option CfgExpr) (e : CfgExpr) → last ≡ Some e → gs ≡ os → m ≡ l
    → Reads Expressions a l start (at_done gs last) → IsClearAfter last l → Ended a m os (tree_of e)
ended a l m gs os last e is stacked same reads clear =
    let D : Option CfgExpr → Type 0 = λ z. Reads Expressions a l start (at_done gs z) × IsClearAfter z l in
    let E : List Opening → Type 0 = λ z. Ended a l z (tree_of e) in
    let F : Ahead → Type 0 = λ z. Ended a z os (tree_of e) in
    let both = subst D is (reads, clear) in
    subst F (sym same) (subst E stacked (record { reads = both.0; clear = both.1 }))

pub groups-preserved-in_default : goal.groups-preserved-in_default
groups-preserved-in_default c =
    let a = c.args.reader.now.ahead in
    let l = c.groups.reader.ahead in
    let m = c.begin.new.reader.ahead in
    let gs = stack c.groups.groups in
    let D : Option CfgExpr → Type 0 = λ z. Reads Expressions a l start (at_done gs z) in
    record {
      same_text = c.begin.ensures.same_text ∙ c.groups.invariant.same_text;
      reads =
          reads_then Expressions a l m start (Wanting gs) (at_done (stack c.begin.new.groups) c.in_ok-done.done)
          (subst D c.in_default.is c.groups.invariant.reads) c.in_ok-done.ensures.begun;
      clear = c.in_ok-done.ensures.clear;
    }

pub groups-preserved-then-eat_comma : goal.groups-preserved-then-eat_comma
groups-preserved-then-eat_comma c =
    let a = c.args.reader.now.ahead in
    let l = c.groups.reader.ahead in
    let m = c.eat_comma.new.reader.ahead in
    let gs = stack c.groups.groups in
    let e = tree_of c.in-Some.e in
    let W : List Opening → Type 0 = λ z. Reads Expressions a m start (Wanting z) in
    let before = ended a l l gs gs c.groups.done c.in-Some.e c.in-Some.is refl refl c.groups.invariant.reads
    c.groups.invariant.clear in
    record {
      same_text = c.eat_comma.ensures.same_text ∙ c.groups.invariant.same_text;
      reads =
          subst W (sym c.in_ok-add_member.ensures)
          (reads_then Expressions a l m start (WithTree e gs) (Wanting (with_last gs e)) before.reads
          (reads_taken Expressions l m Comma (WithTree e gs) (Wanting (with_last gs e))
          (c.eat_comma.ensures.taken c.if-eat_comma.true)
          (comma_step e gs (c.eat_comma.ensures.in_list c.if-eat_comma.true))));
      clear = tt;
    }

pub groups-preserved : goal.groups-preserved
groups-preserved c =
    let a = c.args.reader.now.ahead in
    let k = c.eat_comma.new.reader.ahead in
    let m = c.close_group.new.reader.ahead in
    let os = opening c.in-Some-pop.group ∷ stack c.pop.new.self in
    let before = ended a c.groups.reader.ahead k (stack c.groups.groups) os c.groups.done c.in-Some.e c.in-Some.is
    c.in-Some-pop.ensures (c.eat_comma.ensures.not_taken c.if-eat_comma.false).0 c.groups.invariant.reads
    c.groups.invariant.clear in
    record {
      same_text = c.close_group.ensures.same_text ∙ c.eat_comma.ensures.same_text ∙ c.groups.invariant.same_text;
      reads =
          reads_then Expressions a k m start (WithTree (tree_of c.in-Some.e) os)
          (WithTree (tree_of c.in_ok-close_group.field-0) (stack c.pop.new.self)) before.reads
          (c.in_ok-close_group.ensures.closed (stack c.pop.new.self));
      clear = c.in_ok-close_group.ensures.clear;
    }

pub returns-in_err-done-clause-refused : goal.returns-in_err-done-clause-refused
returns-in_err-done-clause-refused c =
    let a = c.args.reader.now.ahead in
    let l = c.groups.reader.ahead in
    let gs = stack c.groups.groups in
    let D : Option CfgExpr → Type 0 = λ z. Reads Expressions a l start (at_done gs z) in
    let r = c.in_err-done.field-0.0 in
    let p = err_from_is_err_and c.from_residual.result c.from_residual.ensures.1 in
    rw (p.1, p.2)
    (stops_then Expressions a l start (Wanting gs) r
    (subst D c.in_default.is c.groups.invariant.reads) c.in_err-done.ensures.refused)

pub returns-in_err-close_group-clause-refused : goal.returns-in_err-close_group-clause-refused
returns-in_err-close_group-clause-refused c =
    let a = c.args.reader.now.ahead in
    let k = c.eat_comma.new.reader.ahead in
    let os = opening c.in-Some-pop.group ∷ stack c.pop.new.self in
    let before = ended a c.groups.reader.ahead k (stack c.groups.groups) os c.groups.done c.in-Some.e c.in-Some.is
    c.in-Some-pop.ensures (c.eat_comma.ensures.not_taken c.if-eat_comma.false).0 c.groups.invariant.reads
    c.groups.invariant.clear in
    let r = c.in_err-close_group.field-0.0 in
    let p = err_from_is_err_and c.from_residual-in_err-close_group.result
    c.from_residual-in_err-close_group.ensures.1 in
    rw (p.1, p.2)
    (stops_then Expressions a k start (WithTree (tree_of c.in-Some.e) os) r before.reads
    (c.in_err-close_group.ensures.refused (stack c.pop.new.self)))

pub returns-in_err-expect_end-clause-refused : goal.returns-in_err-expect_end-clause-refused
returns-in_err-expect_end-clause-refused c =
    let a = c.args.reader.now.ahead in
    let k = c.eat_comma.new.reader.ahead in
    let e = tree_of c.in-Some.e in
    let r = c.in_err-expect_end.field-0.0 in
    let before = ended a c.groups.reader.ahead k (stack c.groups.groups) [] c.groups.done c.in-Some.e c.in-Some.is
    c.in_default-pop.ensures.0 (c.eat_comma.ensures.not_taken c.if-eat_comma.false).0 c.groups.invariant.reads
    c.groups.invariant.clear in
    let p = err_from_is_err_and c.from_residual-in_err-expect_end.result
    c.from_residual-in_err-expect_end.ensures.1 in
    rw (p.1, p.2)
    (stops_then Expressions a k start (WithTree e []) r before.reads
    (whole_stops Expressions k e r before.clear c.in_err-expect_end.ensures.more))

list_alone : (w : Word) (ws : List Word) → is_list (w ∷ []) ≡ true → is_list (w ∷ ws) ≡ true
list_alone Several ws h = refl
list_alone Negation ws h = h

pub close_group-requires-clause-clear : goal.close_group-requires-clause-clear
close_group-requires-clause-clear c =
    (ended c.args.reader.now.ahead c.groups.reader.ahead c.eat_comma.new.reader.ahead (stack c.groups.groups)
    (opening c.in-Some-pop.group ∷ stack c.pop.new.self) c.groups.done c.in-Some.e c.in-Some.is c.in-Some-pop.ensures
    (c.eat_comma.ensures.not_taken c.if-eat_comma.false).0 c.groups.invariant.reads c.groups.invariant.clear).clear

pub close_group-requires-clause-last : goal.close_group-requires-clause-last
close_group-requires-clause-last c = λ alone.
    let n = c.eat_comma.ensures.not_taken c.if-eat_comma.false in
    let gs = stack c.pop.new.self in
    rw n.0
    (n.1 (ap (λ z. is_list (kinds z)) c.in-Some-pop.ensures
    ∙ list_alone (kind (opening c.in-Some-pop.group)) (kinds gs) alone))
