use Rattle.std.proofs.Common.{refl, sym, subst, List, [], ◌∷◌, ◌++◌, true≢false}
use Rattle.std.proofs.lemmas.Result.{err_from_is_err_and}
use Rattle.cargo_platform.specs.Tokens.{RightParen, Comma}
use Rattle.cargo_platform.specs.Trees.{Not}
use Rattle.cargo_platform.specs.Spelling.{Expressions}
use Rattle.cargo_platform.specs.Walk.{Opening, Negated, Listed, list_tree, Wanting, WithTree}
use Rattle.cargo_platform.specs.Inside.Ahead.{Ahead}
use Rattle.cargo_platform.specs.Inside.Parsing.{is_all, Reads, IsClear}
use Rattle.cargo_platform.specs.Inside.Matching.{words}
use Rattle.cargo_platform.proofs.Parsing.{reads_taken, reads_then, stops_then, list_clear}
use Rattle.cargo_platform.proofs.Evaluating.{ends_at, in_not, in_list}
use Rattle.cargo_platform.proofs.matching.end_member.Goals as goal

pub returns-in_err-close-in-Not-clause-refused : goal.returns-in_err-close-in-Not-clause-refused
returns-in_err-close-in-Not-clause-refused c =
    let l = c.args.reader.now.ahead in
    let r = c.in_err-close-in-Not.field-0.0 in
    let p = err_from_is_err_and c.from_residual.result c.from_residual.ensures.1 in
    rw (p.1, p.2)
    (λ fs old from ends kind.
    let inside = rw c.in-Not.is at kind in
    let gs : List Opening = Negated ∷ inside.1 in
    let at = ends_at fs old l from (words c.args.levels.now) c.args.is_true ends gs (in_not ends.gs inside) in
    stops_then Expressions old l from (WithTree ends.e gs) r at.reads
    (c.in_err-close-in-Not.ensures.refused Negated inside.1 ends.e (λ no_list. absurd (true≢false (sym no_list)))
    ends.clear))

pub returns-in_ok-close-in-Not-clause-ended : goal.returns-in_ok-close-in-Not-clause-ended
returns-in_ok-close-in-Not-clause-ended c = λ fs old from ends kind.
    let l = c.args.reader.now.ahead in
    let m = c.close.new.reader.ahead in
    let inside = rw c.in-Not.is at kind in
    let hs = inside.1 in
    let gs : List Opening = Negated ∷ hs in
    let at = ends_at fs old l from (words c.args.levels.now) c.args.is_true ends gs (in_not ends.gs inside) in
    let closed = c.close_not.ensures fs hs ends.e at.hold at.is in
    record {
      gs = hs;
      hold = closed.0;
      e = Not ends.e;
      reads =
          reads_then Expressions old l m from (WithTree ends.e gs) (WithTree (Not ends.e) hs) at.reads
          (reads_taken Expressions l m RightParen (WithTree ends.e gs) (WithTree (Not ends.e) hs)
          c.in_ok-close-in-Not.ensures.taken refl);
      clear = tt;
      is = closed.1;
    }

pub returns-then-eat-clause-ended : goal.returns-then-eat-clause-ended
returns-then-eat-clause-ended c = λ fs old from ends kind.
    let l = c.args.reader.now.ahead in
    let m = c.eat.new.self.ahead in
    let all = is_all c.in-List.word in
    let inside = rw c.in-List.is at kind in
    let es = inside.3.0 in
    let hs = inside.1 in
    let gs : List Opening = Listed all es ∷ hs in
    let more : List Opening = Listed all (es ++ ends.e ∷ []) ∷ hs in
    let at = ends_at fs old l from (words c.args.levels.now) c.args.is_true ends gs
    (in_list c.in-List.word ends.gs inside) in
    record {
      gs = more;
      hold = c.add_member.ensures fs es hs ends.e at.hold at.is;
      reads =
          reads_then Expressions old l m from (WithTree ends.e gs) (Wanting more) at.reads
          (reads_taken Expressions l m Comma (WithTree ends.e gs) (Wanting more) (c.eat.ensures.taken c.if-eat.true)
          refl);
    }

pub returns-in_err-close-in-List-clause-refused : goal.returns-in_err-close-in-List-clause-refused
returns-in_err-close-in-List-clause-refused c =
    let l = c.args.reader.now.ahead in
    let k = c.eat.new.self.ahead in
    let n = c.eat.ensures.not_taken c.if-eat.false in
    let r = c.in_err-close-in-List.field-0.0 in
    let p = err_from_is_err_and c.from_residual-in_err-close-in-List.result
    c.from_residual-in_err-close-in-List.ensures.1 in
    rw (p.1, p.2)
    (λ fs old from ends kind.
    let inside = rw c.in-List.is at kind in
    let o = Listed (is_all c.in-List.word) inside.3.0 in
    let gs : List Opening = o ∷ inside.1 in
    let at = ends_at fs old l from (words c.args.levels.now) c.args.is_true ends gs
    (in_list c.in-List.word ends.gs inside) in
    let R : Ahead → Type 0 = λ z. Reads Expressions old z from (WithTree ends.e gs) in
    let C : Ahead → Type 0 = λ z. IsClear ends.e z in
    stops_then Expressions old k from (WithTree ends.e gs) r (subst R (sym n.0) at.reads)
    (c.in_err-close-in-List.ensures.refused o inside.1 ends.e (λ list. rw n.0 n.1) (subst C (sym n.0) ends.clear)))

pub returns-in_ok-close-in-List-clause-ended : goal.returns-in_ok-close-in-List-clause-ended
returns-in_ok-close-in-List-clause-ended c = λ fs old from ends kind.
    let l = c.args.reader.now.ahead in
    let k = c.eat.new.self.ahead in
    let m = c.close-in-List.new.reader.ahead in
    let n = c.eat.ensures.not_taken c.if-eat.false in
    let all = is_all c.in-List.word in
    let inside = rw c.in-List.is at kind in
    let es = inside.3.0 in
    let hs = inside.1 in
    let gs : List Opening = Listed all es ∷ hs in
    let at = ends_at fs old l from (words c.args.levels.now) c.args.is_true ends gs
    (in_list c.in-List.word ends.gs inside) in
    let hold = c.add_member.ensures fs es hs ends.e at.hold at.is in
    let closed = c.close_list.ensures fs (es ++ ends.e ∷ []) hs hold in
    let e = list_tree all (es ++ ends.e ∷ []) in
    let R : Ahead → Type 0 = λ z. Reads Expressions old z from (WithTree ends.e gs) in
    record {
      gs = hs;
      hold = closed.0;
      e = e;
      reads =
          reads_then Expressions old k m from (WithTree ends.e gs) (WithTree e hs) (subst R (sym n.0) at.reads)
          (reads_taken Expressions k m RightParen (WithTree ends.e gs) (WithTree e hs)
          c.in_ok-close-in-List.ensures.taken refl);
      clear = list_clear all (es ++ ends.e ∷ []) m;
      is = closed.1;
    }
