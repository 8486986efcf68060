use Rattle.std.proofs.Common.{refl, subst, List, ◌∷◌}
use Rattle.cargo_platform.specs.Tokens.{RightParen}
use Rattle.cargo_platform.specs.Spelling.{Expressions}
use Rattle.cargo_platform.specs.Walk.{Opening, Listed, list_tree, Wanting, WithTree}
use Rattle.cargo_platform.specs.Inside.Parsing.{is_all, Reads}
use Rattle.cargo_platform.specs.Inside.Matching.{words, Hold}
use Rattle.cargo_platform.proofs.Parsing.{reads_taken, reads_then, list_clear}
use Rattle.cargo_platform.proofs.Evaluating.{in_list}
use Rattle.cargo_platform.proofs.matching.end_list.Goals as goal

pub returns-else-not-eat-clause-closed : goal.returns-else-not-eat-clause-closed
returns-else-not-eat-clause-closed c = λ fs old from w.
    let l = c.args.reader.now.ahead in
    let m = c.eat.new.self.ahead in
    let all = is_all c.in-Some-List.word in
    let inside = rw c.in-Some-List.field-0-is at c.in-Some-List.ensures fs w.gs w.hold in
    let es = inside.3.0 in
    let hs = inside.1 in
    let gs : List Opening = Listed all es ∷ hs in
    let is = in_list c.in-Some-List.word w.gs inside in
    let H : List Opening → Type 0 = λ z. Hold fs (words c.args.levels.now) z in
    let R : List Opening → Type 0 = λ z. Reads Expressions old l from (Wanting z) in
    let closed = c.close_list.ensures fs es hs (subst H is w.hold) in
    record {
      gs = hs;
      hold = closed.0;
      e = list_tree all es;
      reads =
          reads_then Expressions old l m from (Wanting gs) (WithTree (list_tree all es) hs) (subst R is w.reads)
          (reads_taken Expressions l m RightParen (Wanting gs) (WithTree (list_tree all es) hs)
          (c.eat.ensures.taken c.if-not-eat.false) refl);
      clear = list_clear all es m;
      is = closed.1;
    }

pub returns-then-not-eat-clause-not_closed : goal.returns-then-not-eat-clause-not_closed
returns-then-not-eat-clause-not_closed c = λ fs gs h list. (c.eat.ensures.not_taken c.if-not-eat.true).1
