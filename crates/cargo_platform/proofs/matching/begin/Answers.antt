use Rattle.std.proofs.Common.{◌∙◌, ◌<◌, refl, sym, subst, arith}
use Rattle.std.proofs.lemmas.Result.{IfErr-weaker, IfOk-weaker}
use Rattle.cargo_platform.specs.Inside.Ahead.{Ahead, bytes_left}
use Rattle.cargo_platform.specs.Tokens.{Ident}
use Rattle.cargo_platform.specs.Spelling.{Expressions}
use Rattle.cargo_platform.specs.Walk.{Wanting}
use Rattle.cargo_platform.specs.Inside.Parsing.{at_name}
use Rattle.cargo_platform.specs.Inside.Matching.{words, Wants}
use Rattle.cargo_platform.proofs.Parsing.{taken_shorter, reads_taken, reads_then, stops_then, wanting_stops}
use Rattle.cargo_platform.proofs.matching.begin.Goals as goal

pub returns-in-Some-clause-begun : goal.returns-in-Some-clause-begun
returns-in-Some-clause-begun g c =
    let l = c.args.reader.now.ahead in
    let m = c.eat_name.new.self.ahead in
    let raw = c.in-Some.raw in
    let name = c.in-Some.name.now in
    IfOk-weaker c.behind_name.result _ _ (λ done begun old from w. begun old from (record {
      gs = w.gs;
      hold = w.hold;
      reads =
          reads_then Expressions old l m from (Wanting w.gs) (at_name raw name w.gs) w.reads
          (reads_taken Expressions l m (Ident raw name) (Wanting w.gs) (at_name raw name w.gs) c.in-Some.ensures.taken
          refl);
    })) c.behind_name.ensures.begun

pub returns-in-Some-clause-refused : goal.returns-in-Some-clause-refused
returns-in-Some-clause-refused g c =
    let l = c.args.reader.now.ahead in
    let m = c.eat_name.new.self.ahead in
    let raw = c.in-Some.raw in
    let name = c.in-Some.name.now in
    IfErr-weaker c.behind_name.result _ _ (λ r refused fs old from w.
    stops_then Expressions old m from (at_name raw name w.gs) r
    (reads_then Expressions old l m from (Wanting w.gs) (at_name raw name w.gs) w.reads
    (reads_taken Expressions l m (Ident raw name) (Wanting w.gs) (at_name raw name w.gs) c.in-Some.ensures.taken refl))
    (refused w.gs)) c.behind_name.ensures.refused

pub returns-in-Some-clause-shorter : goal.returns-in-Some-clause-shorter
returns-in-Some-clause-shorter g c =
    let l = c.args.reader.now.ahead in
    let m = c.eat_name.new.self.ahead in
    let n = c.behind_name.new.reader.ahead in
    IfOk-weaker c.behind_name.result _ (λ _. bytes_left n < bytes_left l) (λ done shorter.
    omega (arith, shorter, taken_shorter l m (Ident c.in-Some.raw c.in-Some.name.now) c.in-Some.ensures.taken))
    c.behind_name.ensures.shorter

pub returns-in-Some-end_list-clause-begun : goal.returns-in-Some-end_list-clause-begun
returns-in-Some-end_list-clause-begun g c = λ old from w.
    let fs = g.F.TextFacts.meant c.args.facts.now in
    let P : Ahead → Type 0 = λ z. Wants fs old z from (words c.args.levels.now) in
    c.in-Some-end_list.ensures.closed fs old from (subst P (sym c.in_default.ensures.not_taken.0) w)

pub returns-clause-refused : goal.returns-clause-refused
returns-clause-refused g c = λ fs old from w.
    let l = c.args.reader.now.ahead in
    let n = c.in_default.ensures.not_taken in
    let k = c.in_default-end_list.ensures in
    stops_then Expressions old l from (Wanting w.gs) c.refuse.result w.reads
    (wanting_stops l c.end_list.new.reader.ahead w.gs c.refuse.result (k.same ∙ n.0) n.1
    (λ y. rw (← n.0) (k.not_closed fs w.gs w.hold y)) c.refuse.ensures.refused)
