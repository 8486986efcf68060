use Rattle.std.proofs.Common.{ap, subst, List, [], Bool, Option, arith}
use Rattle.std.proofs.lemmas.Result.{err_from_is_err_and}
use Rattle.cargo_platform.specs.Spelling.{Expressions}
use Rattle.cargo_platform.specs.Walk.{Opening, WithTree}
use Rattle.cargo_platform.specs.Inside.Parsing.{Reads}
use Rattle.cargo_platform.specs.Inside.Matching.{words, is_settled, Begins}
use Rattle.cargo_platform.proofs.Parsing.{stops_then, whole_stops}
use Rattle.cargo_platform.proofs.matching.end.Goals as goal

pub groups-init : goal.groups-init
groups-init c = record { ends = λ fs old from ends. ends; shorter = omega arith }

pub returns-in_err-closed-clause-refused : goal.returns-in_err-closed-clause-refused
returns-in_err-closed-clause-refused c =
    let p = err_from_is_err_and c.from_residual.result c.from_residual.ensures.1 in
    rw (p.1, p.2)
    (λ fs old from ends.
    let now = c.groups.invariant.ends fs old from ends in
    c.in_err-closed.ensures.refused fs old from now (c.in-Some.ensures fs now.gs now.hold))

pub returns-in_default-2-clause-ended : goal.returns-in_default-2-clause-ended
returns-in_default-2-clause-ended c = λ fs old from ends.
    let now = c.groups.invariant.ends fs old from ends in
    let P : Option Bool → Type 0 = λ z. Begins fs old c.end_member.new.reader.ahead from
    (words c.end_member.new.levels) z in
    subst P c.in_default-2.is (c.in_ok-closed.ensures.ended fs old from now (c.in-Some.ensures fs now.gs now.hold))

pub returns-in_default-2-clause-shorter : goal.returns-in_default-2-clause-shorter
returns-in_default-2-clause-shorter c = omega (arith, c.in_ok-closed.ensures.shorter, c.groups.invariant.shorter)

pub groups-smaller : goal.groups-smaller
groups-smaller c = c.in_ok-closed.ensures.shorter

pub groups-preserved : goal.groups-preserved
groups-preserved c = record {
  ends =
      λ fs old from ends.
      let now = c.groups.invariant.ends fs old from ends in
      let P : Option Bool → Type 0 = λ z. Begins fs old c.end_member.new.reader.ahead from
      (words c.end_member.new.levels) z in
      subst P c.in-Some-2.is (c.in_ok-closed.ensures.ended fs old from now (c.in-Some.ensures fs now.gs now.hold));
  shorter = omega (arith, c.in_ok-closed.ensures.shorter, c.groups.invariant.shorter);
}

pub returns-in_err-expect_end-clause-refused : goal.returns-in_err-expect_end-clause-refused
returns-in_err-expect_end-clause-refused c =
    let k = c.groups.reader.ahead in
    let r = c.in_err-expect_end.field-0.0 in
    let p = err_from_is_err_and c.from_residual-in_err-expect_end.result
    c.from_residual-in_err-expect_end.ensures.1 in
    rw (p.1, p.2)
    (λ fs old from ends.
    let now = c.groups.invariant.ends fs old from ends in
    let P : List Opening → Type 0 = λ z. Reads Expressions old k from (WithTree now.e z) in
    stops_then Expressions old k from (WithTree now.e []) r
    (subst P (c.in_default.ensures fs now.gs now.hold) now.reads)
    (whole_stops Expressions k now.e r now.clear c.in_err-expect_end.ensures.more))

pub returns-clause-ended : goal.returns-clause-ended
returns-clause-ended c = λ fs old from ends.
    let k = c.groups.reader.ahead in
    let now = c.groups.invariant.ends fs old from ends in
    let none = c.in_default.ensures fs now.gs now.hold in
    let P : List Opening → Type 0 = λ z. Reads Expressions old k from (WithTree now.e z) in
    record {
      e = now.e;
      reads = subst P none now.reads;
      is = now.is (ap (is_settled fs) none);
      ended = c.in_ok-expect_end.ensures.end;
    }

pub returns-clause-shorter : goal.returns-clause-shorter
returns-clause-shorter c = c.groups.invariant.shorter
