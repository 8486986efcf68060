use Rattle.std.proofs.Common.{refl, subst, [], Bool, Option, arith}
use Rattle.std.proofs.lemmas.Result.{err_from_is_err_and}
use Rattle.cargo_platform.specs.Spelling.{Expressions}
use Rattle.cargo_platform.specs.Walk.{start}
use Rattle.cargo_platform.specs.Inside.Matching.{words, Begins, GoesOn}
use Rattle.cargo_platform.proofs.Parsing.{reads_same}
use Rattle.cargo_platform.proofs.matching.evaluate.Goals as goal

pub members-init : goal.members-init
members-init g c = record {
  gs = [];
  hold = c.new-levels.ensures (g.F.TextFacts.meant c.args.facts.now);
  reads = reads_same Expressions c.args.reader.now.ahead start start refl;
}

pub returns-in_err-is_true-clause-refused : goal.returns-in_err-is_true-clause-refused
returns-in_err-is_true-clause-refused g c =
    let fs = g.F.TextFacts.meant c.args.facts.now in
    let p = err_from_is_err_and c.from_residual.result c.from_residual.ensures.1 in
    rw (p.1, p.2) (c.in_err-is_true.ensures.refused fs c.args.reader.now.ahead start c.members.invariant)

pub returns-in_err-answer-clause-refused : goal.returns-in_err-answer-clause-refused
returns-in_err-answer-clause-refused g c =
    let fs = g.F.TextFacts.meant c.args.facts.now in
    let a = c.args.reader.now.ahead in
    let P : Option Bool → Type 0 = λ z. Begins fs a c.begin.new.reader.ahead start (words c.begin.new.levels) z in
    let ends = subst P c.in-Some.is (c.in_ok-is_true.ensures.begun a start c.members.invariant) in
    let p = err_from_is_err_and c.from_residual-in_err-answer.result c.from_residual-in_err-answer.ensures.1 in
    rw (p.1, p.2) (c.in_err-answer.ensures.refused fs a start ends)

pub returns-in-Some-2-clause-answer : goal.returns-in-Some-2-clause-answer
returns-in-Some-2-clause-answer g c =
    let fs = g.F.TextFacts.meant c.args.facts.now in
    let a = c.args.reader.now.ahead in
    let P : Option Bool → Type 0 = λ z. Begins fs a c.begin.new.reader.ahead start (words c.begin.new.levels) z in
    let Q : Option Bool → Type 0 = λ z. GoesOn fs a c.end.new.reader.ahead start (words c.end.new.levels) z in
    let ends = subst P c.in-Some.is (c.in_ok-is_true.ensures.begun a start c.members.invariant) in
    subst Q c.in-Some-2.is (c.in_ok-answer.ensures.ended fs a start ends)

pub members-smaller-in_default-2 : goal.members-smaller-in_default-2
members-smaller-in_default-2 g c = omega (arith, c.in_ok-is_true.ensures.shorter, c.in_ok-answer.ensures.shorter)

pub members-preserved-in_default-2 : goal.members-preserved-in_default-2
members-preserved-in_default-2 g c =
    let fs = g.F.TextFacts.meant c.args.facts.now in
    let a = c.args.reader.now.ahead in
    let P : Option Bool → Type 0 = λ z. Begins fs a c.begin.new.reader.ahead start (words c.begin.new.levels) z in
    let Q : Option Bool → Type 0 = λ z. GoesOn fs a c.end.new.reader.ahead start (words c.end.new.levels) z in
    let ends = subst P c.in-Some.is (c.in_ok-is_true.ensures.begun a start c.members.invariant) in
    subst Q c.in_default-2.is (c.in_ok-answer.ensures.ended fs a start ends)

pub members-smaller : goal.members-smaller
members-smaller g c = c.in_ok-is_true.ensures.shorter

pub members-preserved : goal.members-preserved
members-preserved g c =
    let fs = g.F.TextFacts.meant c.args.facts.now in
    let a = c.args.reader.now.ahead in
    let P : Option Bool → Type 0 = λ z. Begins fs a c.begin.new.reader.ahead start (words c.begin.new.levels) z in
    subst P c.in_default.is (c.in_ok-is_true.ensures.begun a start c.members.invariant)
