use Rattle.std.proofs.Common.{arith}
use Rattle.cargo_platform.specs.Inside.Matching.{words}
use Rattle.cargo_platform.proofs.Evaluating.{is_not, is_list_of_all, is_list_of_any, is_none}
use Rattle.cargo_platform.proofs.matching.Levels.innermost.Goals as goal

pub returns-in-1 : goal.returns-in-1
returns-in-1 c = λ fs gs h. is_not fs (words c.args.self.now) gs c.in-1.is h

pub returns-in-2 : goal.returns-in-2
returns-in-2 c = λ fs gs h. is_list_of_all fs (words c.args.self.now) gs c.in-2.is h

pub returns-in-3 : goal.returns-in-3
returns-in-3 c = λ fs gs h. is_list_of_any fs (words c.args.self.now) gs c.in-3.is h

pub returns-in_default : goal.returns-in_default
returns-in_default c = λ fs gs h.
    is_none fs (words c.args.self.now) gs (λ e. omega arith) (λ e. omega arith) (λ e. omega arith) h
