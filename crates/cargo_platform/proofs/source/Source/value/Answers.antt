use Rattle.std.proofs.Common.{◌≡◌, ◌+◌, length, sym, subst, add-zero, arith}
use Rattle.cargo_platform.specs.Inside.Looking.{AreBetween, Adds}
use Rattle.cargo_platform.proofs.Looking.{compares_few, compares_all}
use Rattle.cargo_platform.proofs.source.Source.value.Goals as goal

pub returns-then-end-text-clause-cost : goal.returns-then-end-text-clause-cost
returns-then-end-text-clause-cost c =
    let found = c.value_end-end.ensures in
    let between = found.between in
    let few = compares_few _ _ _ found.compared in
    record {
      forward = omega (arith, between.all);
      grows = omega arith;
      at_most = omega (arith, between.all, between.many, few.1);
      at_least = λ below. omega (arith, between.all, between.few, few.0);
    }

pub returns-else-end-text-clause-cost_to_end : goal.returns-else-end-text-clause-cost_to_end
returns-else-end-text-clause-cost_to_end c =
    let text = c.args.self.now.text.now in
    let found = c.value_end-end.ensures in
    let end : c.value_end-end.result.0 ≡ length text = omega (arith, found.within) in
    let all = compares_all _ _ (rw end at found.compared) in
    let between : AreBetween text c.args.from (length text) = rw end at found.between in
    record {
      forward = omega (arith, between.all);
      grows = omega arith;
      at_most = omega (arith, between.all, between.many, all);
      at_least = λ below. omega (arith, between.all, between.few, all);
    }

pub returns-else-end-text-clause-counted : goal.returns-else-end-text-clause-counted
returns-else-end-text-clause-counted c =
    let text = c.args.self.now.text.now in
    let found = c.value_end-end.ensures in
    let end : c.value_end-end.result.0 ≡ length text = omega (arith, found.within) in
    let count = c.value_end-end.result.1 in
    let none : count ≡ count + 0 = sym (add-zero count) in
    record {
      count = count;
      compared = rw end at found.compared;
      counted = subst (λ n. Adds n c.args.self.now.looks c.add_looks.new.self.looks) none c.add_looks.ensures.counted;
    }
