use Rattle.exact_answers.proofs.Numbers.{kept_number, new_number, among_pushed}
use Rattle.exact_answers.proofs.outlook.number_or_next.Goals as goal

pub returns-in_ok-push-in-None-clause-number : goal.returns-in_ok-push-in-None-clause-number
returns-in_ok-push-in-None-clause-number c =
    new_number c.args.pairs.now.items c.push.new.self.items _ _ c.in_ok-push-in-None.ensures.items (cc)

pub returns-in_ok-push-in-None-clause-kept : goal.returns-in_ok-push-in-None-clause-kept
returns-in_ok-push-in-None-clause-kept c = λ n p h.
    kept_number c.args.pairs.now.items c.push.new.self.items _ n p c.in_ok-push-in-None.ensures.items h

pub returns-in_ok-push-in-None-clause-among : goal.returns-in_ok-push-in-None-clause-among
returns-in_ok-push-in-None-clause-among c = λ among is h.
    among_pushed among c.args.pairs.now.items c.push.new.self.items _ c.in_ok-push-in-None.ensures.items is h
