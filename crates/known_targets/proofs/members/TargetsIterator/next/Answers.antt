use Rattle.std.proofs.Common.{◌∙◌, sym, ap, ◌+◌, ◌∷◌, arith}
use Rattle.known_targets.specs.Sets.{members_from}
use Rattle.known_targets.proofs.Places.{is_in, is_out, is_over, shorter}
use Rattle.known_targets.proofs.members.TargetsIterator.next.Goals as goal

pub returns-then-has-clause-steps : goal.returns-then-has-clause-steps
returns-then-has-clause-steps c =
    sym c.places.invariant
    ∙ is_in c.places.self.set c.places.self.next (omega arith) (sym c.has.ensures ∙ c.if-has.true)
    ∙ ap (λ k. k ∷ members_from c.places.self.set (c.places.self.next + 1)) (sym c.at.ensures)

pub places-preserved : goal.places-preserved
places-preserved c =
    sym (is_out c.places.self.set c.places.self.next (omega arith) (sym c.has.ensures ∙ c.if-has.false))
    ∙ c.places.invariant

pub returns-clause-steps : goal.returns-clause-steps
returns-clause-steps c =
    let over = is_over c.places.self.set c.places.self.next (omega arith) in
    (sym c.places.invariant ∙ over, over)

pub returns-then-has-clause-goes : goal.returns-then-has-clause-goes
returns-then-has-clause-goes c = record {
  on = λ finite. (tt, tt, shorter _ _ _ (returns-then-has-clause-steps c));
  keeps = tt;
  rests = λ finite. tt;
}
