use Rattle.std.proofs.Common.{◌∙◌, subst, [], ◌∷◌, ◌++◌}
use Rattle.cargo_platform.specs.Facts.{pair_of}
use Rattle.byte_answers.specs.declared.truths.Found.{Found}
use Rattle.byte_answers.specs.Truths.{IsFound}
use Rattle.byte_answers.proofs.Stacks.{leaves_value, leaves_yes, leaves_no, leaves_not, leaves_all, leaves_any}
use Rattle.byte_answers.proofs.truths.put_truth.Goals as goal
use Rattle.byte_answers.proofs.truths.put_truth.Goals.{in-Fact, in-True, in-False, in-Not+in-Some}
use Rattle.byte_answers.proofs.truths.put_truth.Goals.{in-All+in-Some-take_truths, in-Any+in-Some-take_truths-2}

pub returns-in-Ok-clause-put : goal.returns-in-Ok-clause-put
returns-in-Ok-clause-put c = λ done s p st means found truths.
    let old = c.args.built.now.items in
    let new = c.push.new.self.items in
    elim c.match-found.branch [
      | in-Fact w ↦
          let f = subst (λ (z : Found). IsFound z p) w.in-Fact.is found in
          leaves_value s f.0 p st old new c.match-found.is_true f.1.0
          (w.is_true-is ∙ w.has-is_true.ensures s (pair_of f.0) means f.1.1)
          (c.in-Ok.ensures.ok ∙ (λ i. (w.built-is i).items ++ c.match-found.is_true ∷ [])) truths
      | in-True w ↦
          leaves_yes s p st old new (subst (λ (z : Found). IsFound z p) w.in-True.is found)
          (c.in-Ok.ensures.ok ∙ (λ i. (w.built-is i).items ++ w.is_true-is i ∷ [])) truths
      | in-False w ↦
          leaves_no s p st old new (subst (λ (z : Found). IsFound z p) w.in-False.is found)
          (c.in-Ok.ensures.ok ∙ (λ i. (w.built-is i).items ++ w.is_true-is i ∷ [])) truths
      | in-Not+in-Some w ↦
          leaves_not s p st old w.pop.new.self.items new w.in-Some.inner
          (subst (λ (z : Found). IsFound z p) w.in-Not.is found) w.in-Some.ensures.items
          (c.in-Ok.ensures.ok ∙ (λ i. (w.built-is i).items ++ w.is_true-is i ∷ [])) truths
      | in-All+in-Some-take_truths w ↦
          let t = w.in-Some-take_truths.ensures in
          leaves_all s p w.in-All.count st old w.take_truths.new.built.items new t.0 c.match-found.is_true
          (subst (λ (z : Found). IsFound z p) w.in-All.is found) t.1.0 t.1.1 (w.is_true-is ∙ t.1.2)
          (c.in-Ok.ensures.ok ∙ (λ i. (w.built-is i).items ++ c.match-found.is_true ∷ [])) truths
      | in-Any+in-Some-take_truths-2 w ↦
          let t = w.in-Some-take_truths-2.ensures in
          leaves_any s p w.in-Any.count st old w.take_truths-in-Any.new.built.items new t.0 c.match-found.is_true
          (subst (λ (z : Found). IsFound z p) w.in-Any.is found) t.1.0 t.1.1 (w.is_true-is ∙ t.1.3)
          (c.in-Ok.ensures.ok ∙ (λ i. (w.built-is i).items ++ c.match-found.is_true ∷ [])) truths
    ]
