use Rattle.std.proofs.Common.{◌≡◌, ◌∙◌, refl, sym, ap, map, reverse, length, true, [], ◌∷◌, ◌++◌}
use Rattle.std.proofs.lemmas.List.{reverse-reverse}
use Rattle.std.proofs.lemmas.List.Elements.{All-nil}
use Rattle.std.proofs.lemmas.List.Sorted.{All-permutation}
use Rattle.exact_answers.specs.Goals.{pairs_of}
use Rattle.exact_answers.specs.Asking.{some_asks}
use Rattle.exact_answers.specs.Inside.Searches.{goal_trees}
use Rattle.exact_answers.specs.Inside.Ahead.{meets, worked_out, outcome, HasNumber}
use Rattle.exact_answers.proofs.Numbers.{none_among}
use Rattle.exact_answers.specs.declared.outlook.Operation.TheVariants as operation
use Rattle.exact_answers.proofs.Ahead.{first_outcome, last_first}
use Rattle.exact_answers.proofs.Adding.{pushed_operation, more_numbered, pending_ask, popped_asks, no_goals}
use Rattle.exact_answers.proofs.outlook.GoalEvaluator.new.Goals as goal

pub goals-init : goal.goals-init
goals-init c =
    let first = operation.Group true (length c.args.goals.now) in
    let operations = c.in_ok-push.ensures.items ∙ ap (λ os. os ++ first ∷ []) c.new-2.ensures.items in
    record {
      works_out = λ s.
          pushed_operation s [] c.push.new.self.items first
          (map (meets s) (reverse c.in_ok-pending.pending.items)) _ operations
          (first_outcome s (length c.args.goals.now) c.args.goals.now (reverse c.in_ok-pending.pending.items)
          (ap reverse c.in_ok-pending.ensures ∙ reverse-reverse c.args.goals.now) refl);
      numbered = more_numbered _ [] c.push.new.self.items first operations tt (All-nil _);
      asked = none_among _ _ (ap pairs_of c.new.ensures.items);
      pending = pending_ask c.args.goals.now c.in_ok-pending.pending.items c.in_ok-pending.ensures;
    }

pub goals-preserved : goal.goals-preserved
goals-preserved c =
    let popped = popped_asks (some_asks (goal_trees c.args.goals.now)) c.goals.pending.items c.pop.new.self.items
    c.in-Some.goal c.in-Some.ensures.items c.goals.invariant.pending in
    let added = c.in_ok-add.ensures.asked _ popped.1 popped.0 c.goals.invariant.asked in
    record {
      works_out = λ s. c.in_ok-add.ensures.same s
          ∙ ap (outcome s c.goals.outlook)
          (sym (ap reverse c.in-Some.ensures.items ∙ last_first c.pop.new.self.items c.in-Some.goal))
          ∙ c.goals.invariant.works_out s;
      numbered = c.in_ok-add.ensures.numbered c.goals.invariant.numbered;
      asked = added.1;
      pending = added.0;
    }

pub returns : goal.returns
returns c =
    let empty : c.goals.pending.items ≡ [] =
    no_goals c.goals.pending.items (sym c.goals.pending.ok.0 ∙ c.in_default.ensures.cases.0) in
    let numbered = HasNumber (pairs_of c.goals.outlook.pairs.items) in
    record {
      works_out = λ s.
          ap (λ os. worked_out s os []) c.reverse.ensures.items
          ∙ ap (λ gs. outcome s c.goals.outlook (reverse gs)) (sym empty) ∙ c.goals.invariant.works_out s;
      numbered = All-permutation numbered c.goals.outlook.operations.items _ c.reverse.ensures.permutation
          c.goals.invariant.numbered;
      asked = c.goals.invariant.asked;
    }
