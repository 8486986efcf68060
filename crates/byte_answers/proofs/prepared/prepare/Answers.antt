use Rattle.std.proofs.Common.{refl, sym, ◌∙◌, ap, ℕ, List, arith, [], ◌++◌, append-nil, drop}
use Rattle.std.proofs.lemmas.List.{nil_from_length}
use Rattle.byte_answers.proofs.Appending.{one_appended, all_appended}
use Rattle.byte_answers.proofs.prepared.prepare.Goals as goal

pub facts-init : goal.facts-init
facts-init c = (
  [],
  ([], (sym (append-nil c.args.facts.now), tt, sym c.in_ok-index.ensures.items, tt, refl, tt)),
)

pub facts-preserved : goal.facts-preserved
facts-preserved c =
    one_appended c.args.facts.now c.facts.left.now c.in-Some.others.now c.in-Some.fact.now c.facts.texts.items
    c.facts.index.items c.facts.filter c.push_fact.new.texts.items c.push_fact.new.index.items c.split_at.result.1.now
    c.admit.new.filter c.facts.invariant c.in-Some.ensures.cases.0 c.in_ok-push_fact.ensures.texts
    c.in_ok-push_fact.ensures.index (omega arith) c.len-start.result (c.len-start.ensures ∙ c.facts.texts.ok.0)
    (c.split_at.ensures.back ∙ ap (λ (z : List ℕ). drop c.len-start.result z) c.deref.ensures.value) c.admit.ensures

pub returns : goal.returns
returns c =
    all_appended c.args.facts.now c.facts.left.now c.facts.texts.items c.facts.index.items c.facts.filter
    c.extend_from_slice.new.self.items c.extend_from_slice-2.new.self.items c.push_number.new.out.items
    c.push_number-2.new.out.items c.len-size.result c.facts.invariant
    (nil_from_length c.facts.left.now c.in_default.ensures.cases)
    (c.len-size.ensures ∙ c.facts.texts.ok.0)
    (c.in_ok-extend_from_slice.ensures.items ∙ ap (λ (z : List ℕ). c.facts.texts.items ++ z) c.deref-2.ensures.value)
    c.in_ok-extend_from_slice-2.ensures.items c.in_ok-push_number.ensures c.in_ok-push_number-2.ensures
