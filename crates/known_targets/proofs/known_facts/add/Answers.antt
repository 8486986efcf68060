use Rattle.std.proofs.Common.{◌∙◌, sym, ap, ◌++◌}
use Rattle.std.proofs.lemmas.List.{map-append}
use Rattle.cargo_platform.specs.Trees.{value_of}
use Rattle.known_targets.specs.declared.known_facts.KnownFact.{KnownFact}
use Rattle.known_targets.specs.Rows.{keys_of}
use Rattle.known_targets.specs.Listed.{fact_values, is_had}
use Rattle.known_targets.proofs.Listed.{had_by, not_had_by, one_had, none_had}
use Rattle.known_targets.proofs.known_facts.add.Goals as goal

pub returns-in_ok-push-clause-values : goal.returns-in_ok-push-clause-values
returns-in_ok-push-clause-values c =
    let keys = keys_of c.args.keys.now in
    let v = value_of c.args.fact in
    let old = c.args.facts.now.items in
    let had = had_by keys v c.targets_with-targets.result c.is_empty.result c.targets_with-targets.ensures
    c.is_empty.ensures.no c.if-not-is_empty.true in
    ap fact_values c.in_ok-push.ensures.items ∙ map-append (λ (f : KnownFact). value_of f.fact) old _
    ∙ sym (ap (λ xs. fact_values old ++ xs) (one_had (is_had keys) v had))

pub returns-else-not-is_empty-clause-values : goal.returns-else-not-is_empty-clause-values
returns-else-not-is_empty-clause-values c =
    let keys = keys_of c.args.keys.now in
    let v = value_of c.args.fact in
    none_had (is_had keys) v (fact_values c.args.facts.now.items)
    (not_had_by keys v c.targets_with-targets.result c.is_empty.result c.targets_with-targets.ensures
    c.is_empty.ensures.yes c.if-not-is_empty.false)
