use Rattle.std.proofs.Common.{subst}
use Rattle.std.proofs.lemmas.Result.{IfOk-weaker}
use Rattle.std.specs.List.{All}
use Rattle.known_targets.specs.Rows.{keys_of}
use Rattle.known_targets.specs.Listed.{fact_values, IsFactOf}
use Rattle.known_targets.proofs.Listed.{had_sorted, had_all}
use Rattle.known_targets.proofs.known_facts.all_facts.Goals as goal

pub returns-clause-sorted : goal.returns-clause-sorted
returns-clause-sorted c =
    IfOk-weaker c.had.result _ _
    (λ facts is. had_sorted (keys_of c.keys.result.now) c.keys.ensures (fact_values facts.items) is)
    c.had.ensures.values

pub returns-clause-each : goal.returns-clause-each
returns-clause-each c =
    IfOk-weaker c.had.result _ _
    (λ facts each. subst (λ ks. All (IsFactOf ks) facts.items) c.keys.ensures each) c.had.ensures.each

pub returns-clause-all : goal.returns-clause-all
returns-clause-all c =
    IfOk-weaker c.had.result _ _
    (λ facts is k below. had_all (keys_of c.keys.result.now) c.keys.ensures (fact_values facts.items) is k below)
    c.had.ensures.values
