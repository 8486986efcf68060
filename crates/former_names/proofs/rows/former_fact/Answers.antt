use Rattle.std.proofs.Common.{rules, subst}
use Rattle.cargo_platform.specs.Trees.{value_of}
use Rattle.former_names.specs.Rows.{HasFact}
use Rattle.former_names.proofs.Points.{none_from}
use Rattle.former_names.proofs.rows.former_fact.Goals as goal

pub returns-in-KeyPair-clause-none : goal.returns-in-KeyPair-clause-none
returns-in-KeyPair-clause-none c =
    none_from c.former_pair.result _ _
    (λ none b has.
    let same = subst (λ v. HasFact (value_of v) b) c.in-KeyPair.is has in
    none b (search rules))
    c.former_pair.ensures.none
