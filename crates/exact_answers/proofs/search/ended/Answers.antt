use Rattle.std.proofs.Common.{◌≡◌, ◌∙◌, ap, map}
use Rattle.cargo_platform.specs.Trees.{value_of}
use Rattle.cargo_platform.specs.Facts.{pair_of}
use Rattle.exact_answers.specs.Inside.Paths.{base_of, turns, facts_on}
use Rattle.exact_answers.proofs.Ending.{met_found, missed_by}
use Rattle.exact_answers.proofs.search.ended.Goals as goal

pub returns-in_ok-facts-in-Met-clause-found : goal.returns-in_ok-facts-in-Met-clause-found
returns-in_ok-facts-in-Met-clause-found c = λ gs budget says.
    let facts = c.in_ok-facts-in-Met.field-0 in
    let pairs :
    map pair_of (map value_of facts.items) ≡ facts_on (base_of c.args.path.now.known.now) (turns c.in-Met.other) =
    c.in_ok-facts-in-Met.ensures.pairs
    ∙ ap (λ k. facts_on (base_of k) (turns c.put_splits_of.new.self)) c.put_splits_of.ensures.known
    ∙ ap (facts_on (base_of c.args.path.now.known.now)) c.put_splits_of.ensures.put in
    met_found c.args.end c.in-Met.other c.args.path.now.known.now gs (map value_of facts.items) c.in-Met.is says pairs
    c.in_ok-facts-in-Met.ensures.unmarked

pub returns-in-Missed-clause-found : goal.returns-in-Missed-clause-found
returns-in-Missed-clause-found c = λ gs budget says.
    missed_by c.args.end c.args.path.now.known.now gs c.in-Missed.is says
