use Rattle.std.proofs.Common.{rules, ◌∙◌, ◌<◌, sym, true, true≢false}
use Rattle.cargo_platform.specs.Trees.{condition_of}
use Rattle.partial_facts.specs.Partly.{names_of}
use Rattle.manifest_lints.specs.declared.deciding.TheConstants.{MAX_FULLY_SEARCHED_FACTS}
use Rattle.manifest_lints.proofs.AtTargets.{settles_many, settles_few}
use Rattle.manifest_lints.proofs.at_targets.is_nowhere.Goals as goal

pub returns-then-facts-gt-MAX_FULLY_SEARCHED_FACTS : goal.returns-then-facts-gt-MAX_FULLY_SEARCHED_FACTS
returns-then-facts-gt-MAX_FULLY_SEARCHED_FACTS c =
    let possible = c.in_ok-possible.ensures in
    let many : MAX_FULLY_SEARCHED_FACTS < c.args.facts = search rules in
    settles_many true c.args.facts (names_of c.args.open_keys.now) (condition_of c.args.platform.now)
    c.in_ok-possible.possible
    (λ k below out s same holds. absurd (true≢false (sym (possible.sound k s below same holds) ∙ out)))
    (λ all k below. (possible.exact k below).1 (all k below)) c.is_empty.result c.is_empty.ensures.yes
    c.is_empty.ensures.no many

pub returns : goal.returns
returns c =
    let possible = c.in_ok-possible.ensures in
    settles_few true c.args.facts (names_of c.args.open_keys.now) (condition_of c.args.platform.now)
    c.in_ok-possible.possible
    (λ k below out s same holds. absurd (true≢false (sym (possible.sound k s below same holds) ∙ out)))
    (λ all k below. (possible.exact k below).1 (all k below)) c.is_never_on.result c.is_never_on.ensures.yes
    c.is_never_on.ensures.no
