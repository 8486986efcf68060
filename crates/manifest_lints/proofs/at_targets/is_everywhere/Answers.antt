use Rattle.std.proofs.Common.{rules, ◌∙◌, ◌<◌, sym, ap, not, false}
use Rattle.cargo_platform.specs.Trees.{condition_of}
use Rattle.partial_facts.specs.Partly.{names_of}
use Rattle.manifest_lints.specs.declared.deciding.TheConstants.{MAX_FULLY_SEARCHED_FACTS}
use Rattle.manifest_lints.proofs.AtTargets.{settles_many, settles_few, not_is_false}
use Rattle.manifest_lints.proofs.at_targets.is_everywhere.Goals as goal

pub returns-then-facts-gt-MAX_FULLY_SEARCHED_FACTS : goal.returns-then-facts-gt-MAX_FULLY_SEARCHED_FACTS
returns-then-facts-gt-MAX_FULLY_SEARCHED_FACTS c =
    let certain = c.in_ok-certainly_matching.ensures in
    let others = c.complement-others.ensures in
    let many : MAX_FULLY_SEARCHED_FACTS < c.args.facts = search rules in
    settles_many false c.args.facts (names_of c.args.open_keys.now) (condition_of c.args.platform.now)
    c.complement-others.result
    (λ k below out s same fails. fails (certain.sound k s below (not_is_false _ (sym (others k below) ∙ out)) same))
    (λ all k below. others k below ∙ ap not ((certain.exact k below).1 (all k below))) c.is_empty.result
    c.is_empty.ensures.yes c.is_empty.ensures.no many

pub returns : goal.returns
returns c =
    let certain = c.in_ok-certainly_matching.ensures in
    let others = c.complement-others.ensures in
    settles_few false c.args.facts (names_of c.args.open_keys.now) (condition_of c.args.platform.now)
    c.complement-others.result
    (λ k below out s same fails. fails (certain.sound k s below (not_is_false _ (sym (others k below) ∙ out)) same))
    (λ all k below. others k below ∙ ap not ((certain.exact k below).1 (all k below))) c.is_never_on.result
    c.is_never_on.ensures.yes c.is_never_on.ensures.no
