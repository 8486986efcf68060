use Rattle.std.proofs.Common.{rules, ◌≡◌, ◌∙◌, sym, true, false}
use Rattle.cargo_platform.specs.Trees.{value_of}
use Rattle.cargo_platform.specs.Facts.{pair_of}
use Rattle.manifest_lints.proofs.Samples.{single_is, not_rustcs, had_is}
use Rattle.manifest_lints.proofs.sample_sets.targets_of.Goals as goal

pub returns-then-is_of_key-clause-some : goal.returns-then-is_of_key-clause-some
returns-then-is_of_key-clause-some c =
    let so : c.is_of_key.result ≡ true = search rules in
    single_is (pair_of (value_of c.args.c.now)) (sym c.is_of_key.ensures ∙ so)

pub returns-then-is_empty-clause-none : goal.returns-then-is_empty-clause-none
returns-then-is_empty-clause-none c =
    let no : c.is_of_key.result ≡ false = search rules in
    let so : c.is_empty.result ≡ true = search rules in
    not_rustcs (pair_of (value_of c.args.c.now)) (sym c.is_of_key.ensures ∙ no)
    (λ k below. sym (c.targets_with_fact-targets.ensures k below) ∙ c.is_empty.ensures.yes so k below)

pub returns-clause-some : goal.returns-clause-some
returns-clause-some c =
    let so : c.is_empty.result ≡ false = search rules in
    had_is (pair_of (value_of c.args.c.now)) c.is_empty.result so
    (λ none. c.is_empty.ensures.no (λ k below. c.targets_with_fact-targets.ensures k below ∙ none k below))
