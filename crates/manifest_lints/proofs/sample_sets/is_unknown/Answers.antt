use Rattle.std.proofs.Common.{rules, ◌≡◌, ◌∙◌, sym, true, false}
use Rattle.cargo_platform.specs.Trees.{value_of}
use Rattle.cargo_platform.specs.Facts.{pair_of}
use Rattle.manifest_lints.proofs.Samples.{unknown_is, single_not}
use Rattle.manifest_lints.proofs.sample_sets.is_unknown.Goals as goal

pub returns-then-is_of_key : goal.returns-then-is_of_key
returns-then-is_of_key c =
    let single : c.is_of_key.result ≡ true = search rules in
    unknown_is (pair_of (value_of c.args.c.now)) c.is_empty.result (sym c.is_of_key.ensures ∙ single)
    (λ is k below. sym (c.targets_with_fact.ensures k below) ∙ c.is_empty.ensures.yes is k below)
    (λ missing. c.is_empty.ensures.no (λ k below. c.targets_with_fact.ensures k below ∙ missing k below))

pub returns : goal.returns
returns c =
    let otherwise : c.is_of_key.result ≡ false = search rules in
    sym (single_not (pair_of (value_of c.args.c.now)) (sym c.is_of_key.ensures ∙ otherwise))
