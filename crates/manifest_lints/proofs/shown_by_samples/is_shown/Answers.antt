use Rattle.std.proofs.Common.{rules, ◌≡◌, ◌∙◌, sym, subst, true, map}
use Rattle.cargo_platform.specs.Trees.{value_of, condition_of}
use Rattle.cargo_platform.specs.Facts.{fact_set}
use Rattle.exact_answers.specs.Possible.{IsAllowed}
use Rattle.manifest_lints.proofs.Tried.{shown_to_be}
use Rattle.manifest_lints.proofs.shown_by_samples.is_shown.Goals as goal

pub returns : goal.returns
returns c =
    let k = c.args.known.now in
    let s = fact_set (map value_of c.deref-2.result.now) in
    let shown : c.are_possible.result ≡ true = search rules in
    let possible = subst (λ cs. IsAllowed k (fact_set (map value_of cs)))
    (c.deref.ensures.value ∙ sym c.deref-2.ensures.value) (c.are_possible.ensures shown) in
    λ same. shown_to_be k (condition_of c.args.platform.now) s c.in_ok-holds.holds c.args.truth possible
    c.in_ok-holds.ensures (c.is_same.ensures same)
