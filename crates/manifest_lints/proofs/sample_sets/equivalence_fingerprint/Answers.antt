use Rattle.std.proofs.Common.{◌≡◌, ◌∙◌, ap, subst, ℕ, ◌<◌, List, [], map, length, Option, Bor}
use Rattle.std.specs.Prelude.{IfSome, IfNone, Vec}
use Rattle.std.specs.declared.alloc.Global.{Global}
use Rattle.cargo_platform.specs.Trees.{tree_of, value_of}
use Rattle.cargo_platform.specs.Facts.{pair_of}
use Rattle.cargo_platform.specs.Warnings.{values, condition_values}
use Rattle.manifest_lints.specs.declared.sample_sets.TheConstants.{FEW}
use Rattle.manifest_lints.specs.Numbers.{unknown_beside, apart_of, summed, pair_at}
use Rattle.manifest_lints.proofs.sample_sets.equivalence_fingerprint.Goals as goal

pub returns-in-Some : goal.returns-in-Some
returns-in-Some c = λ own.
    let e = tree_of c.args.e.now in
    let asked = map (λ x. value_of x.now) c.deref.result.now in
    let same : asked ≡ values e =
    ap (map (λ x. value_of x.now)) c.deref.ensures.value ∙ c.in_ok-values.ensures ∙ ap condition_values own in
    let found = subst (λ (o : Option (Vec (Bor (List ℕ) × Bor (List ℕ)) Global)).
    IfSome o (λ v. map pair_at v.items ≡ unknown_beside [] (map pair_of asked))) c.in-Some.is
    c.in_ok-pairs.ensures.some in
    c.in_ok-sum_apart-in-Some.ensures
    ∙ ap (summed (apart_of e) 0) (ap (map pair_at) c.deref-in-Some.ensures.value ∙ found
    ∙ ap (λ cs. unknown_beside [] (map pair_of cs)) same)

pub returns : goal.returns
returns c = λ own.
    let e = tree_of c.args.e.now in
    let asked = map (λ x. value_of x.now) c.deref.result.now in
    let same : asked ≡ values e =
    ap (map (λ x. value_of x.now)) c.deref.ensures.value ∙ c.in_ok-values.ensures ∙ ap condition_values own in
    let many = subst (λ (o : Option (Vec (Bor (List ℕ) × Bor (List ℕ)) Global)).
    IfNone o (FEW < length (unknown_beside [] (map pair_of asked)))) c.in-None.is c.in_ok-pairs.ensures.none in
    subst (λ cs. FEW < length (unknown_beside [] (map pair_of cs))) same many
