use Rattle.std.proofs.Common.{◌∙◌, sym, ap, ◌+◌, ◌%◌, ◌^◌}
use Rattle.manifest_lints.specs.Samples.{mixed, spread}
use Rattle.manifest_lints.specs.Numbers.{pair_at}
use Rattle.manifest_lints.proofs.SetWords.{away}
use Rattle.manifest_lints.proofs.Numbers.{apart_none, apart_some}
use Rattle.manifest_lints.proofs.sample_sets.number_apart.Goals as goal

pub returns-then-with-without : goal.returns-then-with-without
returns-then-with-without c =
    let a = c.args in
    sym (apart_none a.with a.without (pair_at (a.key, a.value)) c.if-with-without.true)

pub returns : goal.returns
returns c =
    let a = c.args in
    c.spread-2.ensures
    ∙ ap spread (c.mixed.ensures ∙ ap (λ n. mixed ((n + 1) % 2 ^ 64) a.value.now)
    (c.mixed-number.ensures ∙ ap (λ n. mixed n a.key.now) c.spread.ensures))
    ∙ apart_some a.with a.without (pair_at (a.key, a.value))
    (away a.with a.without c.if-with-without.false)
