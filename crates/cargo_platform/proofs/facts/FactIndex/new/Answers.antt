use Rattle.std.proofs.Common.{◌≡◌, ◌∙◌, ◌<◌, ap, map, length, string_bytes, arith, rules, tests}
use Rattle.std.specs.Ordering.{is_lt}
use Rattle.std.proofs.lemmas.List.{take_all}
use Rattle.std.proofs.lemmas.Fn.{always_returns_same}
use Rattle.std.proofs.lemmas.List.MinMax.{ranks_by}
use Rattle.cargo_platform.specs.Trees.{name_of, value_of}
use Rattle.cargo_platform.specs.Places.{hashed_at, hashed_cmp, hashed_pair_at, hashed_pair_cmp}
use Rattle.cargo_platform.specs.Facts.{fact_set}
use Rattle.cargo_platform.proofs.FactIndexes.{name_kept, pair_kept, put_in_order, names_hashed, values_hashed}
use Rattle.cargo_platform.proofs.HashOrder.{hashed_total, hashed_pair_total}
use Rattle.cargo_platform.proofs.facts.FactIndex.new.Goals as goal
use Rattle.cargo_platform.proofs.facts.FactIndex.new.Goals.{in-Name+in_ok-append-in-Name+in_ok-push-in-Name}
use Rattle.cargo_platform.proofs.facts.FactIndex.new.Goals.{in-KeyPair+in_ok-append-in-KeyPair+in_ok-push-in-KeyPair}

pub loop-fact-preserved : goal.loop-fact-preserved
loop-fact-preserved c =
    let facts = c.args.cfg.now in
    let i = c.loop-fact.fact-index in
    let fact = c.fact-item.result in
    let old = string_bytes c.loop-fact.texts in
    let names = c.loop-fact.names.items in
    let pairs = c.loop-fact.pairs.items in
    let within : i < length facts = omega arith in
    elim c.match-fact.branch [
      | in-Name+in_ok-append-in-Name+in_ok-push-in-Name w ↦
          let name = name_of w.in-Name.name in
          let has = rw w.deref.ensures at w.in_ok-append-in-Name.ensures.text in
          rw (w.texts-is, w.names-is, w.pairs-is, w.in_ok-push-in-Name.ensures.items)
          (name_kept facts i fact within c.fact-item.is old (string_bytes w.append.new.texts) names pairs
          w.in_ok-append-in-Name.field-0 name w.in_ok-append-in-Name.ensures.others has (ap value_of w.in-Name.is)
          c.loop-fact.invariant)
      | in-KeyPair+in_ok-append-in-KeyPair+in_ok-push-in-KeyPair w ↦
          let key = name_of w.in-KeyPair.key in
          let value = string_bytes w.in-KeyPair.value in
          let has = rw (w.deref-in-KeyPair.ensures, w.deref-in-KeyPair-2.ensures) at
          w.in_ok-append-in-KeyPair.ensures.pair in
          rw (w.texts-is, w.names-is, w.pairs-is, w.in_ok-push-in-KeyPair.ensures.items)
          (pair_kept facts i fact within c.fact-item.is old (string_bytes w.append-in-KeyPair.new.texts) names pairs
          w.in_ok-append-in-KeyPair.field-0 key value w.in_ok-append-in-KeyPair.ensures.others has
          (ap value_of w.in-KeyPair.is) c.loop-fact.invariant)
    ]

pub invariant_of-result : goal.invariant_of-result
invariant_of-result c =
    let texts = string_bytes c.loop-fact.texts in
    let whole = c.as_str-whole.result.now in
    record {
      names_hashed =
          rw c.new.ensures
          (names_hashed texts _ _ c.loop-fact.invariant.names_in c.sort_unstable_by.ensures.permutation);
      values_hashed =
          rw c.new-2.ensures
          (values_hashed texts _ _ c.loop-fact.invariant.pairs_in c.sort_unstable_by-2.ensures.permutation);
      names_sorted =
          rw (c.new.ensures, ← c.as_str-whole.ensures.value)
          (c.sort_unstable_by.ensures.sorted _ (ranks_by hashed_total (hashed_at whole))
          (always_returns_same _ _ _ (λ a r q k.
          let is : (r ≡ hashed_cmp (hashed_at whole a.0.now) (hashed_at whole a.1.0.now))
          × (q ≡ record { 0 = c.as_str-whole.result }) = search (rules, tests) in (ap is_lt is.0, is.1))));
      pairs_sorted =
          rw (c.new-2.ensures, ← c.as_str-whole.ensures.value)
          (c.sort_unstable_by-2.ensures.sorted _ (ranks_by hashed_pair_total (hashed_pair_at whole))
          (always_returns_same _ _ _ (λ a r q k.
          let is : (r ≡ hashed_pair_cmp (hashed_pair_at whole a.0.now) (hashed_pair_at whole a.1.0.now))
          × (q ≡ record { 0 = c.as_str-whole.result }) = search (rules, tests) in (ap is_lt is.0, is.1))));
    }

pub returns : goal.returns
returns c =
    let texts = string_bytes c.loop-fact.texts in
    rw (c.new.ensures, c.new-2.ensures)
    (put_in_order _ texts _ _ _ _ c.loop-fact.invariant c.sort_unstable_by.ensures.permutation
    c.sort_unstable_by-2.ensures.permutation
    ∙ ap (λ cs. fact_set (map value_of cs)) (take_all c.loop-fact.fact-index c.args.cfg.now (omega arith)))
