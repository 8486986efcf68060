use Rattle.std.proofs.Common.{◌≡◌, sym, ◌∙◌, ap, arith, ◌+◌, ◌++◌, length}
use Rattle.std.proofs.lemmas.Result.{on_ok_weaker}
use Rattle.cargo_platform.specs.declared.cfg.Cfg.{Cfg}
use Rattle.cargo_platform.specs.Trees.{value_of}
use Rattle.cargo_platform.specs.Facts.{pair_of}
use Rattle.byte_answers.specs.Prepared.{entry_bytes, value_mark}
use Rattle.byte_answers.proofs.Entries.{entry_behind}
use Rattle.byte_answers.proofs.prepared.push_fact.Goals as goal

pub returns-in_ok-push_number-in-Name-clause-index : goal.returns-in_ok-push_number-in-Name-clause-index
returns-in_ok-push_number-in-Name-clause-index c =
    let start : c.len.result ≡ length c.args.texts.now.items = c.len.ensures ∙ c.args.texts.now.ok.0 in
    let size : length c.as_str-in-Name.result.now ≡ length (pair_of (value_of c.args.fact.now)).name =
    ap length c.as_str-in-Name.ensures ∙ ap (λ (f : Cfg). length (pair_of (value_of f)).name) (sym c.in-Name.is) in
    let mark : 0 ≡ value_mark (pair_of (value_of c.args.fact.now)).value =
    ap (λ (f : Cfg). value_mark (pair_of (value_of f)).value) (sym c.in-Name.is) in
    on_ok_weaker c.push_number-in-Name-2.result (λ last.
    entry_behind c.push_number-in-Name-2.new.out.items c.push_number.new.out.items c.push_number-in-Name.new.out.items
    c.args.index.now.items c.len.result (length c.as_str-in-Name.result.now) 0
    c.in_ok-push_number.ensures c.in_ok-push_number-in-Name.ensures last
    ∙ (λ i. c.args.index.now.items
    ++ entry_bytes (record { start = start i; name_size = size i; mark = mark i })))
    c.push_number-in-Name-2.ensures

pub returns-in_ok-push_number-in-KeyPair-clause-index : goal.returns-in_ok-push_number-in-KeyPair-clause-index
returns-in_ok-push_number-in-KeyPair-clause-index c =
    let start : c.len.result ≡ length c.args.texts.now.items = c.len.ensures ∙ c.args.texts.now.ok.0 in
    let size : length c.as_str-in-KeyPair-2.result.now ≡ length (pair_of (value_of c.args.fact.now)).name =
    ap length c.as_str-in-KeyPair-2.ensures
    ∙ ap (λ (f : Cfg). length (pair_of (value_of f)).name) (sym c.in-KeyPair.is) in
    let mark : c.len-in-KeyPair.result + 1 ≡ value_mark (pair_of (value_of c.args.fact.now)).value =
    omega (
      arith,
      c.len-in-KeyPair.ensures,
      ap (λ (f : Cfg). value_mark (pair_of (value_of f)).value) c.in-KeyPair.is,
    ) in
    on_ok_weaker c.push_number-in-KeyPair-2.result (λ last.
    entry_behind c.push_number-in-KeyPair-2.new.out.items c.push_number.new.out.items
    c.push_number-in-KeyPair.new.out.items c.args.index.now.items c.len.result
    (length c.as_str-in-KeyPair-2.result.now) (c.len-in-KeyPair.result + 1) c.in_ok-push_number.ensures
    c.in_ok-push_number-in-KeyPair.ensures last
    ∙ (λ i. c.args.index.now.items
    ++ entry_bytes (record { start = start i; name_size = size i; mark = mark i })))
    c.push_number-in-KeyPair-2.ensures
