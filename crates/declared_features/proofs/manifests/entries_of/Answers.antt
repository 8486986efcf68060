use Rattle.std.proofs.Common.{ℕ, ◌<◌, ◌≤◌, length, List, map, Option, Some, refl, sym, ◌∙◌, ap, arith}
use Rattle.std.specs.Prelude.{option_map}
use Rattle.serde_json.specs.Data.{Data, Items}
use Rattle.serde_json.specs.View.{view}
use Rattle.std.specs.Option.{is_some}
use Rattle.cargo_metadata.specs.Fields.{elements, are_texts}
use Rattle.cargo_metadata.proofs.Elements.{elements_of, rows_none, rows_more, rows_all}
use Rattle.declared_features.specs.Documents.{IsEntryOf}
use Rattle.declared_features.proofs.Rejecting.{texts_of, text_more, text_lacks, texts_end}
use Rattle.declared_features.proofs.manifests.entries_of.Goals as goal

pub items-init : goal.items-init
items-init c = (rows_none IsEntryOf c.new-entries.result.items c.new-entries.ensures.items, refl)

pub items-preserved : goal.items-preserved
items-preserved c =
    let items = c.in-Some.items.now in
    let i = c.items.i in
    let below : i < length items.items = omega (arith, c.items-test.true, c.len-i-end.ensures, items.ok.0) in (
      rows_more IsEntryOf items.items i c.index.result.now c.items.entries.items c.push.new.self.items c.entry_of.result
          below c.index.ensures c.in_ok-push-in-Some-as_str.ensures.items c.items.invariant.0
          (c.in-Some-as_str.text.now, sym c.in-Some-as_str.ensures, c.entry_of.ensures),
      text_more items.items i c.index.result.now (are_texts (map view items.items)) below c.index.ensures
          (ap (λ (o : Option (List ℕ)). is_some o) (sym c.in-Some-as_str.ensures)) c.items.invariant.1,
    )

pub returns-in-None-clause-texts : goal.returns-in-None-clause-texts
returns-in-None-clause-texts c =
    let items = c.in-Some.items.now in
    let i = c.items.i in
    let below : i < length items.items = omega (arith, c.items-test.true, c.len-i-end.ensures, items.ok.0) in
    text_lacks items.items i c.index.result.now (are_texts (map view items.items)) below c.index.ensures
    (ap (λ (o : Option (List ℕ)). is_some o) (sym c.in-None.ensures)) c.items.invariant.1
    ∙ sym (texts_of (view c.args.value.now) items.items c.in-Some.ensures)

pub returns-clause-texts : goal.returns-clause-texts
returns-clause-texts c =
    let items = c.in-Some.items.now in
    let past : length items.items ≤ c.items.i = omega (arith, c.items-test.false, c.len-i-end.ensures, items.ok.0) in
    texts_end items.items c.items.i (are_texts (map view items.items)) past c.items.invariant.1
    ∙ sym (texts_of (view c.args.value.now) items.items c.in-Some.ensures)

pub returns-clause-entries : goal.returns-clause-entries
returns-clause-entries c =
    let items = c.in-Some.items.now in
    let past : length items.items ≤ c.items.i = omega (arith, c.items-test.false, c.len-i-end.ensures, items.ok.0) in (
      map view items.items,
      sym (ap (λ (o : Option Items). option_map elements o) c.in-Some.ensures)
          ∙ ap (λ (ds : List Data). Some ds) (elements_of (map view items.items)),
      rows_all IsEntryOf items.items c.items.i c.items.entries.items past c.items.invariant.0,
    )
