use Rattle.std.proofs.Common.{◌∙◌, sym, ap, string_bytes}
use Rattle.std.proofs.lemmas.List.Sorted.{searchable_from_sorted}
use Rattle.std.specs.FinSet.{contains}
use Rattle.cargo_platform.specs.Trees.{Alone, KeyPair, name_of, value_of}
use Rattle.cargo_platform.specs.Facts.{pair_of, fact_set}
use Rattle.cargo_platform.specs.FactIndexes.{indexed}
use Rattle.cargo_platform.specs.Places.{text_hash, HashedPair, hashed_in, hashed_at, hashed_pair_at}
use Rattle.cargo_platform.proofs.FactIndexes.{is_name_found, is_pair_found, is_name_kept, is_pair_kept}
use Rattle.cargo_platform.proofs.FactSets.{is_listed}
use Rattle.cargo_platform.proofs.HashOrder.{hashed_total, hashed_pair_total}
use Rattle.cargo_platform.proofs.facts.FactIndexFacts.holds.Goals as goal

pub has-requires : goal.has-requires
has-requires c =
    let index = c.args.self.now in
    rw c.as_str-texts.ensures.value
    (searchable_from_sorted hashed_total (hashed_at (string_bytes index.texts)) index.names.members.items
    (hashed_in c.new-name.result) index.names_sorted)

pub returns-in-Name : goal.returns-in-Name
returns-in-Name c =
    let index = c.args.self.now in
    let texts = string_bytes index.texts in
    let names = index.names.members.items in
    let n = name_of c.in-Name.name in
    let hash = c.new-name.ensures.hash ∙ ap text_hash (sym c.new-name.ensures.text) in
    let found = rw c.as_str-texts.ensures.value at c.has.ensures.found in
    found
    ∙ is_name_found texts (hashed_in c.new-name.result) n hash (c.new-name.ensures.text ∙ c.deref.ensures) names
    index.names_hashed
    ∙ is_name_kept texts names index.pairs.members.items n
    ∙ is_listed (Alone n) (indexed index)
    ∙ sym (ap (λ v. contains (fact_set (indexed index)) (pair_of (value_of v))) c.in-Name.is)

pub has-requires-in-KeyPair : goal.has-requires-in-KeyPair
has-requires-in-KeyPair c =
    let index = c.args.self.now in
    let sought : HashedPair = record { key = c.as_str-key.result.now; value = hashed_in c.new-value.result } in
    rw c.as_str-texts.ensures.value
    (searchable_from_sorted hashed_pair_total (hashed_pair_at (string_bytes index.texts)) index.pairs.members.items
    sought index.pairs_sorted)

pub returns-in-KeyPair : goal.returns-in-KeyPair
returns-in-KeyPair c =
    let index = c.args.self.now in
    let texts = string_bytes index.texts in
    let pairs = index.pairs.members.items in
    let k = name_of c.in-KeyPair.key in
    let v = string_bytes c.in-KeyPair.value in
    let sought : HashedPair = record { key = c.as_str-key.result.now; value = hashed_in c.new-value.result } in
    let hash = c.new-value.ensures.hash ∙ ap text_hash (sym c.new-value.ensures.text) in
    let found = rw c.as_str-texts.ensures.value at c.has-in-KeyPair.ensures.found in
    found
    ∙ is_pair_found texts sought k v hash c.as_str-key.ensures.value
    (c.new-value.ensures.text ∙ c.deref-in-KeyPair.ensures) pairs index.values_hashed
    ∙ is_pair_kept texts index.names.members.items pairs k v
    ∙ is_listed (KeyPair k v) (indexed index)
    ∙ sym (ap (λ c. contains (fact_set (indexed index)) (pair_of (value_of c))) c.in-KeyPair.is)
