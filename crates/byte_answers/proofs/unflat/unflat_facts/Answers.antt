use Rattle.std.proofs.Common.{◌≡◌, sym, ◌∙◌, ap, arith, List, ℕ, [], ◌∷◌, ◌++◌, length, map, reverse, append-nil}
use Rattle.std.proofs.Common.{append_assoc}
use Rattle.std.proofs.lemmas.Bool.{eqb-true}
use Rattle.std.proofs.lemmas.List.{nil_from_length, length-append, map-append, reverse-append}
use Rattle.cargo_platform.specs.declared.cfg.Cfg.{Cfg}
use Rattle.cargo_platform.specs.Trees.{value_of, CfgValue}
use Rattle.byte_answers.specs.Flat.{flat_values, flat_value}
use Rattle.byte_answers.specs.Pieces.{leaf}
use Rattle.byte_answers.proofs.Flats.{map-reverse}
use Rattle.byte_answers.proofs.Pieces.{not_zero, piece_sizes}
use Rattle.byte_answers.proofs.Building.{facts_first, facts_on, no_fact}
use Rattle.byte_answers.proofs.unflat.unflat_facts.Goals as goal

one_more : (facts : List Cfg) (v : Cfg)
    → reverse (map value_of (facts ++ v ∷ [])) ≡ value_of v ∷ reverse (map value_of facts)
one_more facts v =
    ap reverse (map-append value_of facts (v ∷ [])) ∙ reverse-append (map value_of facts) (value_of v ∷ [])

pub records-init : goal.records-init
records-init c = (
  sym (append-nil c.args.bytes.now)
      ∙ ap (λ (z : List Cfg). c.args.bytes.now ++ flat_values (reverse (map value_of z)))
      (sym c.new-facts.ensures.items),
  facts_first c.args.bytes.now,
)

pub returns-in_default : goal.returns-in_default
returns-in_default c =
    let left = c.records.left.now in
    no_fact c.args.bytes.now left (not_zero (length left) c.records-test.ensures)
    (λ front value texts is. omega (arith, (piece_sizes left front (leaf value) is).long, c.in_default.ensures))
    c.records.invariant.1

pub returns-in_default-2 : goal.returns-in_default-2
returns-in_default-2 c =
    let left = c.records.left.now in
    let never = rw c.in_default-2.is at c.in_ok-last.ensures in
    no_fact c.args.bytes.now left (not_zero (length left) c.records-test.ensures)
    (λ front value texts is. never front value texts (sym c.in-Some.ensures.0 ∙ is)) c.records.invariant.1

pub records-smaller : goal.records-smaller
records-smaller c =
    let last = rw c.in-Some-2.is at c.in_ok-last.ensures in
    (piece_sizes c.records.left.now c.in-Some-2.last.before.now (leaf (value_of c.in-Some-2.last.value))
    (c.in-Some.ensures.0 ∙ last)).shorter

pub records-preserved : goal.records-preserved
records-preserved c =
    let left = c.records.left.now in
    let before = c.in-Some-2.last.before.now in
    let value = value_of c.in-Some-2.last.value in
    let facts = c.records.facts.items in
    let last : left ≡ before ++ flat_value value =
    c.in-Some.ensures.0 ∙ rw c.in-Some-2.is at c.in_ok-last.ensures in
    let behind = flat_values (reverse (map value_of facts)) in (
      c.records.invariant.0
          ∙ ap (λ (z : List ℕ). z ++ behind) last
          ∙ append_assoc before (flat_value value) behind
          ∙ ap (λ (z : List CfgValue). before ++ flat_values z)
          (sym (ap (λ (z : List Cfg). reverse (map value_of z)) c.in_ok-push.ensures.items
          ∙ one_more facts c.in-Some-2.last.value)),
      facts_on c.args.bytes.now left before value (not_zero (length left) c.records-test.ensures)
          (omega (arith, ap length c.records.invariant.0, length-append left behind)) last c.records.invariant.1,
    )

pub returns : goal.returns
returns c =
    let left = c.records.left.now in
    let facts = c.records.facts.items in
    let empty = nil_from_length left (eqb-true (length left) 0 (sym c.is_empty.ensures ∙ c.records-test.false)) in
    ap (λ (z : List Cfg). flat_values (map value_of z)) c.reverse.ensures.items
    ∙ ap flat_values (map-reverse value_of facts)
    ∙ ap (λ (z : List ℕ). z ++ flat_values (reverse (map value_of facts))) (sym empty)
    ∙ sym c.records.invariant.0
