use Rattle.std.proofs.Common.{◌≡◌, sym, ◌∙◌, ap, ℕ, List, [], ◌++◌, length, arith, append-nil, append_assoc}
use Rattle.std.proofs.Common.{true, false, reverse}
use Rattle.std.proofs.lemmas.Bool.{eqb-true}
use Rattle.std.proofs.lemmas.List.{nil_from_length, length-append}
use Rattle.cargo_platform.specs.Trees.{trees_of}
use Rattle.byte_answers.specs.Flat.{flats}
use Rattle.byte_answers.specs.Pieces.{piece_bytes}
use Rattle.byte_answers.proofs.Pieces.{piece_sizes, not_zero}
use Rattle.byte_answers.proofs.Building.{leads_first, leads_on, no_put, no_record, led_alone, made_flat}
use Rattle.byte_answers.proofs.Stacks.{stack_long, truths_size, alone_left}
use Rattle.byte_answers.proofs.truths.is_true_expression.Goals as goal

pub records-init : goal.records-init
records-init c = λ s means. (
  [],
  (
    sym (append-nil c.args.bytes.now),
    leads_first c.args.bytes.now,
    sym (ap reverse c.new-built.ensures.items),
  ),
)

pub returns-in_default : goal.returns-in_default
returns-in_default c = λ s means.
    let left = c.records.left.now in
    let h = c.records.invariant s means in
    no_record c.args.bytes.now left h.0 (not_zero (length left) c.records-test.ensures)
    (omega (arith, ap length h.1.0, length-append left (flats (trees_of h.0))))
    (omega (arith, ap length h.1.0, length-append left (flats (trees_of h.0)), stack_long h.0))
    (λ front p texts number is. c.in_default.ensures front p number is) h.1.1

pub returns-then-not-branch : goal.returns-then-not-branch
returns-then-not-branch c = λ s means.
    let left = c.records.left.now in
    let h = c.records.invariant s means in
    let read = c.in-Some.ensures in
    no_put c.args.bytes.now left c.in-Some.last.before.now read.0 h.0 (not_zero (length left) c.records-test.ensures)
    (omega (arith, ap length h.1.0, length-append left (flats (trees_of h.0))))
    (omega (arith, ap length h.1.0, length-append left (flats (trees_of h.0)), stack_long h.0)) read.1.0 read.1.1
    (λ next made.
    c.in_ok-put_truth.ensures.refused c.if-not-branch.true read.0 h.0 next read.1.2
    (truths_size s h.0 c.records.built.items h.1.2) made)
    h.1.1

pub records-smaller : goal.records-smaller
records-smaller c =
    (piece_sizes c.records.left.now c.in-Some.last.before.now c.in-Some.ensures.0 c.in-Some.ensures.1.1).shorter

pub records-preserved : goal.records-preserved
records-preserved c = λ s means.
    let left = c.records.left.now in
    let before = c.in-Some.last.before.now in
    let h = c.records.invariant s means in
    let read = c.in-Some.ensures in
    let p = read.0 in
    let made = c.in_ok-put_truth.ensures.put c.if-not-branch.false s p h.0 means read.1.2 h.1.2 in (
      made.0,
      (
        h.1.0
            ∙ ap (λ (z : List ℕ). z ++ flats (trees_of h.0)) read.1.1
            ∙ append_assoc before (piece_bytes p) (flats (trees_of h.0))
            ∙ ap (λ (z : List ℕ). before ++ z) (sym (made_flat p h.0 made.0 made.1.0)),
        leads_on c.args.bytes.now left before p h.0 made.0 (not_zero (length left) c.records-test.ensures)
            (omega (arith, ap length h.1.0, length-append left (flats (trees_of h.0))))
            (omega (arith, ap length h.1.0, length-append left (flats (trees_of h.0)), stack_long h.0)) read.1.0
            read.1.1 made.1.0 h.1.1,
        made.1.1,
      ),
    )

pub returns-in_default-pop : goal.returns-in_default-pop
returns-in_default-pop c = λ s means e texts is.
    let left = c.records.left.now in
    let h = c.records.invariant s means in
    let two : false ≡ true =
    c.in_default-pop.ensures.variant.1 (omega (
      arith,
      led_alone c.args.bytes.now left h.0 e
          (nil_from_length left (eqb-true (length left) 0 (sym c.records-test.ensures))) h.1.1 texts is,
      truths_size s h.0 c.records.built.items h.1.2,
    )) in
    cc

pub returns-then-not-is_empty : goal.returns-then-not-is_empty
returns-then-not-is_empty c = λ s means e texts is.
    let left = c.records.left.now in
    let h = c.records.invariant s means in
    not_zero (length c.pop.new.self.items) c.if-not-is_empty.ensures
    (omega (
      arith,
      led_alone c.args.bytes.now left h.0 e
          (nil_from_length left (eqb-true (length left) 0 (sym c.records-test.ensures))) h.1.1 texts is,
      truths_size s h.0 c.records.built.items h.1.2,
      c.in-Some-pop.ensures.len,
    ))

pub returns : goal.returns
returns c = λ s means.
    let left = c.records.left.now in
    let h = c.records.invariant s means in
    alone_left s c.args.bytes.now left h.0 c.records.built.items c.pop.new.self.items c.in-Some-pop.whole
    (nil_from_length left (eqb-true (length left) 0 (sym c.records-test.ensures))) h.1.0 h.1.2
    c.in-Some-pop.ensures.items
    (eqb-true (length c.pop.new.self.items) 0 (sym c.if-not-is_empty.ensures))
