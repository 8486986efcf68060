use Rattle.std.proofs.Common.{◌≡◌, sym, ◌∙◌, ap, subst, ℕ, List, [], ◌++◌, length, arith, append-nil, append_assoc}
use Rattle.std.proofs.Common.{vec_len}
use Rattle.std.proofs.lemmas.Bool.{eqb-true}
use Rattle.std.proofs.lemmas.List.{nil_from_length, length-append}
use Rattle.cargo_platform.specs.Trees.{Tree, trees_of}
use Rattle.byte_answers.specs.Flat.{flats}
use Rattle.byte_answers.specs.Pieces.{stack_of, piece_bytes, piece_of}
use Rattle.byte_answers.proofs.Pieces.{piece_sizes, not_zero}
use Rattle.byte_answers.proofs.Building.{Leads, leads_first, leads_on, no_put, no_record, led_alone, made_flat}
use Rattle.byte_answers.proofs.Building.{stack_size}
use Rattle.byte_answers.proofs.unflat.unflat_expression.Goals as goal

pub records-init : goal.records-init
records-init c =
    let none : stack_of c.new-built.result.items ≡ [] = ap stack_of c.new-built.ensures.items in (
      sym (append-nil c.args.bytes.now)
          ∙ ap (λ (z : List Tree). c.args.bytes.now ++ flats (trees_of z)) (sym none),
      subst (λ (z : List Tree). Leads c.args.bytes.now c.args.bytes.now z) (sym none) (leads_first c.args.bytes.now),
    )

pub returns-in_default : goal.returns-in_default
returns-in_default c =
    let built = c.records.built in
    let left = c.records.left.now in
    no_record c.args.bytes.now left (stack_of built.items) (not_zero (length left) c.records-test.ensures)
    (omega (arith, ap length c.records.invariant.0, length-append left (flats (trees_of (stack_of built.items)))))
    (omega (arith, stack_size built.items)) (rw c.in_default.is at c.in_ok-last.ensures) c.records.invariant.1

pub returns-then-not-branch : goal.returns-then-not-branch
returns-then-not-branch c =
    let built = c.records.built in
    let left = c.records.left.now in
    let last = rw c.in-Some.is at c.in_ok-last.ensures in
    no_put c.args.bytes.now left c.in-Some.last.before.now (piece_of c.in-Some.last.found) (stack_of built.items)
    (not_zero (length left) c.records-test.ensures)
    (omega (arith, ap length c.records.invariant.0, length-append left (flats (trees_of (stack_of built.items)))))
    (omega (arith, stack_size built.items)) last.1 last.0 (c.in_ok-put.ensures.refused c.if-not-branch.true)
    c.records.invariant.1

pub records-smaller : goal.records-smaller
records-smaller c =
    let last = rw c.in-Some.is at c.in_ok-last.ensures in
    (piece_sizes c.records.left.now c.in-Some.last.before.now (piece_of c.in-Some.last.found) last.0).shorter

pub records-preserved : goal.records-preserved
records-preserved c =
    let built = c.records.built in
    let left = c.records.left.now in
    let before = c.in-Some.last.before.now in
    let p = piece_of c.in-Some.last.found in
    let next = stack_of c.put.new.built.items in
    let last = rw c.in-Some.is at c.in_ok-last.ensures in
    let made = c.in_ok-put.ensures.put c.if-not-branch.false in (
      c.records.invariant.0
          ∙ ap (λ (z : List ℕ). z ++ flats (trees_of (stack_of built.items))) last.0
          ∙ append_assoc before (piece_bytes p) (flats (trees_of (stack_of built.items)))
          ∙ ap (λ (z : List ℕ). before ++ z) (sym (made_flat p (stack_of built.items) next made)),
      leads_on c.args.bytes.now left before p (stack_of built.items) next
          (not_zero (length left) c.records-test.ensures)
          (omega (arith, ap length c.records.invariant.0, length-append left (flats (trees_of (stack_of built.items)))))
          (omega (arith, stack_size built.items)) last.1 last.0 made c.records.invariant.1,
    )

pub returns-in_default-pop : goal.returns-in_default-pop
returns-in_default-pop c = λ e texts is.
    let built = c.records.built in
    let left = c.records.left.now in
    omega (
      arith,
      led_alone c.args.bytes.now left (stack_of built.items) e
          (nil_from_length left (eqb-true (length left) 0 (sym c.records-test.ensures))) c.records.invariant.1 texts is,
      stack_size built.items,
      c.in_default-pop.ensures.cases,
    )

pub returns-then-not-is_empty : goal.returns-then-not-is_empty
returns-then-not-is_empty c = λ e texts is.
    let built = c.records.built in
    let left = c.records.left.now in
    not_zero (vec_len c.pop.new.self) c.if-not-is_empty.ensures
    (omega (
      arith,
      led_alone c.args.bytes.now left (stack_of built.items) e
          (nil_from_length left (eqb-true (length left) 0 (sym c.records-test.ensures))) c.records.invariant.1 texts is,
      stack_size built.items,
      c.in-Some-pop.ensures.cases,
    ))
