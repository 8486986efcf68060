use Rattle.std.proofs.Common.{refl, sym, ap, ◌∙◌, subst, arith, ℕ, List, [], ◌∷◌, ◌++◌, length, map, append-nil}
use Rattle.std.proofs.lemmas.Bool.{eqb-true}
use Rattle.std.proofs.lemmas.List.{nil_from_length}
use Rattle.cargo_platform.specs.Trees.{value_of}
use Rattle.byte_answers.specs.Batches.{AreKeyAnswers}
use Rattle.byte_answers.specs.LengthPrefixed.{with_lengths}
use Rattle.byte_answers.proofs.LengthPrefixedTexts.{with_length_size, no_texts, one_answered, one_read}
use Rattle.byte_answers.proofs.Pieces.{not_zero}
use Rattle.byte_answers.proofs.batches.answers_on.Goals as goal

pub keys-init : goal.keys-init
keys-init c =
    let facts = map value_of c.args.facts.now in (
      [],
      (
        refl,
        subst (λ (z : List ℕ). AreKeyAnswers c.args.name.now facts [] z) (sym c.new-answers.ensures.items) tt,
      ),
    )

pub returns-in_default : goal.returns-in_default
returns-in_default c = λ counted.
    let inv = c.keys.invariant in
    no_texts counted.0 inv.0 c.keys.left.now (omega (arith, ap length inv.1.0))
    (not_zero (length c.keys.left.now) c.keys-test.ensures) c.in_default.ensures (counted.1 ∙ inv.1.0)

pub keys-smaller : goal.keys-smaller
keys-smaller c =
    omega (arith, ap length c.in-Some.ensures, with_length_size c.in-Some.key.now c.in-Some.others.now)

pub keys-preserved : goal.keys-preserved
keys-preserved c =
    let inv = c.keys.invariant in
    let key = c.in-Some.key.now in
    let name = c.args.name.now in
    let facts = map value_of c.args.facts.now in (
      inv.0 ++ key ∷ [],
      (
        one_read inv.0 c.args.keys.now c.keys.left.now key c.in-Some.others.now inv.1.0 c.in-Some.ensures,
        subst (λ (z : List ℕ). AreKeyAnswers name facts (inv.0 ++ key ∷ []) z)
            (sym {A = List ℕ} c.in_ok-push.ensures.items)
            (one_answered name facts inv.0 c.keys.answers.items key c.answer_on.result inv.1.1 c.answer_on.ensures),
      ),
    )

pub returns : goal.returns
returns c =
    let inv = c.keys.invariant in
    let left = c.keys.left.now in
    let empty = nil_from_length left (eqb-true (length left) 0 (sym c.is_empty.ensures ∙ c.keys-test.false)) in (
      inv.0,
      (
        sym (inv.1.0 ∙ ap (λ (z : List ℕ). with_lengths inv.0 ++ z) empty ∙ append-nil (with_lengths inv.0)),
        inv.1.1,
      ),
    )
