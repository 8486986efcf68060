use Rattle.std.proofs.Common.{◌∙◌, ◌*◌, arith}
use Rattle.known_targets.specs.Bits.{has}
use Rattle.known_targets.proofs.Bits.{has_tests}
use Rattle.known_targets.proofs.Steps.{named_more, named_none}
use Rattle.manifest_lints.specs.declared.sample_sets.TheConstants.{STRIDE}
use Rattle.manifest_lints.proofs.SetWords.{none_set}
use Rattle.manifest_lints.proofs.sample_sets.sampled.Goals as goal

pub returns : goal.returns
returns c = λ l below.
    c.places.invariant.before l (omega arith) ∙ c.words-words.ensures.members (l * STRIDE) (omega arith)

pub places-init : goal.places-init
places-init c = record { before = λ j low. absurd (omega arith); after = λ j high. none_set j }

pub places-preserved : goal.places-preserved
places-preserved c =
    let words = c.words-words.result in
    let place = c.places.place in
    record {
      before = λ j low.
          named_more j place _ _ _ (λ j. has words (j * STRIDE)) (c.with_bit-truths.ensures j)
          (has_tests words (place * STRIDE))
          (c.places.invariant.before j) (c.places.invariant.after j) (omega arith);
      after = λ j high.
          named_none j place _ _ _ (c.with_bit-truths.ensures j) (omega arith)
          (c.places.invariant.after j (omega arith));
    }
