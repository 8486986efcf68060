use Rattle.std.proofs.Common.{◌∙◌, sym, ap, eqb}
use Rattle.std.proofs.lemmas.Nat.Bits.{bit_at_ones}
use Rattle.manifest_lints.proofs.SetWords.{none_set}
use Rattle.manifest_lints.proofs.sample_sets.everywhere.Goals as goal

pub returns-then-truth : goal.returns-then-truth
returns-then-truth c = λ l below. ap (λ x. eqb x 1) (bit_at_ones 64 l below) ∙ sym c.if-truth.true

pub returns-else-truth : goal.returns-else-truth
returns-else-truth c = λ l below. none_set l ∙ sym c.if-truth.false
