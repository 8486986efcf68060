use Rattle.std.proofs.Common.{length, ◌-◌, ◌≡◌, ◌<◌, ◌≤◌, ℕ, true}
use Rattle.std.specs.Prelude.{slice_index}
use Rattle.spdx_expressions.specs.Tokens.{is_word_byte}
use Rattle.spdx_expressions.proofs.tokens.word_end.Given as goal

abbrev pub invariant-word : goal.invariant-word
invariant-word l = record {
  order : l.from ≤ l.at;
  within : l.at ≤ length l.text;
  word : (i : ℕ) → l.from ≤ i → i < l.at → is_word_byte (slice_index l.text i) ≡ true;
}

abbrev pub decreases-word : goal.decreases-word
decreases-word l = length l.text - l.at
