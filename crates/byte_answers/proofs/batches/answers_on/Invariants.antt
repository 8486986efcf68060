use Rattle.std.proofs.Common.{length, map}
use Rattle.cargo_platform.specs.Trees.{value_of}
use Rattle.byte_answers.proofs.LengthPrefixedTexts.{AreReadTo}
use Rattle.byte_answers.proofs.batches.answers_on.Given as goal

abbrev pub invariant-keys : goal.invariant-keys
invariant-keys l = AreReadTo l.keys l.left l.name (map value_of l.facts) l.answers.items

abbrev pub decreases-keys : goal.decreases-keys
decreases-keys l = length l.left
