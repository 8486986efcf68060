-- The constants of answers on the targets of a file, by value.
use Rattle.std.specs.Prelude.{◌≡◌}
use Rattle.manifest_answers.specs.declared.given_targets.TheConstants.{FEW_FACTS, SPLITS}

-- the number of facts of a condition that is searched on each target
abbrev pub AreFewFacts : Type 0
AreFewFacts = FEW_FACTS ≡ 64

-- the number of case splits in a search on one target
abbrev pub AreSplits : Type 0
AreSplits = SPLITS ≡ 64
