-- The constants of searches, by value.
use Rattle.std.specs.Prelude.{◌≡◌}
use Rattle.exact_answers.specs.declared.assuming.TheConstants.{SPLITS}
use Rattle.exact_answers.specs.declared.search.TheConstants.{FEW_SPLITS}

-- the number of case splits before what is assumed counts
abbrev pub AreSplits : Type 0
AreSplits = SPLITS ≡ 6

-- the number of case splits before a diagram and a look ahead are used
abbrev pub AreFewSplits : Type 0
AreFewSplits = FEW_SPLITS ≡ 12
