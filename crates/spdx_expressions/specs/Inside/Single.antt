-- The reader of one licence.
use Rattle.std.specs.Prelude.{ℕ, List}
use Rattle.spdx_expressions.specs.declared.error.Refusal.{Refusal}
use Rattle.spdx_expressions.specs.declared.error.Refusal.TheVariants as refusal
use Rattle.spdx_expressions.specs.Faults.{IsFaultOfOne}

-- the refusal is the fault of the text; nothing is said of an allocation failure
abbrev pub IsStoppedAtOne : List ℕ → Refusal → Type 0
IsStoppedAtOne text (refusal.Unexpected expected found span) = IsFaultOfOne text expected found span
IsStoppedAtOne text (refusal.Memory e) = Unit {0}
