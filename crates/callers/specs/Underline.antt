-- The lines that are shown for a key.
use Rattle.std.specs.Prelude.{◌≡◌, ℕ, List, Option, Some, None, String, string_bytes}
use Rattle.std.specs.declared.alloc.Global.{Global}
use Rattle.std.specs.declared.ops.Range.{Range}
use Rattle.cargo_platform.specs.Trees.{Condition}
use Rattle.cargo_platform.specs.Faults.{Fault}
use Rattle.cargo_platform.specs.FaultLaws.{IsSpanIn}
use Rattle.cargo_platform.specs.Platforms.{IsConditionText, IsRefusedCondition}
use Rattle.cargo_platform.specs.Snippets.{lines}

-- none for a key that is a condition, and for any other key the two lines of its error, with a span inside it
abbrev pub IsUnderlined : List ℕ → Option (String Global) → Type 0
IsUnderlined key None = (p : Condition) × IsConditionText key p
IsUnderlined key (Some shown) =
    (orig : List ℕ) × (fault : Fault) × (span : Range ℕ) × IsRefusedCondition key orig fault × IsSpanIn key span
    × (string_bytes shown ≡ lines key span fault)
