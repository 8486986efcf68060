-- How deeply a key may be nested.
use Rattle.std.specs.Prelude.{ℕ, List, ◌++◌, codes}
use Rattle.std.specs.Fmt.{decimal}
use Rattle.cargo_platform.specs.Trees.{Condition}
use Rattle.cargo_platform.specs.Errors.{orig_of, fault_in, span_in}
use Rattle.cargo_platform.specs.Nesting.{IsNestedWithin, IsPassedAt}
use Rattle.cargo_platform.specs.Platforms.{IsConditionText, IsRefusedConditionAt}
use Rattle.input_limits.specs.declared.keys.KeyError.{KeyError}
use Rattle.input_limits.specs.declared.keys.KeyError.TheVariants as error

-- the greatest number of parentheses that may be open at once: those of 100,000 groups, and that of `cfg(`
abbrev pub most_open : ℕ
most_open = 100_001

abbrev pub IsShallow : List ℕ → Type 0
IsShallow key = IsNestedWithin key most_open

-- the parenthesis at this position is the first that is one too many
abbrev pub IsDeepAt : List ℕ → ℕ → Type 0
IsDeepAt key at = IsPassedAt key most_open at

abbrev pub SpellsNothing : List ℕ → Type 0
SpellsNothing key = (c : Condition) → IsConditionText key c → ⊥

-- the key is nested too deeply from a position on, or else it spells no condition, because of this fault
abbrev pub IsWhyUnread : List ℕ → KeyError → Type 0
IsWhyUnread key (error.TooDeep at) = IsDeepAt key at
IsWhyUnread key (error.Parse e) =
    IsShallow key × SpellsNothing key × IsRefusedConditionAt key (orig_of e) (fault_in e) (span_in e)
IsWhyUnread key (error.Memory e) = Unit {0}

abbrev pub too_deep_message : ℕ → List ℕ
too_deep_message at = codes "nested too deep: more than 100000 groups are open at byte " ++ decimal at
