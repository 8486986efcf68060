-- Laws of the limit.
use Rattle.std.specs.Prelude.{◌≡◌, ◌⊎◌, ℕ, List, IsUtf8}
use Rattle.input_limits.specs.Limits.{IsShallow, IsDeepAt}

-- a key is nested no deeper than the limit, or it is from a position on
abbrev pub HasDepth : List ℕ → Type 0
HasDepth key = IsShallow key ⊎ ((at : ℕ) × IsDeepAt key at)

-- but not both
abbrev pub IsNotBoth : List ℕ → ℕ → Type 0
IsNotBoth key at = IsShallow key → IsDeepAt key at → ⊥

-- there is only one such position
abbrev pub HasOnePlace : List ℕ → ℕ → ℕ → Type 0
HasOnePlace key at other = IsDeepAt key at → IsDeepAt key other → at ≡ other
