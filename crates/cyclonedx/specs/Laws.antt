-- What follows from the definitions.
use Rattle.std.specs.Prelude.{◌≡◌, ◌<◌, ℕ, false, ◌==◌, ◌||◌, List, All}
use Rattle.percent_encoding.specs.Percent.{percent_decode}
use Rattle.cyclonedx.specs.Purls.{escape}

-- what stands for a name or a version decodes to it
abbrev pub DecodesToItself : Type 0
DecodesToItself = (text : List ℕ) → All (λ b. b < 256) text → percent_decode (escape text) ≡ text

-- and it has no `@`, `?`, `#`, `/`, `&` and `=`, which end the parts of a package URL
abbrev pub HasNoSeparator : Type 0
HasNoSeparator =
    (text : List ℕ)
    → All (λ b. (b == 64 || b == 63 || b == 35 || b == 47 || b == 38 || b == 61) ≡ false) (escape text)
