-- The constants that callers of other languages know, by value.
use Rattle.std.specs.Prelude.{◌≡◌}
use Rattle.byte_answers.specs.declared.depth.TheConstants.{MAX_OPEN, MAX_FLAT_BYTES}
use Rattle.byte_answers.specs.declared.outcome.TheConstants.{DONE, REFUSED, NOT_UTF8, NOT_FLAT, NO_MEMORY, UNDECIDED}
use Rattle.byte_answers.specs.declared.outcome.TheConstants.{TOO_DEEP, UNKNOWN_TARGET}

-- the codes of outcomes
abbrev pub AreCodes : Type 0
AreCodes =
    (DONE ≡ 0) × (REFUSED ≡ 1) × (NOT_UTF8 ≡ 2) × (NOT_FLAT ≡ 3) × (NO_MEMORY ≡ 4) × (UNDECIDED ≡ 5)
    × (TOO_DEEP ≡ 6) × (UNKNOWN_TARGET ≡ 7)

-- the number of parentheses that may be open at once
abbrev pub IsMostOpen : Type 0
IsMostOpen = MAX_OPEN ≡ 10000

-- the number of bytes that a flat condition may have
abbrev pub IsMostFlatBytes : Type 0
IsMostFlatBytes = MAX_FLAT_BYTES ≡ 680000
