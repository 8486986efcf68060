-- Why bytes are refused, and the message about it.
use Rattle.std.specs.Prelude.{◌≡◌, ◌<◌, ◌≤◌, ◌⊎◌, ℕ, List, ◌++◌, length, codes, IsUtf8}
use Rattle.std.specs.Fmt.{decimal}
use Rattle.std.specs.declared.io.ErrorKind.{ErrorKind}
use Rattle.std.specs.declared.io.ErrorKind.TheVariants.{FileTooLarge, InvalidData}

-- they are more than the limit, or else not UTF-8
abbrev pub IsWhyNoText : List ℕ → ℕ → ErrorKind → Type 0
IsWhyNoText bytes limit kind =
    ((kind ≡ FileTooLarge) × (limit < length bytes))
    ⊎ ((kind ≡ InvalidData) × (length bytes ≤ limit) × (IsUtf8 bytes → ⊥))

-- the message for that kind of refusal; those of the system have messages of their own
abbrev pub IsReason : ErrorKind → ℕ → List ℕ → Type 0
IsReason kind limit text =
    (kind ≡ FileTooLarge → text ≡ codes "it has more than " ++ decimal limit ++ codes " bytes, which is the limit")
    × (kind ≡ InvalidData → text ≡ codes "it is not valid UTF-8")
