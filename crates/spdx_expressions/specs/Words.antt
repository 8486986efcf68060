-- Which words are operators, identifiers and the names of licences. The sources are the annexes "SPDX license
-- expressions" of the SPDX specification, version 2.3, and Cargo's reference on `license`.
use Rattle.std.specs.Prelude.{ℕ, Bool, true, false, not, ◌&&◌, ◌||◌, ◌==◌, List, length, take, codes, bytes_eq}
use Rattle.std.specs.Prelude.{nat_eq, nat_lt, slice_index, ◌-◌, if◌then◌else◌}
use Rattle.std.specs.Char.{is_ascii_alphanumeric}
use Rattle.std.specs.List.{list_all, starts_with, before_first, after_first}

-- an ASCII letter, an ASCII digit, `-` or `.`
abbrev pub is_id_byte : ℕ → Bool
is_id_byte b = is_ascii_alphanumeric b || b == 0x2D || b == 0x2E

-- the annex's `idstring`
abbrev pub is_id_string : List ℕ → Bool
is_id_string bs = not (length bs == 0) && list_all is_id_byte bs

-- an operator, in capital letters: otherwise it is an identifier
abbrev pub is_operator : List ℕ → Bool
is_operator bs = bytes_eq bs (codes "AND") || bytes_eq bs (codes "OR") || bytes_eq bs (codes "WITH")

abbrev pub is_identifier : List ℕ → Bool
is_identifier bs = is_id_string bs && not (is_operator bs)

-- it begins with the prefix, and is longer
abbrev pub goes_on : List ℕ → List ℕ → Bool
goes_on prefix bs = starts_with nat_eq bs prefix && nat_lt (length prefix) (length bs)

-- a licence that the document itself describes: `LicenseRef-` and an `idstring`
abbrev pub is_own_reference : List ℕ → Bool
is_own_reference bs = is_id_string bs && goes_on (codes "LicenseRef-") bs

-- a licence that another document describes: `DocumentRef-`, an `idstring`, `:` and such a licence
abbrev pub is_foreign_reference : List ℕ → Bool
is_foreign_reference bs =
    is_id_string (before_first (λ b. b == 0x3A) bs)
    && goes_on (codes "DocumentRef-") (before_first (λ b. b == 0x3A) bs)
    && is_own_reference (after_first (λ b. b == 0x3A) bs)

-- any other identifier, whether the list of SPDX has it or not
abbrev pub is_listed : List ℕ → Bool
is_listed bs =
    is_identifier bs
    && not (starts_with nat_eq bs (codes "LicenseRef-"))
    && not (starts_with nat_eq bs (codes "DocumentRef-"))

-- the name of a licence, by whether `+` directly follows it, which is not possible for a reference
abbrev pub is_name : Bool → List ℕ → Bool
is_name true bs = is_listed bs
is_name false bs = is_listed bs || is_own_reference bs || is_foreign_reference bs

-- ---- a word as a licence

-- the last byte is `+`
abbrev pub ends_with_plus : List ℕ → Bool
ends_with_plus w = slice_index w (length w - 1) == 0x2B

abbrev pub without_plus : List ℕ → List ℕ
without_plus w = if ends_with_plus w then take (length w - 1) w else w

-- the word is the name of a licence, with or without `+`
abbrev pub names_licence : List ℕ → Bool
names_licence w = is_name (ends_with_plus w) (without_plus w)
