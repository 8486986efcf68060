-- Laws of the cut of a text, and of the calls of a tokenizer.
use Rattle.std.specs.Prelude.{◌≡◌, ◌↔◌, ℕ, List, Option, Some, None, Result, Err}
use Rattle.cargo_platform.specs.declared.tokens.Spanned.{Spanned}
use Rattle.cargo_platform.specs.declared.tokens.TokenFault.{TokenFault}
use Rattle.cargo_platform.specs.Tokens.{Placed}
use Rattle.cargo_platform.specs.Cut.{IsCut}
use Rattle.cargo_platform.specs.Reading.{Progress, GoesThrough, NextGives}

-- a text has exactly one cut
abbrev pub HasOneCut : List ℕ → Type 0
HasOneCut text =
    (ts : List Placed) × (tail : ℕ) × IsCut text ts tail
    × ((us : List Placed) (end : ℕ) → IsCut text us end → (us ≡ ts) × (end ≡ tail))

-- from the start of a text, calls return the tokens of its cut in order, and then its tail
abbrev pub CutsAreRead : List ℕ → Type 0
CutsAreRead text = (ts : List Placed) (tail : ℕ) → GoesThrough text ts tail ↔ IsCut text ts tail

-- they return no other tokens, and reach no other tail
abbrev pub IsReadAlike : List ℕ → Type 0
IsReadAlike text = (ts us : List Placed) (tail end : ℕ) → IsCut text ts tail → GoesThrough text us end
    → (us ≡ ts) × (end ≡ tail)

-- any call at this progress returns nothing
abbrev pub GivesNoMore : Progress → Type 0
GivesNoMore p = (r : Option (Result Spanned TokenFault)) (new : Progress) → NextGives p r new → r ≡ None

-- once a call returned nothing, every call does
abbrev pub EndsForGood : Progress → Progress → Type 0
EndsForGood old new = NextGives old None new → GivesNoMore new

-- after the fault of a tail, every call returns nothing
abbrev pub FailsOnce : Progress → Progress → Type 0
FailsOnce old new = (fault : TokenFault) → NextGives old (Some (Err fault)) new → GivesNoMore new
