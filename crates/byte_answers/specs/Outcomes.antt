-- The contents of a caller's buffer, and the codes that calls return.
use Rattle.std.specs.Prelude.{◌≡◌, ◌≤◌, ◌<◌, ℕ, Bool, false, ◌||◌, ◌==◌, List, ◌++◌, length, drop}
use Rattle.byte_answers.specs.declared.outcome.Outcome.{Outcome}
use Rattle.byte_answers.specs.declared.outcome.TheConstants.{DONE, REFUSED, NOT_UTF8, NOT_FLAT, NO_MEMORY, UNDECIDED}
use Rattle.byte_answers.specs.declared.outcome.TheConstants.{TOO_DEEP, UNKNOWN_TARGET}

-- the text needs this many bytes; a buffer that has as many begins with the text, and all other bytes are unchanged
abbrev pub IsWritten : List ℕ → ℕ → List ℕ → List ℕ → Type 0
IsWritten text needed old new =
    (needed ≡ length text)
    × (length text ≤ length old → new ≡ text ++ drop (length text) old)
    × (length old < length text → new ≡ old)

-- no text is written: none is needed, and the buffer is unchanged
abbrev pub IsSilent : Outcome → List ℕ → List ℕ → Type 0
IsSilent o old new = (o.needed ≡ 0) × (new ≡ old)

-- the outcome answers no question, and no example of it has a name
abbrev pub HasNoAnswer : Outcome → Type 0
HasNoAnswer o = (o.holds ≡ false) × (o.is_named ≡ false)

-- the outcome has no span of an error
abbrev pub HasNoSpan : Outcome → Type 0
HasNoSpan o = (o.start ≡ 0) × (o.end ≡ 0)

-- a code of a call that has no answer because a text is not a condition, or memory was refused
abbrev pub is_failure : ℕ → Bool
is_failure code = code == REFUSED || code == NOT_UTF8 || code == NO_MEMORY || code == TOO_DEEP

-- the codes of calls on a key, on two keys, on flat bytes, and on known targets
abbrev pub ends_key_call : ℕ → Bool
ends_key_call code = code == DONE || is_failure code

abbrev pub ends_comparison : ℕ → Bool
ends_comparison code = code == DONE || code == UNDECIDED || is_failure code

abbrev pub ends_flat_call : ℕ → Bool
ends_flat_call code =
    code == DONE || code == NOT_UTF8 || code == NOT_FLAT || code == NO_MEMORY || code == TOO_DEEP

-- a call on flat bytes alone
abbrev pub ends_flat_print : ℕ → Bool
ends_flat_print code = code == DONE || code == NOT_FLAT || code == NO_MEMORY || code == TOO_DEEP

abbrev pub ends_target_call : ℕ → Bool
ends_target_call code = code == DONE || code == NOT_UTF8 || code == NO_MEMORY || code == UNKNOWN_TARGET

-- a call on lines of facts alone
abbrev pub ends_fact_call : ℕ → Bool
ends_fact_call code = code == DONE || code == REFUSED || code == NOT_UTF8 || code == NO_MEMORY

abbrev pub ends_prepared_call : ℕ → Bool
ends_prepared_call code = code == DONE || code == NOT_FLAT || code == NO_MEMORY
