-- The answers on many keys, each as one byte.
use Rattle.std.specs.Prelude.{◌≡◌, ◌↔◌, ◌*◌, ℕ, Bool, true, false, ⊤, ◌||◌, ◌==◌, IsTrue, List, [], ◌∷◌}
use Rattle.std.specs.Str.{IsUtf8}
use Rattle.cargo_platform.specs.Trees.{CfgValue, Condition}
use Rattle.cargo_platform.specs.Facts.{fact_set, truth_of_condition}
use Rattle.cargo_platform.specs.FactLines.{SpellFacts}
use Rattle.cargo_platform.specs.Lines.{lines_of}
use Rattle.cargo_platform.specs.Platforms.{IsConditionText}
use Rattle.byte_answers.specs.declared.outcome.TheConstants.{DONE, REFUSED, NOT_UTF8, NOT_FLAT, NO_MEMORY, TOO_DEEP}
use Rattle.byte_answers.specs.LengthPrefixed.{with_lengths}
use Rattle.byte_answers.specs.Depths.{IsTooDeep}
use Rattle.byte_answers.specs.Outcomes.{IsWritten}

-- the key's condition has this truth on a target with this name and these facts
abbrev pub HasTruth : List ℕ → List ℕ → List CfgValue → Bool → Type 0
HasTruth key name facts holds =
    (p : Condition) × (IsConditionText key p × (holds ≡ truth_of_condition name (fact_set facts) p))

-- the bytes of a key that have no answer: twice the code of the call on it
abbrev pub is_key_failure : ℕ → Bool
is_key_failure byte = byte == 2 * REFUSED || byte == 2 * NOT_UTF8 || byte == 2 * NO_MEMORY || byte == 2 * TOO_DEEP

-- the byte is the answer on the key: 0 if it is false, 1 if it is true, and else twice the code of the call on it
abbrev pub IsKeyAnswer : List ℕ → List CfgValue → List ℕ → ℕ → Type 0
IsKeyAnswer name facts key byte =
    (byte ≡ 0 → HasTruth key name facts false)
    × (byte ≡ 1 → HasTruth key name facts true)
    × (byte ≡ 2 * REFUSED → (p : Condition) → IsConditionText key p → ⊥)
    × (byte ≡ 2 * NOT_UTF8 ↔ (IsUtf8 key → ⊥))
    × (byte ≡ 2 * TOO_DEEP ↔ (IsUtf8 key × IsTooDeep key))
    × IsTrue (byte == 0 || byte == 1 || is_key_failure byte)

-- as many bytes as keys, each of which is the answer on its key
abbrev pub AreKeyAnswers : List ℕ → List CfgValue → List (List ℕ) → List ℕ → Type 0
AreKeyAnswers name facts [] [] = ⊤
AreKeyAnswers name facts [] (byte ∷ bytes) = ⊥
AreKeyAnswers name facts (key ∷ keys) [] = ⊥
AreKeyAnswers name facts (key ∷ keys) (byte ∷ bytes) =
    IsKeyAnswer name facts key byte × AreKeyAnswers name facts keys bytes

-- the bytes are texts, each preceded by its length
abbrev pub AreLengthPrefixed : List ℕ → Type 0
AreLengthPrefixed bytes = (texts : List (List ℕ)) × (with_lengths texts ≡ bytes)

-- the answers on these keys, each of which is preceded by its length, are written to the buffer
abbrev pub AreAnswersAt : List ℕ → List ℕ → List ℕ → ℕ → List ℕ → List ℕ → Type 0
AreAnswersAt keys name lines needed old new =
    (texts : List (List ℕ)) × ((facts : List CfgValue) × ((bytes : List ℕ)
    × ((with_lengths texts ≡ keys) × SpellFacts (lines_of lines) facts
    × AreKeyAnswers name facts texts bytes × IsWritten bytes needed old new)))

-- the codes of a call on many keys
abbrev pub ends_batch_call : ℕ → Bool
ends_batch_call code =
    code == DONE || code == REFUSED || code == NOT_UTF8 || code == NOT_FLAT || code == NO_MEMORY
