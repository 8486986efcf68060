-- The conditions of earlier keys that are the same, apart from raw marks, and those that are equivalent.
use Rattle.std.specs.Prelude.{◌≡◌, ◌⊎◌, ◌≤◌, ℕ, List, [], ◌∷◌, ◌++◌, length, Option, Some, None}
use Rattle.std.specs.List.{All}
use Rattle.std.specs.Borrow.{Bor}
use Rattle.cargo_platform.specs.declared.Platform.{Platform}
use Rattle.cargo_platform.specs.Trees.{Condition, condition_of}
use Rattle.cargo_platform.specs.Key.{condition_key}
use Rattle.cargo_platform.specs.Platforms.{IsConditionText}
use Rattle.exact_answers.specs.declared.fact_constraints.FactConstraints.{FactConstraints}
use Rattle.manifest_lints.specs.declared.earlier.Earlier.{Earlier}
use Rattle.manifest_lints.specs.declared.earlier.Earlier.TheVariants as earlier
use Rattle.manifest_lints.specs.declared.earlier.Keys.{Keys}
use Rattle.manifest_lints.specs.Earlier.{noted, AreEquivalent}
use Rattle.manifests.specs.Entries.{Entry}

-- the text is a condition for which P holds
abbrev pub SpellsOne : (Condition → Type 0) → List ℕ → Type 0
SpellsOne P text = (d : Condition) × IsConditionText text d × P d

-- one of the keys is such a condition
abbrev pub HasOne : (Condition → Type 0) → List Entry → Type 0
HasOne P [] = ⊥
HasOne P (e ∷ es) = SpellsOne P e.0 ⊎ HasOne P es

-- the key at this index is such a condition
pub record IsOneAt (P : Condition → Type 0) (es : List Entry) (n : ℕ) : Type 0 where
  pub before : List Entry
  pub key : Entry
  pub after : List Entry
  pub are : es ≡ before ++ key ∷ after
  pub place : length before ≡ n
  pub spells : SpellsOne P key.0

-- the key at this index is such a condition, and no key before it is
pub record IsFirstAt (P : Condition → Type 0) (es : List Entry) (n : ℕ) : Type 0 where
  pub one : IsOneAt P es n
  pub first : HasOne P one.before → ⊥

abbrev pub IsFirst : (Condition → Type 0) → List Entry → Option ℕ → Type 0
IsFirst P es (Some n) = IsFirstAt P es n
IsFirst P es None = HasOne P es → ⊥

abbrev pub IsSameAs : Condition → Condition → Type 0
IsSameAs c d = condition_key d ≡ condition_key c

abbrev pub HasSame : List Entry → Condition → Type 0
HasSame es c = HasOne (IsSameAs c) es

-- the index that is recorded for a condition is that of the first of these keys that is the same
abbrev pub AreNoted : List Entry → Keys → Type 0
AreNoted es keys = (q : Bor Platform) → IsFirst (IsSameAs (condition_of q.now)) es (noted keys q)

-- ---- equivalent conditions

-- one of the keys is a condition that is equivalent to this one on each possible target
abbrev pub HasEquivalent : FactConstraints → List Entry → Condition → Type 0
HasEquivalent k es c = HasOne (λ d. AreEquivalent k d c) es

abbrev pub IsSpelledAt : List Entry → Condition → ℕ → Type 0
IsSpelledAt es c n = IsOneAt (λ d. d ≡ c) es n

-- each of them is the condition of the key at its index, and there are no more of them than keys
pub record AreMembers (es : List Entry) (keys : Keys) : Type 0 where
  pub spelled : All (λ m. IsSpelledAt es (condition_of m.1.now) m.0) keys.members.items
  pub most : length keys.members.items ≤ length es

-- ---- the key that is named

-- the index that an answer names is that of the first key that is the same condition as this one, or that of a key
-- whose condition is equivalent on each possible target
abbrev pub NamesRightly : FactConstraints → List Entry → Condition → Earlier → Type 0
NamesRightly k es c (earlier.Same n) = IsFirstAt (IsSameAs c) es n
NamesRightly k es c (earlier.Equivalent n) = IsOneAt (λ d. AreEquivalent k d c) es n
NamesRightly k es c earlier.Unlike = Unit {0}
NamesRightly k es c earlier.Undecided = Unit {0}

abbrev pub named_place : Earlier → Option ℕ
named_place (earlier.Same n) = Some n
named_place (earlier.Equivalent n) = Some n
named_place earlier.Unlike = None
named_place earlier.Undecided = None
