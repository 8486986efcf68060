-- Laws of what texts spell and why they are refused. Each is stated once, over a grammar of texts: what a text spells,
-- with what it is refused, what is well-formed, and how it is printed.
use Rattle.std.specs.Prelude.{◌≡◌, ◌⊎◌, ℕ, List}

-- a text spells at most one thing, or is refused with at most one fault
abbrev pub AtMostOne : {A : Type 0} → (List ℕ → A → Type 0) → List ℕ → Type 0
AtMostOne {A = A} told text = (a b : A) → told text a → told text b → a ≡ b

-- a text spells something, or is refused
abbrev pub SpellsOrIsRefused : {A F : Type 0} → (List ℕ → A → Type 0) → (List ℕ → F → Type 0) → List ℕ → Type 0
SpellsOrIsRefused {A = A} {F = F} spells refused text =
    ((a : A) × spells text a) ⊎ ((fault : F) × refused text fault)

-- a text that is refused spells nothing
abbrev pub RefusedSpellsNothing : {A F : Type 0} → (List ℕ → A → Type 0) → (List ℕ → F → Type 0) → List ℕ → Type 0
RefusedSpellsNothing {A = A} {F = F} spells refused text = (a : A) (fault : F) → refused text fault → spells text a → ⊥

-- a text spells only what is well-formed
abbrev pub SpellsOnly : {A : Type 0} → (List ℕ → A → Type 0) → (A → Type 0) → List ℕ → Type 0
SpellsOnly {A = A} spells formed text = (a : A) → spells text a → formed a

-- the printed text of whatever is well-formed spells it
abbrev pub PrintSpells : {A : Type 0} → (List ℕ → A → Type 0) → (A → Type 0) → (A → List ℕ) → A → Type 0
PrintSpells spells formed print a = formed a → spells (print a) a

-- two well-formed things are printed alike only if they are the same
abbrev pub PrintsApart : {A : Type 0} → (A → Type 0) → (A → List ℕ) → A → A → Type 0
PrintsApart formed print a b = formed a → formed b → print a ≡ print b → a ≡ b
