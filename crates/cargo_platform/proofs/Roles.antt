-- What is known of an identifier by its role in an expression.
use Rattle.std.proofs.Common.{◌≡◌, refl, ℕ, Bool, true, false, ◌||◌, List, codes, inl, inr, ◌⊎◌}
use Rattle.std.proofs.Common.{true≢false}
use Rattle.std.specs.Prelude.{bytes_eq, if◌then◌else◌}
use Rattle.std.proofs.lemmas.Slice.Eq.{bytes_eq-Decides}
use Rattle.cargo_platform.specs.Trees.{Name, Alone}
use Rattle.cargo_platform.specs.Spelling.{is_group_word, is_literal_word, Role, GroupWord, LiteralWord, PlainName, role}
use Rattle.cargo_platform.specs.Spelling.{MayStand}

pub bytes_eq-true : (xs ys : List ℕ) → bytes_eq xs ys ≡ true → xs ≡ ys
bytes_eq-true xs ys h = (bytes_eq-Decides xs ys).0 h

abbrev pub IsGroupWord : List ℕ → Type 0
IsGroupWord name = (name ≡ codes "not") ⊎ ((name ≡ codes "all") ⊎ (name ≡ codes "any"))

abbrev pub IsLiteralWord : List ℕ → Type 0
IsLiteralWord name = (name ≡ codes "true") ⊎ (name ≡ codes "false")

-- an identifier of a role
abbrev pub IsOfRole : Name → Role → Type 0
IsOfRole n GroupWord = (n.raw ≡ false) × IsGroupWord n.name
IsOfRole n LiteralWord = (n.raw ≡ false) × IsLiteralWord n.name
IsOfRole n PlainName = MayStand (Alone n)

-- an unmarked one, by whether its name is a word of a group, and of a literal
abbrev Told : List ℕ → Bool → Bool → Role → Type 0
Told name g l GroupWord = IsGroupWord name
Told name g l LiteralWord = IsLiteralWord name
Told name g l PlainName = (g ≡ false) × (l ≡ false)

-- by the comparisons with the five words
told : (name : List ℕ) (al an ne t f : Bool) → (al ≡ true → name ≡ codes "all") → (an ≡ true → name ≡ codes "any")
    → (ne ≡ true → name ≡ codes "not") → (t ≡ true → name ≡ codes "true") → (f ≡ true → name ≡ codes "false")
    → Told name (al || an || ne) (t || f)
    (if al || an || ne then GroupWord else (if t || f then LiteralWord else PlainName))
told name true an ne t f is_all is_any is_not is_true is_false = inr (inl (is_all refl))
told name false true ne t f is_all is_any is_not is_true is_false = inr (inr (is_any refl))
told name false false true t f is_all is_any is_not is_true is_false = inl (is_not refl)
told name false false false true f is_all is_any is_not is_true is_false = inl (is_true refl)
told name false false false false true is_all is_any is_not is_true is_false = inr (is_false refl)
told name false false false false false is_all is_any is_not is_true is_false = (refl, refl)

unmarked : (name : List ℕ) (r : Role)
    → Told name
    (bytes_eq name (codes "all") || bytes_eq name (codes "any") || bytes_eq name (codes "not"))
    (bytes_eq name (codes "true") || bytes_eq name (codes "false")) r
    → IsOfRole (record { raw = false; name = name }) r
unmarked name GroupWord t = (refl, t)
unmarked name LiteralWord t = (refl, t)
unmarked name PlainName t = t

by_mark : (raw : Bool) (name : List ℕ)
    → IsOfRole (record { raw = raw; name = name }) (role (record { raw = raw; name = name }))
by_mark true name = (refl, refl)
by_mark false name =
    unmarked name (role (record { raw = false; name = name }))
    (told name (bytes_eq name (codes "all")) (bytes_eq name (codes "any")) (bytes_eq name (codes "not"))
    (bytes_eq name (codes "true")) (bytes_eq name (codes "false")) (bytes_eq-true name (codes "all"))
    (bytes_eq-true name (codes "any")) (bytes_eq-true name (codes "not")) (bytes_eq-true name (codes "true"))
    (bytes_eq-true name (codes "false")))

-- an identifier is of its role
pub of_role : (n : Name) → IsOfRole n (role n)
of_role n = by_mark n.raw n.name

no_word : (g l : Bool) → g ≡ false → l ≡ false
    → (if g then GroupWord else (if l then LiteralWord else PlainName)) ≡ PlainName
no_word true l h k = absurd (true≢false h)
no_word false true h k = absurd (true≢false k)
no_word false false h k = refl

-- a name that may be in an expression
pub plain_name : (n : Name) → MayStand (Alone n) → role n ≡ PlainName
plain_name n h = no_word (is_group_word n) (is_literal_word n) h.0 h.1
