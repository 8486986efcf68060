-- From the bytes at a place to the next token.
use Rattle.std.proofs.Common.{◌≡◌, ◌⊎◌, inl, inr, refl, sym, ap, ◌∙◌, subst, ℕ, suc, ◌+◌, ◌≤◌, ◌<◌, Bool, true}
use Rattle.std.proofs.Common.{false}
use Rattle.std.proofs.Common.{not, List, [], ◌∷◌, ◌++◌, length, get_or, drop, drop-cons, arith, cond, add-one, eq-eqb}
use Rattle.std.proofs.Common.{◌-◌}
use Rattle.std.specs.Prelude.{◌||◌, ◌==◌, ◌&&◌, slice_range}
use Rattle.std.proofs.lemmas.Bool.{cases_lt}
use Rattle.std.proofs.lemmas.Bool.Decides.{nat_tests}
use Rattle.std.proofs.Math.Nat.{eq-or-lt_of_le}
use Rattle.std.proofs.lemmas.List.{drop_all}
use Rattle.std.proofs.lemmas.List.Folds.{drop_split}
use Rattle.std.proofs.lemmas.List.Edits.{length-between, get_or-between}
use Rattle.spdx_expressions.specs.Tokens.{is_space, is_mark, is_word_byte, is_word, mark, single, longer, with_byte}
use Rattle.spdx_expressions.specs.Tokens.{tokens_from, Placed, LeftBracket, RightBracket, Slash, Word}

-- a byte is a space, a mark or a byte of a word
neither : (a b : Bool) → not (a || b) ≡ true → (a ≡ false) × (b ≡ false)
neither true b h = absurd cc
neither false true h = absurd cc
neither false false h = (refl, refl)

either : (a b : Bool) → not (a || b) ≡ false → (a ≡ true) ⊎ ((a ≡ false) × (b ≡ true))
either true b h = inl refl
either false true h = inr (refl, refl)
either false false h = absurd cc

pub space_step : (text : List ℕ) (at : ℕ) → at < length text → is_space (get_or text at 0) ≡ true
    → tokens_from at (drop at text) ≡ tokens_from (at + 1) (drop (at + 1) text)
space_step text at within space = rw (add-one, drop-cons text at 0, space, add-one) refl

pub mark_step : (text : List ℕ) (at : ℕ) → at < length text → is_mark (get_or text at 0) ≡ true
    → is_space (get_or text at 0) ≡ false
    → tokens_from at (drop at text) ≡ single (mark (get_or text at 0)) at ∷ tokens_from (at + 1) (drop (at + 1) text)
mark_step text at within is_one no_space = rw (add-one, drop-cons text at 0, no_space, is_one, add-one) refl

-- ---- a word

mark_is_no_word : (b : ℕ) → is_word (mark b) ≡ false
mark_is_no_word b = by_tests (b == 0x28) (b == 0x29)
  where
    by_tests : (l r : Bool) → is_word (cond l LeftBracket (cond r RightBracket Slash)) ≡ false
    by_tests true r = refl
    by_tests false true = refl
    by_tests false false = refl

-- the first of the tokens begins at this place or after it
BeginsFrom : ℕ → List Placed → Type 0
BeginsFrom at [] = Unit {0}
BeginsFrom at (t ∷ ts) = at ≤ t.start

with_byte_begins : (b at : ℕ) (ts : List Placed) → BeginsFrom at (with_byte b at ts)
unfolding BeginsFrom
with_byte_begins b at [] = omega arith
with_byte_begins b at (t ∷ ts) =
    elim (is_word t.token && (t.start == at + 1))
    as (λ v. BeginsFrom at (cond v (longer b at t ∷ ts) (single (Word (b ∷ [])) at ∷ t ∷ ts)))
    [ true ↦ omega arith | false ↦ omega arith ]

begins_later : (at : ℕ) (ts : List Placed) → BeginsFrom (at + 1) ts → BeginsFrom at ts
unfolding BeginsFrom
begins_later at [] h = tt
begins_later at (t ∷ ts) h = omega arith

tokens_begin : (bs : List ℕ) (at : ℕ) → BeginsFrom at (tokens_from at bs)
unfolding BeginsFrom
tokens_begin [] at = tt
tokens_begin (b ∷ bs) at =
    elim (is_space b)
    as (λ v. BeginsFrom at (cond v (tokens_from (at + 1) bs) (cond (is_mark b)
    (single (mark b) at ∷ tokens_from (at + 1) bs) (with_byte b at (tokens_from (at + 1) bs))))) [
      | true ↦ begins_later at _ (tokens_begin bs (at + 1))
      | false ↦ elim (is_mark b)
          as (λ v. BeginsFrom at (cond v (single (mark b) at ∷ tokens_from (at + 1) bs)
          (with_byte b at (tokens_from (at + 1) bs))))
          [ true ↦ omega arith | false ↦ with_byte_begins b at _ ]
    ]

-- what follows a word does not go on with it
unfoldable pub EndsWord : List ℕ → Type 0
EndsWord [] = Unit {0}
EndsWord (b ∷ bs) = is_word_byte b ≡ false

far : (t : Placed) (at : ℕ) → at + 1 + 1 ≤ t.start → (t.start == at + 1) ≡ false
far t at h = search (arith, h)

alone_before : (b at : ℕ) (ts : List Placed) → BeginsFrom (at + 1 + 1) ts
    → with_byte b at ts ≡ single (Word (b ∷ [])) at ∷ ts
unfolding BeginsFrom
alone_before b at [] h = refl
alone_before b at (t ∷ ts) h = go (is_word t.token) (t.start == at + 1) (far t at h)
  where
    go : (v w : Bool) → w ≡ false → cond (v && w) (longer b at t ∷ ts) (single (Word (b ∷ [])) at ∷ t ∷ ts)
        ≡ single (Word (b ∷ [])) at ∷ t ∷ ts
    go true true e = absurd cc
    go true false e = refl
    go false w e = refl

last_byte : (b at : ℕ) (rest : List ℕ) → EndsWord rest
    → with_byte b at (tokens_from (at + 1) rest) ≡ single (Word (b ∷ [])) at ∷ tokens_from (at + 1) rest
unfolding EndsWord
last_byte b at [] h = refl
last_byte b at (c ∷ cs) h = elim (either (is_space c) (is_mark c) h) [
  | inl space ↦ rw space (alone_before b at _ (tokens_begin cs (at + 1 + 1)))
  | inr mark ↦ rw (mark.0, mark.1, mark_is_no_word c) refl
]

-- all bytes are those of a word
unfoldable pub AllWord : List ℕ → Type 0
AllWord [] = Unit {0}
AllWord (b ∷ bs) = (is_word_byte b ≡ true) × AllWord bs

pub word_first : (b at : ℕ) (w rest : List ℕ) → AllWord (b ∷ w) → EndsWord rest
    → tokens_from at (b ∷ (w ++ rest))
    ≡ record { token = Word (b ∷ w); start = at; end = at + 1 + length w } ∷ tokens_from (at + 1 + length w) rest
unfolding AllWord
word_first b at [] rest all ends =
    let no = neither (is_space b) (is_mark b) all.0 in
    let e : at + 1 + 0 ≡ at + 1 = omega arith in
    rw (no.0, no.1, e) (last_byte b at rest ends)
word_first b at (c ∷ w) rest all ends =
    let no = neither (is_space b) (is_mark b) all.0 in
    let same : (at + 1 == at + 1) ≡ true = eq-eqb (at + 1) (at + 1) refl in
    let e : at + 1 + length (c ∷ w) ≡ at + 1 + 1 + length w = omega arith in
    rw (no.0, no.1, word_first c (at + 1) w rest all.1 ends, same, e) refl

-- ---- marks and spaces are ASCII

pub space_is_ascii : (b : ℕ) → is_space b ≡ true → b < 128
space_is_ascii b h = grind (arith, nat_tests)

pub mark_is_ascii : (b : ℕ) → is_mark b ≡ true → b < 128
mark_is_ascii b h = grind (arith, nat_tests)

pub no_word_is_ascii : (b : ℕ) → is_word_byte b ≡ false → b < 128
no_word_is_ascii b h = elim (either (is_space b) (is_mark b) h) [
  | inl space ↦ space_is_ascii b space
  | inr mark ↦ mark_is_ascii b mark.1
]

-- ---- a word from one place up to another

all_word : (w : List ℕ) → ((i : ℕ) → i < length w → is_word_byte (get_or w i 0) ≡ true) → AllWord w
unfolding AllWord
all_word [] each = tt
all_word (b ∷ w) each = (each 0 (omega arith), all_word w (λ i below. each (suc i) (omega arith)))

ends_word : (text : List ℕ) (end : ℕ) → (end < length text → is_word_byte (get_or text end 0) ≡ false)
    → EndsWord (drop end text)
unfolding EndsWord
ends_word text end past = elim (cases_lt end (length text)) [
  | inl within ↦ rw (drop-cons text end 0) (past within)
  | inr beyond ↦ rw (drop_all end text beyond) tt
]

pub word_step : (text : List ℕ) (start end : ℕ) → start < end → end ≤ length text
    → ((i : ℕ) → start ≤ i → i < end → is_word_byte (get_or text i 0) ≡ true)
    → (end < length text → is_word_byte (get_or text end 0) ≡ false)
    → tokens_from start (drop start text)
    ≡ record { token = Word (slice_range text start end); start = start; end = end } ∷ tokens_from end (drop end text)
word_step text start end order within word past =
    let size : length (slice_range text start end) ≡ end - start = length-between text start end within in
    let each : (i : ℕ) → i < length (slice_range text start end)
    → is_word_byte (get_or (slice_range text start end) i 0) ≡ true =
    λ i below. ap is_word_byte (get_or-between text start end i 0 (omega arith))
    ∙ word (start + i) (omega arith) (omega arith) in
    ap (tokens_from start) (drop_split text start end (omega arith))
    ∙ go (slice_range text start end) size (all_word _ each)
  where
    go : (w : List ℕ) → length w ≡ end - start → AllWord w
        → tokens_from start (w ++ drop end text)
        ≡ record { token = Word w; start = start; end = end } ∷ tokens_from end (drop end text)
    go [] size all = absurd (omega arith)
    go (b ∷ w) size all =
        let is : end ≡ start + 1 + length w = omega arith in
        let P : ℕ → Type 0 = λ n. tokens_from start (b ∷ (w ++ drop end text))
        ≡ record { token = Word (b ∷ w); start = start; end = n } ∷ tokens_from n (drop end text) in
        subst P (sym is) (word_first b start w (drop end text) all (ends_word text end past))

-- what holds at a place, and after it up to another, holds from the place on
pub from_first : (text : List ℕ) (start end : ℕ) → is_word_byte (get_or text start 0) ≡ true
    → ((i : ℕ) → start + 1 ≤ i → i < end → is_word_byte (get_or text i 0) ≡ true)
    → (i : ℕ) → start ≤ i → i < end → is_word_byte (get_or text i 0) ≡ true
from_first text start end first others i above below = elim (eq-or-lt_of_le above) [
  | inl is ↦ subst (λ (n : ℕ). is_word_byte (get_or text n 0) ≡ true) is first
  | inr more ↦ others i (omega arith) below
]
