-- The character at a place, from what the text has there.
use Rattle.std.proofs.Common.{◌≡◌, ℕ, zero, suc, ◌+◌, ◌-◌, ◌<◌, ◌≤◌, List, [], ◌∷◌, ◌++◌, length, get_or, drop, refl}
use Rattle.std.proofs.Common.{sym, ap, subst, ◌∙◌, arith, add-zero, add-one, true, false, ◌&&◌, Bool, ltb}
use Rattle.std.proofs.Common.{◌⊎◌, inl, inr, ◌*◌, ◌^◌, ◌≢◌, true≢false, take}
use Rattle.std.proofs.lemmas.List.{get_or-drop, length-append, length-drop}
use Rattle.std.proofs.Math.Seq.{drop-cons}
use Rattle.std.specs.Char.{len_utf8}
use Rattle.std.specs.Str.{IsCharBoundary, IsUtf8, chars}
use Rattle.std.specs.Prelude.{encode_utf8}
use Rattle.std.proofs.lemmas.Str.{IsUtf8-drop, IsCharBoundary-past_char, drop_past_char, len_utf8_ascii, byte_from_char}
use Rattle.std.proofs.lemmas.Str.{char_from_byte, chars_past_char, scalars-chars, length-encode, len_utf8_bounds}
use Rattle.std.proofs.lemmas.Str.{encode_ascii, inside_one, IsCharBoundary-end, IsCharBoundary-before_ascii}
use Rattle.std.specs.Str.{encode_utf8_all}
use Rattle.std.proofs.lemmas.Simd.{chunk-drop}
use Rattle.std.proofs.lemmas.Bool.{ltb-true, ltb-false}
use lib.Utf8.{scalar, scalars}
use Rattle.std.proofs.lemmas.Str.{chars-nil, length-le-encodes, encodes-chars, chars-append, IsUtf8-between}
use Rattle.cargo_platform.specs.Inside.Looking.{IsCharAt, AreBetween, Compares, is_no_quote}
use Rattle.cargo_platform.specs.Reading.{characters_from}

both_left : (a b : Bool) → (a && b) ≡ true → a ≡ true
both_left a b h = grind arith

both_right : (a b : Bool) → (a && b) ≡ true → b ≡ true
both_right a b h = grind arith

first_scalar : (c : ℕ) (cs bs : List ℕ) → bs ≡ c ∷ cs → scalars bs ≡ true → scalar c ≡ true
first_scalar c cs bs e h = both_left (scalar c) (scalars cs) (ap scalars (sym e) ∙ h)

pub char_here : (text rest : List ℕ) (at c : ℕ) → IsUtf8 text → IsCharBoundary text at
    → drop at text ≡ encode_utf8 c ++ rest → IsCharAt text at c
char_here text rest at c utf8 boundary is =
    let there : IsUtf8 (drop at text) = IsUtf8-drop text at utf8 boundary in
    let after : drop (at + len_utf8 c) text ≡ rest = drop_past_char text rest at c is in
    let cs : chars (drop at text) ≡ c ∷ chars rest = chars_past_char (drop at text) rest c there is in
    let some : 0 < length (drop at text) = omega
    (arith, ap length is, length-append (encode_utf8 c) rest, length-encode c, (len_utf8_bounds c).0) in
    let first : get_or (drop at text) 0 0 ≡ get_or text at 0 = get_or-drop at text 0 0
    ∙ ap (λ i. get_or text i 0) (add-zero at) in
    record {
      scalar = first_scalar c _ _ cs (scalars-chars _ there);
      within = omega (arith, length-drop at text);
      boundary = IsCharBoundary-past_char text rest at c boundary.0 there is;
      byte = λ small. char_from_byte (drop at text) rest c is (rw first small) some ∙ first;
      inside = λ i from below small.
          let k : at + (i - at) ≡ i = omega arith in
          let read : get_or (drop at text) (i - at) 0 ≡ get_or text i 0 = get_or-drop at text (i - at) 0
          ∙ ap (λ j. get_or text j 0) k in
          inside_one c rest (drop at text) (i - at) is (omega (arith, length-encode c)) (rw read small) ∙ read;
      ascii = λ small. sym first ∙ byte_from_char (drop at text) rest c is small;
      bytes = is ∙ ap (λ r. encode_utf8 c ++ r) (sym after);
      chars = cs ∙ ap (λ r. c ∷ chars r) (sym after);
      fits = (IsCharBoundary-past_char text rest at c boundary.0 there is).0;
      fewer = ap length (cs ∙ ap (λ r. c ∷ chars r) (sym after)) ∙ sym (add-one _);
    }

pub ascii_here : (text : List ℕ) (at : ℕ) → IsUtf8 text → at < length text → get_or text at 0 < 128
    → IsCharBoundary text at → IsCharAt text at (get_or text at 0)
ascii_here text at utf8 within small boundary =
    char_here text (drop (at + 1) text) at (get_or text at 0) utf8 boundary
    (rw (encode_ascii _ small) (rw (add-one, drop-cons text at 0) refl))

-- a step over a byte below 128
pub ascii_step : (text : List ℕ) (at : ℕ) → IsUtf8 text → at < length text → get_or text at 0 < 128 →
    IsCharBoundary text at → IsCharBoundary text (at + 1) ×
    (characters_from text at ≡ characters_from text (at + 1) + 1)
ascii_step text at utf8 within small boundary =
    let here = ascii_here text at utf8 within small boundary in
    let one : at + len_utf8 (get_or text at 0) ≡ at + 1 = ap (λ n. at + n) (len_utf8_ascii _ small) in
    let B : ℕ → Type 0 = IsCharBoundary text in
    (subst B one here.boundary, here.fewer ∙ ap (λ n. characters_from text n + 1) one)

pub ascii_steps : (text : List ℕ) (at n : ℕ) → IsUtf8 text → at + n ≤ length text
    → ((i : ℕ) → at ≤ i → i < at + n → get_or text i 0 < 128) → IsCharBoundary text at →
    IsCharBoundary text (at + n) × (characters_from text at ≡ characters_from text (at + n) + n)
ascii_steps text at zero utf8 within small boundary =
    let none : at ≡ at + 0 = sym (add-zero at) in
    (subst (IsCharBoundary text) none boundary, omega (arith, ap (λ n. characters_from text n) none))
ascii_steps text at (suc n) utf8 within small boundary =
    let step = ascii_step text at utf8 (omega arith) (small at (omega arith) (omega arith)) boundary in
    let steps = ascii_steps text (at + 1) n utf8 (omega arith)
    (λ i from below. small i (omega arith) (omega arith)) step.0 in
    let there : at + 1 + n ≡ at + suc n = omega arith in (
      subst (IsCharBoundary text) there steps.0,
      omega (arith, step.1, steps.1, ap (λ n. characters_from text n) there),
    )

-- there is no character at the end
pub characters_end : (text : List ℕ) (at : ℕ) → at ≡ length text → characters_from text at ≡ 0
characters_end text at is =
    ap (λ l. length (chars l)) (no_more (drop at text) (omega (arith, length-drop at text))) ∙ ap length chars-nil
  where
    no_more : (l : List ℕ) → length l ≡ 0 → l ≡ []
    no_more [] h = refl
    no_more (x ∷ xs) h = absurd (omega arith)

-- a text has no more characters than bytes
pub chars_fit : (bs : List ℕ) → IsUtf8 bs → length (chars bs) ≤ length bs
chars_fit bs utf8 = omega (arith, length-le-encodes (chars bs), ap length (encodes-chars bs utf8))

-- no character has more than four bytes
encodes_fit : (cs : List ℕ) → length (encode_utf8_all cs) ≤ 4 * length cs
encodes_fit [] = omega arith
encodes_fit (c ∷ cs) = omega (
  arith,
  length-append (encode_utf8 c) (encode_utf8_all cs),
  length-encode c,
  (len_utf8_bounds c).1,
  encodes_fit cs,
)

-- how many characters are between two places
pub characters_between : (text : List ℕ) (from to : ℕ) → IsUtf8 text → from ≤ to → IsCharBoundary text from
    → IsCharBoundary text to → AreBetween text from to
characters_between text from to utf8 ordered begin end =
    let piece : List ℕ = take (to - from) (drop from text) in
    let behind : drop from text ≡ piece ++ drop to text =
    chunk-drop from (to - from) text ∙ ap (λ n. piece ++ drop n text) (omega arith) in
    let is : IsUtf8 piece = IsUtf8-between text from to utf8 ordered begin end in
    let long : length piece ≡ to - from =
    omega (
      arith,
      ap length behind,
      length-append piece (drop to text),
      length-drop from text,
      length-drop to text,
      begin.0,
      end.0,
    ) in
    record {
      characters = length (chars piece);
      all =
          ap (λ l. length (chars l)) behind ∙ ap length (chars-append piece (drop to text) is)
          ∙ length-append (chars piece) (chars (drop to text));
      few = omega (arith, chars_fit piece is, long);
      many = omega (arith, encodes_fit (chars piece), ap length (encodes-chars piece is), long);
    }

-- what a scan compares is more than what it goes over, and no more than sixteen bytes more
pub compares_few : (left run count : ℕ) → Compares left run count → (run + 1 ≤ count) × (count ≤ run + 16)
compares_few left run count c = go c.all
  where
    go : ((run < 16 * c.blocks + 16) × (16 * c.blocks + 16 ≤ left) × (count ≡ 16 * c.blocks + 16)
        ⊎ (left < 16 * c.blocks + 16) × (count ≡ run + 1)) → (run + 1 ≤ count) × (count ≤ run + 16)
    go (inl b) = (omega (arith, b.0, b.2), omega (arith, c.passed, b.2))
    go (inr o) = (omega (arith, o.1), omega (arith, o.1))

-- to the end of the text it compares each byte once, and the end
pub compares_all : (left count : ℕ) → Compares left left count → count ≡ left + 1
compares_all left count c = go c.all
  where
    go : ((left < 16 * c.blocks + 16) × (16 * c.blocks + 16 ≤ left) × (count ≡ 16 * c.blocks + 16)
        ⊎ (left < 16 * c.blocks + 16) × (count ≡ left + 1)) → count ≡ left + 1
    go (inl b) = absurd (omega (arith, b.0, b.1))
    go (inr o) = o.1

-- a byte of a value is no quote
pub passes_quote : (b : ℕ) → is_no_quote b ≡ true → b ≢ 0x22
passes_quote b h e = true≢false (sym h ∙ ap is_no_quote e)

-- a number of looks that is the greatest count, or has as many as are asked for
pub looks_are_many : (new need : ℕ) → need < 2 ^ 64 → (new < 2 ^ 64 - 1 → need ≤ new) → need ≤ new
looks_are_many new need fits below = go (ltb new (2 ^ 64 - 1)) refl
  where
    go : (t : Bool) → ltb new (2 ^ 64 - 1) ≡ t → need ≤ new
    go true e = below (ltb-true new (2 ^ 64 - 1) e)
    go false e = omega (arith, ltb-false new (2 ^ 64 - 1) e, fits)

-- what holds at the first place and at each further one holds at each
pub first_and_others : (P : ℕ → Type 0) (from end : ℕ) → P from → ((i : ℕ) → from + 1 ≤ i → i < end → P i) →
    (i : ℕ) → from ≤ i → i < end → P i
first_and_others P from end first others i above below = go (ltb from i) refl
  where
    go : (t : Bool) → ltb from i ≡ t → P i
    go true e = others i (omega (arith, ltb-true from i e)) below
    go false e = let is : from ≡ i = omega (arith, ltb-false from i e) in subst P is first

-- what holds from one place to another, and from there on, holds from the one on
pub one_after_other : (P : ℕ → Type 0) (from mid to : ℕ) → ((i : ℕ) → from ≤ i → i < mid → P i) →
    ((i : ℕ) → mid ≤ i → i < to → P i) → (i : ℕ) → from ≤ i → i < to → P i
one_after_other P from mid to first others i above below = go (ltb i mid) refl
  where
    go : (t : Bool) → ltb i mid ≡ t → P i
    go true e = first i above (ltb-true i mid e)
    go false e = others i (ltb-false i mid e) below

-- a place is a boundary where a quote is, and at the end
pub boundary_at_quote : (text : List ℕ) (at : ℕ) → IsUtf8 text → at ≤ length text
    → (at < length text → get_or text at 0 ≡ 0x22) → IsCharBoundary text at
boundary_at_quote text at utf8 within quote = go (ltb at (length text)) refl
  where
    go : (t : Bool) → ltb at (length text) ≡ t → IsCharBoundary text at
    go true e =
        let below : at < length text = ltb-true at (length text) e in
        IsCharBoundary-before_ascii text at below (omega (arith, quote below))
    go false e =
        let end : length text ≡ at = omega (arith, within, ltb-false at (length text) e) in
        subst (IsCharBoundary text) end (IsCharBoundary-end text)
