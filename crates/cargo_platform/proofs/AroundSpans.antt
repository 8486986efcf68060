-- What is around the span of a fault.
use Rattle.std.proofs.Common.{◌≡◌, refl, sym, ap, subst, ◌∙◌, ℕ, zero, suc, ◌+◌, ◌-◌, ◌≤◌, ◌==◌, Bool, true, false, not}
use Rattle.std.proofs.Common.{◌&&◌, List, [], ◌∷◌, ◌++◌, codes, inl, inr, Option, Some, None, length, take, drop, arith}
use Rattle.std.proofs.Common.{true≢false, length-append, length-take, drop_of_length-le}
use Rattle.std.proofs.Math.Seq.{take-length}
use Rattle.std.proofs.lemmas.List.{take-take, drop-take}
use Rattle.std.proofs.lemmas.Str.{length-encode, len_utf8_bounds}
use Rattle.std.specs.Prelude.{if◌then◌else◌, slice_index, IsFalse, bytes_eq}
use Rattle.std.specs.Char.{encode_utf8}
use Rattle.std.specs.List.{AllByRecursion, last_or}
use Rattle.cargo_platform.specs.declared.tokens.TokenFaultKind.TheVariants as lexical
use Rattle.cargo_platform.specs.Chars.{is_known_start}
use Rattle.cargo_platform.specs.Tokens.{Lexeme, LeftParen, RightParen, Ident, Comma, Equals, String, Placed}
use Rattle.cargo_platform.specs.Cut.{IsCutFrom, IsPiece, AreSpaces, EndsBefore, BeginsFault}
use Rattle.cargo_platform.specs.Cut.{Item, Token, Lexical, Nothing, Comes, ComesBehind, lexemes}
use Rattle.cargo_platform.specs.Spelling.{Grammar}
use Rattle.cargo_platform.specs.Faults.{Fault, UnterminatedExpression, IsRefused, fault_of, span_of}
use Rattle.cargo_platform.specs.FaultLaws.{IsBehindPrefix, IsSurplusAt}
use Rattle.cargo_platform.specs.SpanLaws.{IsNothingOrMark, IsCutBefore}
use Rattle.cargo_platform.proofs.OneCut.{IsTail, char_is}
use Rattle.cargo_platform.proofs.Paths.{next_before, behind_is}
use Rattle.cargo_platform.proofs.SomeCut.{cut_ends, cut_cons}
use Rattle.cargo_platform.proofs.Spans.{character_start, first_byte, marked_start, plain_start}

-- ---- what is left

left_over : (g : Grammar) (text rest : List ℕ) (accepted : Bool) (last : Option Lexeme) (next : Item)
    → fault_of g text accepted last next ≡ Some (UnterminatedExpression rest)
    → (drop (span_of text accepted next).start text ≡ rest) × ((span_of text accepted next).end ≡ length text)
left_over g text rest true last (Token t) h = let same : drop t.start text ≡ rest = cc in (same, refl)
left_over g text rest true last (Lexical k at) h = let same : drop at text ≡ rest = cc in (same, refl)
left_over g text rest true last Nothing h = absurd cc
left_over g text rest false last (Token t) h = absurd cc
left_over g text rest false last (Lexical lexical.UnterminatedString at) h = absurd cc
left_over g text rest false last (Lexical (lexical.UnexpectedChar c) at) h = absurd cc
left_over g text rest false last (Lexical lexical.MissingIdentifier at) h = absurd cc
left_over g text rest false last Nothing h = absurd cc

pub surplus_at : (g : Grammar) (text rest : List ℕ) → IsSurplusAt g text rest
surplus_at g text rest = λ r. left_over g text rest r.accepted (last_or None (lexemes r.prefix)) r.next r.is_fault

-- ---- before the span

not_before : (text : List ℕ) (at : ℕ) → at ≤ character_start text at
not_before text at =
    elim (slice_index text at == 0x72) as (λ b. at ≤ (if b then at + 2 else at)) [
      | true ↦ omega arith
      | false ↦ omega arith
    ]

item_from : (text : List ℕ) (from to : ℕ) (accepted : Bool) (next : Item) → Comes text from next to
    → from ≤ (span_of text accepted next).start
item_from text from to true (Token t) h = h.0.1.ordered
item_from text from to false (Token t) h = h.0.1.ordered
item_from text from to true (Lexical k at) h = h.0.1.ordered
item_from text from to false (Lexical lexical.UnterminatedString at) h = h.0.1.ordered
item_from text from to false (Lexical (lexical.UnexpectedChar c) at) h =
    omega (arith, h.0.1.ordered, not_before text at)
item_from text from to false (Lexical lexical.MissingIdentifier at) h =
    omega (arith, h.0.1.ordered, h.0.1.inside)
item_from text from to true Nothing h = h.0.1.ordered
item_from text from to false Nothing h = h.0.1.ordered

tokens_before : (text : List ℕ) (from to : ℕ) (accepted : Bool) (ts : List Placed) (next : Item)
    → ComesBehind text from ts next to
    → (from ≤ (span_of text accepted next).start)
    × AllByRecursion (λ t. t.end ≤ (span_of text accepted next).start) ts
tokens_before text from to accepted [] next h = (item_from text from to accepted next h, tt)
tokens_before text from to accepted (t ∷ ts) next h =
    let more = tokens_before text t.end to accepted ts next h.1 in
    (omega (arith, h.0.0.1.ordered, h.0.1.1.ordered, more.0), (more.0, more.1))

token_start : (text : List ℕ) (accepted : Bool) (t : Placed) → (span_of text accepted (Token t)).start ≡ t.start
token_start text true t = refl
token_start text false t = refl

pub behind_prefix : (g : Grammar) (text : List ℕ) (fault : Fault) (r : IsRefused g text fault) → IsBehindPrefix r
behind_prefix g text fault r = (
  (tokens_before text 0 r.place r.accepted r.prefix r.next r.follows).1,
  λ t others is.
      let cut = subst (λ (z : List Placed). ComesBehind text 0 z r.cut.last r.tail) r.is_prefix.parts r.cut.comes in
      let next : r.next ≡ Token t = behind_is text 0 r.place r.tail r.prefix r.after r.cut.last r.next cut r.follows
      ∙ ap (next_before r.cut.last) is in
      ap (λ (i : Item). (span_of text r.accepted i).start) next ∙ token_start text r.accepted t,
)

-- ---- the cut of the text before the span

-- what a beginning of a text has after a place
rest_in_front : (text : List ℕ) (n i : ℕ) → i ≤ n → drop i (take n text) ≡ take (n - i) (drop i text)
rest_in_front text n i within =
    let whole : i + (n - i) ≡ n = omega (arith, within) in
    ap (λ k. drop i (take k text)) (sym whole) ∙ drop-take i (n - i) text

-- a piece of a text is one of the beginning in which it is
piece_in_front : (text : List ℕ) (n i j : ℕ) (p : List ℕ) → j ≤ n → IsPiece text i j p → IsPiece (take n text) i j p
piece_in_front text n i j p within h = record {
  ordered = h.ordered;
  inside = omega (arith, within, h.inside, length-take n text);
  bytes = ap (take (j - i)) (rest_in_front text n i (omega (arith, within, h.ordered)))
      ∙ take-take (j - i) (n - i) (drop i text) (omega (arith, within)) ∙ h.bytes;
}

spaces_in_front : (text : List ℕ) (n i j : ℕ) → j ≤ n → AreSpaces text i j → AreSpaces (take n text) i j
spaces_in_front text n i j within h = (h.0, piece_in_front text n i j h.0 within h.1, h.2)

-- a token that ends before a text ends before each beginning of it
ends_in_front : (t : Lexeme) (rest : List ℕ) (k : ℕ) → EndsBefore t rest → EndsBefore t (take k rest)
ends_in_front LeftParen rest k h = tt
ends_in_front RightParen rest k h = tt
ends_in_front Comma rest k h = tt
ends_in_front Equals rest k h = tt
ends_in_front (String value) rest k h = tt
ends_in_front (Ident raw name) [] zero h = h
ends_in_front (Ident raw name) [] (suc k) h = h
ends_in_front (Ident raw name) (b ∷ bs) zero h = (refl, nothing_follows raw (bytes_eq name (codes "r")))
  where
    nothing_follows : (a b : Bool) → IsFalse (not a && b && false)
    nothing_follows true b = refl
    nothing_follows false true = refl
    nothing_follows false false = refl
ends_in_front (Ident raw name) (b ∷ bs) (suc k) h = h

-- tokens that come one after another, and what is left after them, are the cut of a beginning of the text
cut_in_front : (text : List ℕ) (n from to tail : ℕ) (ts : List Placed) (next : Item) → tail ≤ n
    → IsTail (drop tail (take n text)) → ((f : ℕ) → Comes text f next to → AreSpaces text f tail)
    → AllByRecursion (λ t. t.end ≤ n) ts → ComesBehind text from ts next to → IsCutFrom (take n text) from ts tail
cut_in_front text n from to tail [] next within left spaces ends h =
    cut_ends (take n text) from tail (spaces_in_front text n from tail within (spaces from h)) left
cut_in_front text n from to tail (t ∷ ts) next within left spaces ends h =
    let start : t.start ≤ n = omega (arith, h.0.1.1.ordered, ends.0) in
    cut_cons (take n text) from tail t ts (spaces_in_front text n from t.start start h.0.0)
    (h.0.1.0, piece_in_front text n t.start t.end _ ends.0 h.0.1.1)
    (rw (rest_in_front text n t.end ends.0) (ends_in_front t.token (drop t.end text) (n - t.end) h.0.2))
    (cut_in_front text n t.end to tail ts next within left spaces ends.1 h.1)

-- the place of what comes next
abbrev place_of : List ℕ → Item → ℕ
place_of text (Token t) = t.start
place_of text (Lexical k at) = at
place_of text Nothing = length text

spaces_before : (text : List ℕ) (from to : ℕ) (next : Item) → Comes text from next to
    → AreSpaces text from (place_of text next)
spaces_before text from to (Token t) h = h.0
spaces_before text from to (Lexical k at) h = h.0
spaces_before text from to Nothing h = h.0

last_comes : (text : List ℕ) (from to : ℕ) (ts : List Placed) (next : Item) → ComesBehind text from ts next to
    → (f : ℕ) × Comes text f next to
last_comes text from to [] next h = (from, h)
last_comes text from to (t ∷ ts) next h = last_comes text t.end to ts next h.1

-- a character that begins no token is no mark
no_mark_here : (text rest piece : List ℕ) (at c : ℕ) → drop at text ≡ piece → piece ≡ encode_utf8 c ++ rest
    → is_known_start c ≡ false → character_start text at ≡ at
no_mark_here text rest [] at c is parts unknown =
    absurd (omega (
      arith,
      ap length parts,
      length-append (encode_utf8 c) rest,
      length-encode c,
      (len_utf8_bounds c).0,
    ))
no_mark_here text rest (b ∷ bs) at c is parts unknown = plain_start text at (λ mark.
    let byte : b ≡ 0x72 = sym (first_byte text bs at b is) ∙ mark in
    let same : c ≡ b = char_is (b ∷ bs) rest c b bs parts refl (omega (arith, byte)) in
    true≢false (sym (ap is_known_start (same ∙ byte)) ∙ unknown))

nothing_left : (text : List ℕ) (n : ℕ) → drop n (take n text) ≡ []
nothing_left text n = drop_of_length-le (take n text) (omega (arith, length-take n text))

-- what is left before the span
left_before : (text : List ℕ) (from to : ℕ) (accepted : Bool) (next : Item) → Comes text from next to
    → IsNothingOrMark (drop (place_of text next) (take (span_of text accepted next).start text)) accepted next
    (place_of text next)
left_before text from to true (Token t) h = inl (nothing_left text t.start)
left_before text from to false (Token t) h = inl (nothing_left text t.start)
left_before text from to true (Lexical k at) h = inl (nothing_left text at)
left_before text from to true Nothing h = inl (nothing_left text (length text))
left_before text from to false Nothing h = inl (nothing_left text (length text))
left_before text from to false (Lexical lexical.UnterminatedString at) h = inl (nothing_left text at)
left_before text from to false (Lexical lexical.MissingIdentifier at) h =
    inr (ap (drop at) (take-length text) ∙ h.1, refl, (lexical.MissingIdentifier, refl))
left_before text from to false (Lexical (lexical.UnexpectedChar c) at) h = by_character h.1
  where
    by_character : BeginsFault (drop at text) (lexical.UnexpectedChar c)
        → IsNothingOrMark (drop at (take (character_start text at) text)) false
        (Lexical (lexical.UnexpectedChar c) at) at
    by_character (inl f) =
        let start : character_start text at ≡ at + 2 =
        marked_start text at (first_byte text (0x23 ∷ f.0) at 0x72 f.2) in
        inr (
          ap (λ k. drop at (take k text)) start ∙ drop-take at 2 text ∙ ap (take 2) f.2,
          refl,
          (lexical.UnexpectedChar c, refl),
        )
    by_character (inr f) =
        let start : character_start text at ≡ at = no_mark_here text f.0 (drop at text) at c refl f.1.parts f.2 in
        inl (ap (λ k. drop at (take k text)) start ∙ nothing_left text at)

-- so it is a tail
left_is_tail : (left : List ℕ) (accepted : Bool) (next : Item) (place : ℕ) → IsNothingOrMark left accepted next place
    → IsTail left
left_is_tail left accepted next place (inl h) = inl h
left_is_tail left accepted next place (inr h) = inr (lexical.MissingIdentifier, h.0)

place_before : (text : List ℕ) (from to : ℕ) (accepted : Bool) (next : Item) → Comes text from next to
    → place_of text next ≤ (span_of text accepted next).start
place_before text from to true (Token t) h = omega arith
place_before text from to false (Token t) h = omega arith
place_before text from to true (Lexical k at) h = omega arith
place_before text from to true Nothing h = omega arith
place_before text from to false Nothing h = omega arith
place_before text from to false (Lexical lexical.UnterminatedString at) h = omega arith
place_before text from to false (Lexical (lexical.UnexpectedChar c) at) h = not_before text at
place_before text from to false (Lexical lexical.MissingIdentifier at) h = h.0.1.inside

pub cut_before : (g : Grammar) (text : List ℕ) (fault : Fault) (r : IsRefused g text fault) → IsCutBefore r
cut_before g text fault r =
    let last = last_comes text 0 r.place r.prefix r.next r.follows in
    let tail = place_of text r.next in
    let left = left_before text last.0 r.place r.accepted r.next last.1 in (
      tail,
      cut_in_front text (span_of text r.accepted r.next).start 0 r.place tail r.prefix r.next
          (place_before text last.0 r.place r.accepted r.next last.1) (left_is_tail _ r.accepted r.next tail left)
          (λ f c. spaces_before text f r.place r.next c)
          (tokens_before text 0 r.place r.accepted r.prefix r.next r.follows).1 r.follows,
      left,
    )
