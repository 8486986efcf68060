-- Where faults lie: within the text, at characters, and in one place.
use Rattle.std.proofs.Common.{◌≡◌, refl, sym, ap, subst, ◌∙◌, ℕ, ◌+◌, ◌<◌, ◌==◌, ◌||◌, Bool, true, false}
use Rattle.std.proofs.Common.{true≢false, List, [], ◌∷◌, ◌++◌, Option, Some, codes, length, length-append, drop}
use Rattle.std.proofs.Common.{append_assoc, arith, inl, inr, lit≤, IsUtf8, IsTrue, eq-eqb, eqb-true, encode_utf8}
use Rattle.std.proofs.Common.{length-drop, zero, suc}
use Rattle.std.specs.Prelude.{if◌then◌else◌, slice_index}
use Rattle.std.specs.List.{list_all}
use Rattle.std.specs.Char.{len_utf8, is_ascii_digit}
use Rattle.std.specs.Str.{IsCharBoundary}
use Rattle.std.specs.declared.ops.Range.{Range}
use Rattle.std.proofs.Math.Seq.{drop-drop}
use Rattle.std.proofs.lemmas.Bool.{and_parts}
use Rattle.std.proofs.lemmas.Option.{same_Some}
use Rattle.std.proofs.lemmas.Str.{length-encode, len_utf8_bounds, IsUtf8-drop, IsCharBoundary-end}
use Rattle.std.proofs.lemmas.Str.{IsCharBoundary-from_drop, IsCharBoundary-past_char}
use Rattle.cargo_platform.specs.declared.tokens.TokenFaultKind.{TokenFaultKind}
use Rattle.cargo_platform.specs.declared.tokens.TokenFaultKind.TheVariants as lexical
use Rattle.cargo_platform.specs.declared.source.Look.{Look}
use Rattle.cargo_platform.specs.declared.source.Look.TheVariants.{End, Ascii, Wide}
use Rattle.cargo_platform.specs.Inside.Looking.{Shows}
use Rattle.cargo_platform.specs.Chars.{is_identifier_rest, is_space, is_known_start}
use Rattle.cargo_platform.specs.Tokens.{Lexeme, LeftParen, RightParen, Ident, Comma, Equals, String, Placed, written}
use Rattle.cargo_platform.specs.Tokens.{IsWellWritten}
use Rattle.cargo_platform.specs.Cut.{AreSpaces, BeginsFault, IsWrittenAt, Item, Token, Lexical, Nothing, Comes}
use Rattle.cargo_platform.specs.Cut.{ComesBehind}
use Rattle.cargo_platform.specs.Spelling.{Grammar}
use Rattle.cargo_platform.specs.Faults.{Fault, IsRefusedAt, span_of}
use Rattle.cargo_platform.specs.FaultLaws.{IsSpanIn}
use Rattle.cargo_platform.proofs.OneCut.{piece_rest, written_rest}
use Rattle.cargo_platform.proofs.SomeCut.{ascii_sides, rest_is_ascii}
use Rattle.cargo_platform.proofs.Looking.{char_here}
use Rattle.cargo_platform.proofs.OneFault.{one_place}

-- ---- the character that begins no token

-- where it is: at the place, or after the mark `r#` there
abbrev pub character_start : List ℕ → ℕ → ℕ
character_start text at = if slice_index text at == 0x72 then at + 2 else at

pub first_byte : (text rest : List ℕ) (at b : ℕ) → drop at text ≡ b ∷ rest → slice_index text at ≡ b
first_byte [] rest zero b h = absurd cc
first_byte (c ∷ text) rest zero b h = let same : c ≡ b = cc in same
first_byte [] rest (suc at) b h = absurd cc
first_byte (c ∷ text) rest (suc at) b h = first_byte text rest at b h

-- a place, and the character that is there
pub record Stands (text : List ℕ) (at c : ℕ) : Type 0 where
  pub rest : List ℕ
  pub parts : drop at text ≡ encode_utf8 c ++ rest
  pub utf8 : IsUtf8 (drop at text)

moved : (text : List ℕ) (c i j : ℕ) → i ≡ j → Stands text j c → Stands text i c
moved text c i j h s = subst (λ (z : ℕ). Stands text z c) (sym h) s

-- the span of an unexpected character begins where it is
pub character_stands : (text : List ℕ) (at c : ℕ) → IsUtf8 text → IsCharBoundary text at
    → BeginsFault (drop at text) (lexical.UnexpectedChar c) → Stands text (character_start text at) c
character_stands text at c utf8 boundary (inl f) =
    let first : slice_index text at ≡ 0x72 = first_byte text (0x23 ∷ f.0) at 0x72 f.2 in
    let test : (slice_index text at == 0x72) ≡ true = eq-eqb _ _ first in
    let whole : IsUtf8 (drop at text) = IsUtf8-drop text at utf8 boundary in
    let behind = (ascii_sides 0x23 (drop at text) (0x72 ∷ []) f.0 (lit≤ tt) whole f.2).1 in
    let there : drop (at + 2) text ≡ f.0 = ap (λ k. drop k text) (omega arith) ∙ sym (drop-drop 2 at text)
    ∙ ap (drop 2) f.2 in
    moved text c (character_start text at) (at + 2) (ap (λ b. if b then at + 2 else at) test) (record {
      rest = f.1;
      parts = there ∙ f.3.parts;
      utf8 = subst (λ (z : List ℕ). IsUtf8 z) (sym there) behind;
    })
character_stands text at c utf8 boundary (inr f) =
    let here = char_here text f.0 at c utf8 boundary f.1.parts in
    moved text c (character_start text at) at
    (elim (slice_index text at == 0x72) as
    (λ b. (slice_index text at == 0x72) ≡ b → (if b then at + 2 else at) ≡ at) [
      | false ↦ λ _. refl
      | true ↦ λ is.
          let byte : slice_index text at ≡ 0x72 = eqb-true _ _ is in
          let c_is : c ≡ 0x72 = here.byte (omega (arith, byte)) ∙ byte in
          absurd (true≢false (sym (ap is_known_start c_is) ∙ f.2))
    ] refl)
    (record { rest = f.0; parts = f.1.parts; utf8 = IsUtf8-drop text at utf8 boundary })

pub stands_within : (text : List ℕ) (at c : ℕ) → Stands text at c → at < length text
stands_within text at c s =
    omega (
      arith,
      ap length s.parts,
      length-drop at text,
      length-append (encode_utf8 c) s.rest,
      length-encode c,
      (len_utf8_bounds c).0,
    )

pub stands_end : (text : List ℕ) (at c : ℕ) → Stands text at c → IsCharBoundary text (at + len_utf8 c)
stands_end text at c s =
    IsCharBoundary-past_char text s.rest at c (omega (arith, stands_within text at c s)) s.utf8 s.parts

pub marked_start : (text : List ℕ) (at : ℕ) → slice_index text at ≡ 0x72 → character_start text at ≡ at + 2
marked_start text at h = ap (λ b. if b then at + 2 else at) (eq-eqb _ _ h)

-- the character after a mark ends at a character
pub marked_end : (text : List ℕ) (at c : ℕ) → IsUtf8 text → IsCharBoundary text at
    → BeginsFault (drop at text) (lexical.UnexpectedChar c) → slice_index text at ≡ 0x72
    → IsCharBoundary text (at + 2 + len_utf8 c)
marked_end text at c utf8 boundary begins mark =
    rw (marked_start text at mark) at
    (stands_end text (character_start text at) c (character_stands text at c utf8 boundary begins))

pub plain_start : (text : List ℕ) (at : ℕ) → (slice_index text at ≡ 0x72 → ⊥) → character_start text at ≡ at
plain_start text at h =
    elim (slice_index text at == 0x72) as (λ b. (slice_index text at == 0x72) ≡ b → (if b then at + 2 else at) ≡ at) [
      | false ↦ λ _. refl
      | true ↦ λ is. absurd (h (eqb-true _ _ is))
    ] refl

-- where a look found no `r`, there is none
pub no_mark : (text : List ℕ) (at : ℕ) (seen : Look) → at < length text → Shows text at seen
    → (seen ≡ Ascii 0x72 → ⊥) → slice_index text at ≡ 0x72 → ⊥
no_mark text at End within shows none h = absurd (omega (arith, shows, within))
no_mark text at (Ascii b) within shows none h = none (ap Ascii (shows.1.byte (omega (arith, h)) ∙ h))
no_mark text at (Wide c) within shows none h = absurd (omega (arith, shows.0, shows.1.byte (omega (arith, h)), h))

-- ---- after tokens and spaces is a text of characters

skip_by : (t : ℕ → Bool) (xs ys : List ℕ) → ((b : ℕ) → t b ≡ true → b < 128) → IsTrue (list_all t xs)
    → IsUtf8 (xs ++ ys) → IsUtf8 ys
skip_by t [] ys low h u = u
skip_by t (x ∷ xs) ys low h u =
    let parts = and_parts _ _ h in
    skip_by t xs ys low parts.1 (ascii_sides x (x ∷ (xs ++ ys)) [] (xs ++ ys) (low x parts.0) u refl).1

skip_name : (name rest : List ℕ) → IsWellWritten (Ident false name) → IsUtf8 (name ++ rest) → IsUtf8 rest
skip_name [] rest w u = u
skip_name (c ∷ cs) rest w u =
    let start : is_identifier_rest c ≡ true = ap (λ b. b || is_ascii_digit c) w.0 in
    skip_by is_identifier_rest cs rest rest_is_ascii w.1
    (ascii_sides c (c ∷ (cs ++ rest)) [] (cs ++ rest) (rest_is_ascii c start) u refl).1

skip_token : (t : Lexeme) (rest : List ℕ) → IsWellWritten t → IsUtf8 (written t ++ rest) → IsUtf8 rest
skip_token LeftParen rest w u = (ascii_sides 0x28 (0x28 ∷ rest) [] rest (lit≤ tt) u refl).1
skip_token RightParen rest w u = (ascii_sides 0x29 (0x29 ∷ rest) [] rest (lit≤ tt) u refl).1
skip_token Comma rest w u = (ascii_sides 0x2C (0x2C ∷ rest) [] rest (lit≤ tt) u refl).1
skip_token Equals rest w u = (ascii_sides 0x3D (0x3D ∷ rest) [] rest (lit≤ tt) u refl).1
skip_token (Ident false name) rest w u = skip_name name rest w u
skip_token (Ident true name) rest w u =
    let sides = ascii_sides 0x23 (codes "r#" ++ (name ++ rest)) (0x72 ∷ []) (name ++ rest) (lit≤ tt) u refl in
    skip_name name rest w sides.1
skip_token (String value) rest w u =
    (ascii_sides 0x22 (written (String value) ++ rest) (0x22 ∷ value) rest (lit≤ tt) u
    (ap (λ (z : List ℕ). 0x22 ∷ z) (append_assoc value (codes "\"") rest))).1

space_is_ascii : (b : ℕ) → is_space b ≡ true → b < 128
space_is_ascii b h = omega (arith, eqb-true b 0x20 h)

behind_spaces : (text : List ℕ) (from to : ℕ) → IsUtf8 (drop from text) → AreSpaces text from to
    → IsUtf8 (drop to text)
behind_spaces text from to u s =
    skip_by is_space s.0 (drop to text) space_is_ascii s.2
    (subst (λ (z : List ℕ). IsUtf8 z) (piece_rest text from to s.0 s.1) u)

behind_token : (text : List ℕ) (t : Placed) → IsUtf8 (drop t.start text) → IsWrittenAt text t
    → IsUtf8 (drop t.end text)
behind_token text t u w =
    skip_token t.token (drop t.end text) w.0 (subst (λ (z : List ℕ). IsUtf8 z) (written_rest text t w) u)

-- what comes after tokens comes from a place with a text of characters
behind : (text : List ℕ) (from to : ℕ) (ts : List Placed) (next : Item) → IsUtf8 (drop from text)
    → ComesBehind text from ts next to → (f : ℕ) × IsUtf8 (drop f text) × Comes text f next to
behind text from to [] next u h = (from, u, h)
behind text from to (t ∷ ts) next u h =
    behind text t.end to ts next (behind_token text t (behind_spaces text from t.start u h.0.0) h.0.1) h.1

-- ---- within the text

at_boundary : (text : List ℕ) (from at : ℕ) → IsUtf8 (drop from text) → AreSpaces text from at → IsCharBoundary text at
at_boundary text from at u s = IsCharBoundary-from_drop text at s.1.inside (behind_spaces text from at u s)

to_end : (text : List ℕ) (at : ℕ) → IsCharBoundary text at → IsSpanIn text (record { start = at; end = length text })
to_end text at b = (b.0, b, IsCharBoundary-end text)

lexical_in : (text : List ℕ) (at : ℕ) (k : TokenFaultKind) → IsUtf8 text → IsCharBoundary text at
    → BeginsFault (drop at text) k → IsSpanIn text (span_of text false (Lexical k at))
lexical_in text at lexical.UnterminatedString utf8 b f = to_end text at b
lexical_in text at lexical.MissingIdentifier utf8 b f = to_end text (length text) (IsCharBoundary-end text)
lexical_in text at (lexical.UnexpectedChar c) utf8 b f =
    let start = character_start text at in
    let s = character_stands text at c utf8 b f in (
      omega arith,
      IsCharBoundary-from_drop text start (omega (arith, stands_within text start c s)) s.utf8,
      stands_end text start c s,
    )

item_in : (text : List ℕ) (from to : ℕ) (accepted : Bool) (next : Item) → IsUtf8 text → IsUtf8 (drop from text)
    → Comes text from next to → IsSpanIn text (span_of text accepted next)
item_in text from to true (Token t) utf8 u h = to_end text t.start (at_boundary text from t.start u h.0)
item_in text from to true (Lexical k at) utf8 u h = to_end text at (at_boundary text from at u h.0)
item_in text from to true Nothing utf8 u h = to_end text (length text) (IsCharBoundary-end text)
item_in text from to false (Token t) utf8 u h = (
  h.1.1.ordered,
  at_boundary text from t.start u h.0,
  IsCharBoundary-from_drop text t.end h.1.1.inside (behind_token text t (behind_spaces text from t.start u h.0) h.1),
)
item_in text from to false (Lexical k at) utf8 u h = lexical_in text at k utf8 (at_boundary text from at u h.0) h.1
item_in text from to false Nothing utf8 u h = to_end text (length text) (IsCharBoundary-end text)

-- the span of a fault is within its text
pub placed_in : (g : Grammar) (text : List ℕ) (fault : Fault) (span : Range ℕ) → IsUtf8 text
    → IsRefusedAt g text fault (Some span) → IsSpanIn text span
placed_in g text fault span utf8 h =
    let r = h.0 in
    let b = behind text 0 r.place r.prefix r.next utf8 r.follows in
    subst (IsSpanIn text) (sym (same_Some _ _ h.1)) (item_in text b.0 r.place r.accepted r.next utf8 b.1 b.2)

-- ---- one place

-- a text has at most one fault, in one place
pub one_span : (g : Grammar) (text : List ℕ) (e f : Fault) (s t : Option (Range ℕ)) → IsRefusedAt g text e s
    → IsRefusedAt g text f t → s ≡ t
one_span g text e f s t p q =
    let same = one_place g text e f p.0 q.0 in
    p.1 ∙ (λ i. Some (span_of text (same.1 i) (same.2 i))) ∙ sym q.1
