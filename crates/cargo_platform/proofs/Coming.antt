-- What comes at a place is what its bytes tell.
use Rattle.std.proofs.Common.{◌≡◌, ◌≢◌, refl, sym, ap, ◌∙◌, ℕ, ◌+◌, ◌-◌, ◌*◌, ◌^◌, ◌<◌, ◌≤◌, true, false}
use Rattle.std.proofs.Common.{List, [], ◌∷◌}
use Rattle.std.proofs.Common.{◌++◌, codes, inl, inr, true≢false, arith, length, drop, None}
use Rattle.std.proofs.Common.{Some, Option}
use Rattle.std.proofs.Common.{lit≤, drop_of_length-le, length-drop}
use Rattle.std.specs.Prelude.{IsUtf8, slice_index, slice_range}
use Rattle.std.specs.Str.{IsCharBoundary}
use Rattle.std.proofs.lemmas.Str.{IsUtf8-drop}
use Rattle.std.proofs.lemmas.Bool.{ne_eqb}
use Rattle.cargo_platform.specs.declared.source.Look.{Look}
use Rattle.cargo_platform.specs.declared.source.Look.TheVariants.{End, Ascii, Wide}
use Rattle.cargo_platform.specs.declared.tokens.TokenFaultKind.{TokenFaultKind}
use Rattle.cargo_platform.specs.Chars.{is_identifier_start, is_space}
use Rattle.cargo_platform.specs.Chars.{starts}
use Rattle.cargo_platform.specs.Tokens.{Lexeme, LeftParen, RightParen, Ident, Comma, Equals, String, written}
use Rattle.cargo_platform.specs.Tokens.{IsWellWritten, Placed}
use Rattle.cargo_platform.specs.Cut.{IsPiece, AreSpaces, BeginsFault}
use Rattle.cargo_platform.specs.Reading.{characters_from}
use Rattle.cargo_platform.specs.Cut.{Item, Token, Lexical, Nothing, is_token}
use Rattle.cargo_platform.specs.Faults.{from_to, span_of}
use Rattle.cargo_platform.specs.Inside.Ahead.{Ahead, NextIs, GoesPast}
use Rattle.cargo_platform.specs.Inside.Looking.{IsCharAt, Shows, Costs, character_of, IsReadingAt}
use Rattle.cargo_platform.specs.Inside.Looking.{FindsFault}
use Rattle.cargo_platform.specs.Inside.Scanning.{IsTokenAt}
use Rattle.cargo_platform.specs.Inside.Parsing.{TakesToken, Lacks, lexeme_of, IsIdentifier, IsSurplus}
use Rattle.cargo_platform.specs.declared.reader.Punctuation.{Punctuation}
use Rattle.cargo_platform.specs.declared.reader.Punctuation.TheVariants as punctuation
use Rattle.cargo_platform.proofs.OneCut.{same_start, starts_clear, one_comes}
use Rattle.cargo_platform.proofs.OneCut.{written_rest, token_begins, char_is, head_of}
use Rattle.cargo_platform.proofs.SomeCut.{Outcome, lex, piece_at, rest_at}
use Rattle.cargo_platform.proofs.LexicalFaults.{no_fault}
use Rattle.cargo_platform.proofs.Scanning.{starts_at, no_spaces, first_between}
use Rattle.std.proofs.lemmas.List.Edits.{between_none}
use Rattle.cargo_platform.proofs.Looking.{characters_end, looks_are_many}

-- ---- what comes at a place

-- a text from a place on
abbrev pub ahead_at : List ℕ → ℕ → Ahead
ahead_at text at = record { text = text; place = at }

no_space : (text : List ℕ) (at : ℕ) → slice_index text at ≢ 0x20 → starts is_space (drop at text) ≡ false
no_space text at past = starts_at is_space text at (ne_eqb (slice_index text at) 0x20 past)

-- a token is taken, and the spaces after it
pub takes : (text : List ℕ) (at end to : ℕ) (t : Lexeme) → at ≤ length text → IsTokenAt text t at end
    → AreSpaces text end to → TakesToken (ahead_at text at) (ahead_at text to) t
takes text at end to t within stands spaces = (
  record { token = t; start = at; end = end },
  refl,
  record {
    same_text = refl;
    comes = (no_spaces text at within, stands.written, stands.whole, refl);
    spaces = spaces;
  },
)

-- the same, with where the token ends
pub goes_past : (text : List ℕ) (at end to : ℕ) (t : Lexeme) → at ≤ length text → IsTokenAt text t at end
    → AreSpaces text end to
    → GoesPast (ahead_at text at) (ahead_at text to) (record { token = t; start = at; end = end })
goes_past text at end to t within stands spaces = record {
  same_text = refl;
  comes = (no_spaces text at within, stands.written, stands.whole, refl);
  spaces = spaces;
}

pub fault_ahead : (text : List ℕ) (at : ℕ) (k : TokenFaultKind) → at ≤ length text → BeginsFault (drop at text) k
    → NextIs (ahead_at text at) (Lexical k at)
fault_ahead text at k within f = record { to = at; comes = (no_spaces text at within, f, refl) }

pub end_ahead : (text : List ℕ) (at : ℕ) → at ≡ length text → NextIs (ahead_at text at) Nothing
end_ahead text at is =
    record { to = length text; comes = (rw (← is) (no_spaces text at (omega (arith, is))), refl) }

-- what is left from a place on that is not the end
pub rest_ahead : (text : List ℕ) (at : ℕ) → IsUtf8 text → IsCharBoundary text at → slice_index text at ≢ 0x20
    → at < length text → (next : Item) × NextIs (ahead_at text at) next
    × IsSurplus text next (drop at text) (from_to at (length text))
rest_ahead text at u b past within = go (lex (drop at text) (IsUtf8-drop text at u b) (no_space text at past))
  where
    go : Outcome (drop at text) → (next : Item) × NextIs (ahead_at text at) next
        × IsSurplus text next (drop at text) (from_to at (length text))
    go (inl (inl e)) = absurd (omega (arith, ap length e, length-drop at text, within))
    go (inl (inr f)) = (Lexical f.0 at, fault_ahead text at f.0 b.0 f.1, λ g last. refl)
    go (inr x) =
        let t : Placed = record { token = x.token; start = at; end = at + length (written x.token) } in
        let behind = rest_at text at (written x.token) x.rest x.parts in
        let piece = piece_at text at (written x.token) x.rest b.0 x.parts in (
          Token t,
          record { to = t.end; comes = (no_spaces text at b.0, (x.well, piece), rw behind x.ends, refl) },
          λ g last. refl,
        )

-- at the end each character was looked at, and the end
pub whole_read : (text : List ℕ) (at : ℕ) (seen : Look) (fault : Option TokenFaultKind) (looks long : ℕ)
    → IsReadingAt text at seen fault looks long → NextIs (ahead_at text at) Nothing
    → characters_from text 0 + 1 ≤ looks
whole_read text at seen fault looks long r none = go fault r
  where
    at_end : at ≡ length text
    at_end = same_start text at at (length text) (no_spaces text at r.reached.0) none.comes.0 (no_space text at r.past)
        (ap (starts is_space) (drop_of_length-le text (omega arith)))

    go : (fault : Option TokenFaultKind) → IsReadingAt text at seen fault looks long
        → characters_from text 0 + 1 ≤ looks
    go None r = omega (arith, r.whole refl, characters_end text at at_end)
    go (Some k) r =
        let over : drop at text ≡ [] = drop_of_length-le text (omega (arith, at_end)) in
        absurd (no_fault k (rw (← over) r.found))

-- ---- what is not ahead

-- what a look finds at an ASCII byte
byte_seen : (text : List ℕ) (at : ℕ) (seen : Look) (b : ℕ) (bs : List ℕ) → Shows text at seen → drop at text ≡ b ∷ bs
    → b < 128 → seen ≡ Ascii b
byte_seen text at End b bs h e lt =
    absurd (let none : [] ≡ b ∷ bs = sym (drop_of_length-le text (omega (arith, h))) ∙ e in cc)
byte_seen text at (Ascii x) b bs h e lt = ap Ascii (char_is (drop at text) _ x b bs h.1.bytes e lt)
byte_seen text at (Wide c) b bs h e lt =
    absurd (omega (arith, char_is (drop at text) _ c b bs h.1.bytes e lt, h.0, lt))

-- the next token is written at the place
pub record IsHere (text : List ℕ) (at : ℕ) (t : Lexeme) : Type 0 where
  pub rest : List ℕ
  pub parts : drop at text ≡ written t ++ rest
  pub well : IsWellWritten t

pub token_here : (text : List ℕ) (at : ℕ) (t : Placed) → slice_index text at ≢ 0x20
    → NextIs (ahead_at text at) (Token t) → IsHere text at t.token
token_here text at t past h =
    let c = h.comes in
    let within : at ≤ length text = omega (arith, c.0.1.ordered, c.0.1.inside) in
    let same : at ≡ t.start = same_start text at at t.start (no_spaces text at within) c.0 (no_space text at past)
    (starts_clear text t c.1) in
    record {
      rest = drop t.end text;
      parts = ap (λ (z : ℕ). drop z text) same ∙ written_rest text t c.1;
      well = c.1.0;
    }

-- Where no look shows the first byte of a token that is so, none is next.
pub lacks : (P : Lexeme → Type 0) (text : List ℕ) (at : ℕ) (seen : Look) → slice_index text at ≢ 0x20
    → Shows text at seen
    → ((t : Lexeme) (b : ℕ) (bs r : List ℕ) → P t → IsWellWritten t → written t ++ r ≡ b ∷ bs → seen ≡ Ascii b → ⊥)
    → Lacks P (ahead_at text at)
lacks P text at seen past shows unseen = λ t is p.
    let here = token_here text at t past is in
    let begins = token_begins t.token here.rest here.well in
    unseen t.token begins.byte begins.others here.rest p here.well begins.parts
    (byte_seen text at seen begins.byte begins.others shows (here.parts ∙ begins.parts) begins.ascii)

name_begins : (t : Lexeme) (r bs : List ℕ) (b : ℕ) → IsWellWritten t → written t ++ r ≡ b ∷ bs → IsIdentifier t
    → is_identifier_start b ≡ true
name_begins t r bs b w e (true, name, is) =
    ap is_identifier_start (sym (head_of (sym (ap (λ (z : Lexeme). written z ++ r) is) ∙ e)))
name_begins t r bs b w e (false, name, is) = go name is
  where
    go : (name : List ℕ) → t ≡ Ident false name → is_identifier_start b ≡ true
    go [] is = absurd (rw is at w)
    go (c ∷ cs) is =
        let h : c ≡ b = head_of (sym (ap (λ (z : Lexeme). written z ++ r) is) ∙ e) in
        sym (ap is_identifier_start h) ∙ (rw is at w).0

-- where no identifier may begin none is next
pub lacks_name : (text : List ℕ) (at : ℕ) (seen : Look) → slice_index text at ≢ 0x20 → Shows text at seen
    → ((b : ℕ) → seen ≡ Ascii b → is_identifier_start b ≡ true → ⊥) → Lacks IsIdentifier (ahead_at text at)
lacks_name text at seen past shows unseen =
    lacks IsIdentifier text at seen past shows (λ t c bs r p w e s. unseen c s (name_begins t r bs c w e p))

-- a token that begins as an identifier is one
pub name_ahead : (text : List ℕ) (at : ℕ) (seen : Look) (c : ℕ) → slice_index text at ≢ 0x20 → Shows text at seen
    → seen ≡ Ascii c → is_identifier_start c ≡ true → (t : Placed) → NextIs (ahead_at text at) (Token t)
    → IsIdentifier t.token
name_ahead text at seen c past shows is start t h =
    let here = token_here text at t past h in go t.token here.rest here.well here.parts
  where
    first_is : (d : ℕ) (ds : List ℕ) → drop at text ≡ d ∷ ds → d < 128 → c ≡ d
    first_is d ds e lt = let same : Ascii c ≡ Ascii d = sym is ∙ byte_seen text at seen d ds shows e lt in cc

    other : (d : ℕ) (ds : List ℕ) → drop at text ≡ d ∷ ds → d < 128 → is_identifier_start d ≡ false → ⊥
    other d ds e lt f = true≢false (sym start ∙ ap is_identifier_start (first_is d ds e lt) ∙ f)

    go : (t : Lexeme) (r : List ℕ) → IsWellWritten t → drop at text ≡ written t ++ r → IsIdentifier t
    go LeftParen r w e = absurd (other 0x28 r e (lit≤ tt) refl)
    go RightParen r w e = absurd (other 0x29 r e (lit≤ tt) refl)
    go Comma r w e = absurd (other 0x2C r e (lit≤ tt) refl)
    go Equals r w e = absurd (other 0x3D r e (lit≤ tt) refl)
    go (String v) r w e = absurd (other 0x22 ((v ++ codes "\"") ++ r) e (lit≤ tt) refl)
    go (Ident raw name) r w e = (raw, name, refl)

-- where something else comes no token does
pub no_token : (l : Ahead) (i : Item) (t : Placed) → is_token i ≡ false → NextIs l i → NextIs l (Token t) → ⊥
no_token l i t none h n =
    true≢false (ap is_token (one_comes l.text l.place n.to h.to (Token t) i n.comes h.comes).0 ∙ none)

-- where a fault is found no token is next
pub fault_lacks : (P : Lexeme → Type 0) (text : List ℕ) (at : ℕ) (k : TokenFaultKind) → at ≤ length text
    → BeginsFault (drop at text) k → Lacks P (ahead_at text at)
fault_lacks P text at k within f = λ t h p.
    no_token (ahead_at text at) (Lexical k at) t refl (fault_ahead text at k within f) h

-- ---- steps of a reader

-- where a token is, no fault was found
pub token_no_fault : (text : List ℕ) (at end : ℕ) (t : Lexeme) (seen : Look) (fault : Option TokenFaultKind)
    (looks long : ℕ) → IsReadingAt text at seen fault looks long → IsTokenAt text t at end → fault ≡ None
token_no_fault text at end t seen None looks long r stands = refl
token_no_fault text at end t seen (Some k) looks long r stands =
    let placed : Placed = record { token = t; start = at; end = end } in
    absurd (no_token (ahead_at text at) (Lexical k at) placed refl (fault_ahead text at k r.reached.0 r.found)
    (record { to = end; comes = (no_spaces text at r.reached.0, stands.written, stands.whole, refl) }))

-- looks from one place to another, and from there on
pub costs_then : (text : List ℕ) (from mid to over beside further more old between new : ℕ)
    → Costs text from mid over beside old between → Costs text mid to further more between new
    → Costs text from to (over + further) (beside + more) old new
costs_then text from mid to over beside further more old between new a b = record {
  forward = omega (arith, a.forward, b.forward);
  grows = omega (arith, a.grows, b.grows);
  at_most = omega (arith, a.at_most, b.at_most);
  at_least = λ small.
      let still : between < 2 ^ 64 - 1 = omega (arith, small, b.grows) in
      omega (arith, a.at_least still, b.at_least small);
}

-- the reader goes on after a token and the spaces after it
pub reads_on : (text : List ℕ) (at from end to over : ℕ) (seen next : Look) (fault : Option TokenFaultKind)
    (looks mid new long : ℕ) → IsReadingAt text at seen fault looks long → fault ≡ None
    → characters_from text at ≡ characters_from text from + 1 → over ≤ 9 → Costs text from end over 1 looks mid
    → Costs text end to 0 0 mid new → IsCharBoundary text to → Shows text to next → slice_index text to ≢ 0x20
    → IsReadingAt text to next fault new long
reads_on text at from end to over seen next fault looks mid new long r none one few a b boundary sees past =
    let before = r.whole none in
    let most : new + 9 * characters_from text to ≤ 9 * characters_from text 0 + 1 =
    omega (arith, a.at_most, b.at_most, one, few, r.at_most none) in
    let need = characters_from text 0 + 1 - characters_from text to in
    let many : need ≤ new = looks_are_many new need (omega (arith, r.short)) (λ small.
    let still : mid < 2 ^ 64 - 1 = omega (arith, small, b.grows) in
    omega (arith, a.at_least still, b.at_least small, one, before)) in
    record {
      utf8 = r.utf8;
      short = r.short;
      measured = r.measured;
      reached = boundary;
      sees = sees;
      past = past;
      found = rw none tt;
      whole = λ _. omega (arith, many);
      at_least = omega (arith, many);
      seen_fault = rw none tt;
      at_most = λ _. most;
      at_most_ever = omega (arith, most);
    }

-- a fault is found
pub finds : (text : List ℕ) (at : ℕ) (seen : Look) (fault : Option TokenFaultKind) (k : TokenFaultKind)
    (looks new long : ℕ) → IsReadingAt text at seen fault looks long → fault ≡ None → BeginsFault (drop at text) k
    → new ≤ looks + 9 * characters_from text at → FindsFault text at k 1 looks new
    → IsReadingAt text at seen (Some k) new long
finds text at seen fault k looks new long r none begins few found =
    let end = (span_of text false (Lexical k at)).end in
    let need = characters_from text 0 - characters_from text end in
    let many : need ≤ new = looks_are_many new need (omega (arith, r.short)) (λ small.
    omega (arith, found.at_least small, r.whole none)) in
    record {
      utf8 = r.utf8;
      short = r.short;
      measured = r.measured;
      reached = r.reached;
      sees = r.sees;
      past = r.past;
      found = begins;
      whole = λ h. absurd cc;
      at_least = omega (arith, found.grows, r.whole none);
      seen_fault = omega (arith, many);
      at_most = λ h. absurd cc;
      at_most_ever = omega (arith, few, r.at_most none);
    }

-- a mark is where its byte is
pub punctuation_stands : (text : List ℕ) (at b : ℕ) (m : Punctuation) → written (lexeme_of m) ≡ b ∷ []
    → IsCharAt text at b → b < 128
    → IsTokenAt text (lexeme_of m) at (at + 1)
punctuation_stands text at b m is here lt = go m is
  where
    bytes : slice_range text at (at + 1) ≡ b ∷ []
    bytes =
        first_between text at (at + 1) (omega arith) here.within
        ∙ ap (λ (z : List ℕ). slice_index text at ∷ z) (between_none text (at + 1))
        ∙ ap (λ (z : ℕ). z ∷ []) (here.ascii lt)

    piece : (p : List ℕ) → p ≡ b ∷ [] → IsPiece text at (at + 1) p
    piece p e = record { ordered = omega arith; inside = omega (arith, here.within); bytes = bytes ∙ sym e }

    go : (m : Punctuation) → written (lexeme_of m) ≡ b ∷ [] → IsTokenAt text (lexeme_of m) at (at + 1)
    go punctuation.LeftParen e = record { forward = omega arith; written = (tt, piece (codes "(") e); whole = tt }
    go punctuation.RightParen e = record { forward = omega arith; written = (tt, piece (codes ")") e); whole = tt }
    go punctuation.Comma e = record { forward = omega arith; written = (tt, piece (codes ",") e); whole = tt }
    go punctuation.Equals e = record { forward = omega arith; written = (tt, piece (codes "=") e); whole = tt }

-- no character but the end
pub nothing_seen : (text : List ℕ) (at : ℕ) (seen : Look) → Shows text at seen → character_of seen ≡ None →
    at ≡ length text
nothing_seen text at End shows h = shows
nothing_seen text at (Ascii b) shows h = absurd cc
nothing_seen text at (Wide c) shows h = absurd cc

pub something_seen : (text : List ℕ) (at c : ℕ) (seen : Look) → Shows text at seen → character_of seen ≡ Some c →
    at < length text
something_seen text at c End shows h = absurd cc
something_seen text at c (Ascii b) shows h = shows.1.within
something_seen text at c (Wide w) shows h = shows.1.within
