-- Each text has a cut.
use Rattle.std.proofs.Common.{◌≡◌, refl, sym, ap, ◌∙◌, ℕ, zero, suc, ◌+◌, ◌-◌, ◌<◌, ◌≤◌, Bool, true, false, not}
use Rattle.std.proofs.Common.{◌&&◌, ◌||◌, List, [], ◌∷◌, ◌++◌, codes, inl, inr, ◌⊎◌, true≢false, append_assoc, arith}
use Rattle.std.proofs.Common.{length, take, drop, length-drop, length-append, lit≤}
use Rattle.std.proofs.Math.Seq.{take-append_seam, drop-append_seam, get_or-append_seam}
use Rattle.std.specs.Prelude.{IsUtf8, IsFalse, bytes_eq, ◌==◌}
use Rattle.std.specs.List.{list_all}
use Rattle.std.specs.Char.{encode_utf8}
use Rattle.std.specs.Str.{IsCharBoundary}
use Rattle.std.proofs.lemmas.Str.{encode_ascii, IsUtf8-past_char, IsUtf8-take, IsUtf8-drop, IsCharBoundary-before_ascii}
use Rattle.std.proofs.lemmas.Slice.Eq.{bytes_eq-Decides}
use Rattle.std.proofs.lemmas.List.{drop-drop}
use Rattle.std.proofs.lemmas.Bool.{and_parts, eqb-true, false_from_ne_true, leb-true, or_cases}
use Rattle.cargo_platform.specs.declared.tokens.TokenFaultKind.TheVariants.{UnterminatedString, UnexpectedChar}
use Rattle.cargo_platform.specs.declared.tokens.TokenFaultKind.TheVariants.{MissingIdentifier}
use Rattle.cargo_platform.specs.Chars.{is_identifier_start, is_identifier_rest, is_space, is_quote}
use Rattle.cargo_platform.specs.Chars.{is_known_start, starts, BeginsWith}
use Rattle.cargo_platform.specs.Tokens.{Lexeme, LeftParen, RightParen, Ident, Comma, Equals, String, written}
use Rattle.cargo_platform.specs.Tokens.{IsWellWritten, Placed}
use Rattle.cargo_platform.specs.Cut.{IsPiece, IsWrittenAt, AreSpaces, EndsBefore, Item, Lexical, Nothing}
use Rattle.cargo_platform.specs.Cut.{Comes, is_token, IsCutFrom, IsCut}
use Rattle.cargo_platform.proofs.OneCut.{IsTail, start_is_ascii}
use lib.Utf8.{scalars, scalar, encodes}

pub ascii_rest : (b : ℕ) (bs : List ℕ) → b < 128 → IsUtf8 (b ∷ bs) → IsUtf8 bs
ascii_rest b bs lt u = IsUtf8-past_char (b ∷ bs) bs b u (sym (ap (λ (z : List ℕ). z ++ bs) (encode_ascii b lt)))

-- a test that only ASCII characters pass
abbrev IsAsciiTest : (ℕ → Bool) → Type 0
IsAsciiTest p = (b : ℕ) → p b ≡ true → b < 128

record Run (p : ℕ → Bool) (text : List ℕ) : Type 0 where
  xs : List ℕ
  rest : List ℕ
  parts : text ≡ xs ++ rest
  pass : list_all p xs ≡ true
  stops : starts p rest ≡ false
  utf8 : IsUtf8 rest

-- the longest run of such characters
run : (p : ℕ → Bool) → IsAsciiTest p → (text : List ℕ) → IsUtf8 text → Run p text
run p ascii [] u = record { xs = []; rest = []; parts = refl; pass = refl; stops = refl; utf8 = u }
run p ascii (b ∷ bs) u =
    elim (p b) as (λ v. p b ≡ v → Run p (b ∷ bs)) [
      | true ↦ λ h.
          let t = run p ascii bs (ascii_rest b bs (ascii b h) u) in
          record {
            xs = b ∷ t.xs;
            rest = t.rest;
            parts = ap (λ (z : List ℕ). b ∷ z) t.parts;
            pass = ap
                (λ v. v && list_all p t.xs) h ∙ t.pass;
            stops = t.stops;
            utf8 = t.utf8;
          }
      | false ↦ λ h. record { xs = []; rest = b ∷ bs; parts = refl; pass = refl; stops = h; utf8 = u }
    ] refl

-- the first quote
abbrev is_inner : ℕ → Bool
is_inner c = not (is_quote c)

Quoted : List ℕ → Type 0
Quoted text = (v : List ℕ) × (rest : List ℕ) × (text ≡ v ++ (0x22 ∷ rest)) × (list_all is_inner v ≡ true)

quoted : (text : List ℕ) → Quoted text ⊎ (list_all is_inner text ≡ true)
unfolding Quoted
quoted [] = inr refl
quoted (b ∷ bs) =
    elim (is_quote b) as (λ v. is_quote b ≡ v → Quoted (b ∷ bs) ⊎ (list_all is_inner (b ∷ bs) ≡ true)) [
      | true ↦ λ h. inl ([], bs, ap (λ (z : ℕ). z ∷ bs) (eqb-true b 0x22 h), refl)
      | false ↦ λ h. elim (quoted bs) [
        | inl q ↦ inl (b ∷ q.0, q.1, ap (λ (z : List ℕ). b ∷ z) q.2, ap (λ v. not v && list_all is_inner q.0) h ∙ q.3)
        | inr a ↦ inr (ap (λ v. not v && list_all is_inner bs) h ∙ a)
      ]
    ] refl

-- both sides of an ASCII byte are text
pub ascii_sides : (b : ℕ) (text v rest : List ℕ) → b < 128 → IsUtf8 text → text ≡ v ++ (b ∷ rest)
    → IsUtf8 v × IsUtf8 rest
ascii_sides b text v rest ascii u h =
    let w : IsUtf8 (v ++ (b ∷ rest)) = rw (← h) u in
    let at : IsCharBoundary (v ++ (b ∷ rest)) (length v) =
    IsCharBoundary-before_ascii (v ++ (b ∷ rest)) (length v) (omega (arith, length-append v (b ∷ rest)))
    (omega (arith, ascii, get_or-append_seam v b rest 0)) in (
      rw (take-append_seam v (b ∷ rest)) at (IsUtf8-take (v ++ (b ∷ rest)) (length v) w at),
      ascii_rest b rest ascii (rw (drop-append_seam v (b ∷ rest)) at (IsUtf8-drop (v ++ (b ∷ rest)) (length v) w at)),
    )

-- the first character
first_char : (b : ℕ) (bs : List ℕ) → IsUtf8 (b ∷ bs) → (c : ℕ) × (rest : List ℕ) × BeginsWith (b ∷ bs) c rest
first_char b bs ([], (s, e)) = absurd cc
first_char b bs (c ∷ cs, (s, e)) =
    (c, encodes cs, record { scalar = (and_parts (scalar c) (scalars cs) s).0; parts = sym e })

-- a test of ASCII characters sees the first byte
char_fails : (p : ℕ → Bool) → IsAsciiTest p → (b : ℕ) (bs : List ℕ) (c : ℕ) (rest : List ℕ)
    → b ∷ bs ≡ encode_utf8 c ++ rest → p b ≡ false → p c ≡ false
char_fails p ascii b bs c rest h f = false_from_ne_true (p c) (λ passes.
    let lt : c < 128 = ascii c passes in
    let e : b ∷ bs ≡ c ∷ rest = h ∙ ap (λ (z : List ℕ). z ++ rest) (encode_ascii c lt) in
    let is : b ≡ c = cc in
    true≢false (sym passes ∙ sym (ap p is) ∙ f))

-- ---- one token, or the tail

pub record Lexed (text : List ℕ) : Type 0 where
  pub token : Lexeme
  pub rest : List ℕ
  pub parts : text ≡ written token ++ rest
  pub well : IsWellWritten token
  pub ends : EndsBefore token rest
  pub utf8 : IsUtf8 rest

abbrev pub Outcome : List ℕ → Type 0
Outcome text = IsTail text ⊎ Lexed text

lexed : {text : List ℕ} (t : Lexeme) (rest : List ℕ) → text ≡ written t ++ rest → IsWellWritten t → EndsBefore t rest
    → IsUtf8 rest → Outcome text
lexed t rest parts well ends u =
    inr (record { token = t; rest = rest; parts = parts; well = well; ends = ends; utf8 = u })

pub rest_is_ascii : IsAsciiTest is_identifier_rest
rest_is_ascii c h = grind (arith, h, or_cases, and_parts, leb-true, start_is_ascii)

pub space_is_ascii : IsAsciiTest is_space
space_is_ascii c h = omega (arith, eqb-true c 0x20 h)

pub known_is_ascii : IsAsciiTest is_known_start
known_is_ascii c h = grind (arith, h, or_cases, eqb-true, start_is_ascii)

-- after `r#`
marked : (after : List ℕ) → IsUtf8 after → Outcome (codes "r#" ++ after)
marked [] u = inl (inr (MissingIdentifier, refl))
marked (d ∷ ds) u =
    elim (is_identifier_start d) as (λ v. is_identifier_start d ≡ v → Outcome (codes "r#" ++ (d ∷ ds))) [
      | true ↦ λ h.
          let r = run is_identifier_rest rest_is_ascii ds (ascii_rest d ds (start_is_ascii d h) u) in
          lexed (Ident true (d ∷ r.xs)) r.rest (ap (λ (z : List ℕ). 0x72 ∷ 0x23 ∷ d ∷ z) r.parts) (h, r.pass)
          (r.stops, refl) r.utf8
      | false ↦ λ h.
          let c = first_char d ds u in
          inl (inr (
            UnexpectedChar c.0,
            inl (d ∷ ds, c.1, refl, c.2, char_fails is_identifier_start start_is_ascii d ds c.0 c.1 c.2.parts h),
          ))
    ] refl

number_sign : (rest : List ℕ) → starts (λ c. c == 0x23) rest ≡ true → (after : List ℕ) × (rest ≡ 0x23 ∷ after)
number_sign [] h = absurd (true≢false (sym h))
number_sign (b ∷ bs) h = (bs, ap (λ (z : ℕ). z ∷ bs) (eqb-true b 0x23 h))

-- at an identifier start
name : (b : ℕ) (bs : List ℕ) → IsUtf8 (b ∷ bs) → is_identifier_start b ≡ true → Outcome (b ∷ bs)
name b bs u h =
    let r = run is_identifier_rest rest_is_ascii bs (ascii_rest b bs (start_is_ascii b h) u) in
    let parts : b ∷ bs ≡ (b ∷ r.xs) ++ r.rest = ap (λ (z : List ℕ). b ∷ z) r.parts in
    let test = bytes_eq (b ∷ r.xs) (codes "r") && starts (λ c. c == 0x23) r.rest in
    elim test as (λ v. (bytes_eq (b ∷ r.xs) (codes "r") && starts (λ c. c == 0x23) r.rest) ≡ v → Outcome (b ∷ bs)) [
      | false ↦ λ f. lexed (Ident false (b ∷ r.xs)) r.rest parts (h, r.pass) (r.stops, f) r.utf8
      | true ↦ λ t.
          let is : b ∷ r.xs ≡ codes "r" = (bytes_eq-Decides (b ∷ r.xs) (codes "r")).0
          (and_parts (bytes_eq (b ∷ r.xs) (codes "r")) (starts (λ c. c == 0x23) r.rest) t).0 in
          let after = number_sign r.rest
          (and_parts (bytes_eq (b ∷ r.xs) (codes "r")) (starts (λ c. c == 0x23) r.rest) t).1 in
          let whole : codes "r#" ++ after.0 ≡ b ∷ bs = sym (parts ∙ (λ i. is i ++ after.1 i)) in
          rw (← whole) (marked after.0 (ascii_rest 0x23 after.0 (lit≤ tt) (rw (← after.1) r.utf8)))
    ] refl

-- at a quote
string : (bs : List ℕ) → IsUtf8 bs → Outcome (0x22 ∷ bs)
unfolding Quoted
string bs u =
    elim (quoted bs) [
      | inl q ↦
          let sides = ascii_sides 0x22 bs q.0 q.1 (lit≤ tt) u q.2 in
          lexed (String q.0) q.1 (ap (λ (z : List ℕ). 0x22 ∷ z) (q.2 ∙ sym (append_assoc q.0 (codes "\"") q.1)))
          (sides.0, q.3) tt sides.1
      | inr a ↦ inl
          (inr (
            UnterminatedString,
            (bs, record { scalar = refl; parts = sym (ap (λ (z : List ℕ). z ++ bs) (encode_ascii 0x22 (lit≤ tt))) }, a),
          ))
    ]

-- at a byte that is the mark, or not
or_mark : (t : Lexeme) (b m : ℕ) (bs : List ℕ) → IsWellWritten t → EndsBefore t bs → written t ++ bs ≡ m ∷ bs → m < 128
    → IsUtf8 (b ∷ bs) → ((b == m) ≡ false → Outcome (b ∷ bs)) → Outcome (b ∷ bs)
or_mark t b m bs w e parts lt u otherwise =
    elim (b == m) as (λ v. (b == m) ≡ v → Outcome (b ∷ bs)) [
      | true ↦ λ h.
          let is : b ≡ m = eqb-true b m h in
          lexed t bs (ap (λ (z : ℕ). z ∷ bs) is ∙ sym parts) w e (ascii_rest b bs (omega (arith, is, lt)) u)
      | false ↦ otherwise
    ] refl

-- what no token begins
other : (b : ℕ) (bs : List ℕ) → IsUtf8 (b ∷ bs) → is_known_start b ≡ false → Outcome (b ∷ bs)
other b bs u h =
    let c = first_char b bs u in
    inl (inr (UnexpectedChar c.0, inr (c.1, c.2, char_fails is_known_start known_is_ascii b bs c.0 c.1 c.2.parts h)))

-- a token or the tail, where there is no space
pub lex : (text : List ℕ) → IsUtf8 text → starts is_space text ≡ false → Outcome text
lex [] u h = inl (inl refl)
lex (b ∷ bs) u h =
    elim (is_identifier_start b) as (λ v. is_identifier_start b ≡ v → Outcome (b ∷ bs)) [
      | true ↦ λ e. name b bs u e
      | false ↦ λ e.
          elim (is_quote b) as (λ v. is_quote b ≡ v → Outcome (b ∷ bs)) [
            | true ↦ λ q.
                let is : b ≡ 0x22 = eqb-true b 0x22 q in
                rw (ap (λ (z : ℕ). z ∷ bs) is) (string bs (ascii_rest b bs (omega (arith, is)) u))
            | false ↦ λ q.
                or_mark LeftParen b 0x28 bs tt tt refl (lit≤ tt) u (λ m0.
                or_mark RightParen b 0x29 bs tt tt refl (lit≤ tt) u (λ m1.
                or_mark Comma b 0x2C bs tt tt refl (lit≤ tt) u (λ m2.
                or_mark Equals b 0x3D bs tt tt refl (lit≤ tt) u (λ m3.
                other b bs u (λ i. h i || m0 i || m1 i || m2 i || m3 i || q i || e i)))))
          ] refl
    ] refl

-- ---- the cut

pub written_length : (t : Lexeme) → IsWellWritten t → 0 < length (written t)
written_length LeftParen w = lit≤ tt
written_length RightParen w = lit≤ tt
written_length Comma w = lit≤ tt
written_length Equals w = lit≤ tt
written_length (String v) w = omega arith
written_length (Ident true n) w = omega arith
written_length (Ident false []) w = absurd w
written_length (Ident false (c ∷ cs)) w = omega arith

pub piece_at : (text : List ℕ) (i : ℕ) (p q : List ℕ) → i ≤ length text → drop i text ≡ p ++ q
    → IsPiece text i (i + length p) p
piece_at text i p q le h =
    let len : length (drop i text) ≡ length p + length q = ap length h ∙ length-append p q in
    let wide : i + length p - i ≡ length p = omega arith in
    record {
      ordered = omega arith;
      inside = omega (arith, le, len, length-drop i text);
      bytes = ap (λ k. take k (drop i text)) wide ∙ ap (take (length p)) h ∙ take-append_seam p q;
    }

pub rest_at : (text : List ℕ) (i : ℕ) (p q : List ℕ) → drop i text ≡ p ++ q → drop (i + length p) text ≡ q
rest_at text i p q h = sym (drop-drop (length p) i text) ∙ ap (drop (length p)) h ∙ drop-append_seam p q

-- what comes at a tail
abbrev pub last_at : (text : List ℕ) (tail : ℕ) → IsTail (drop tail text) → Item
last_at text tail (inl none) = Nothing
last_at text tail (inr f) = Lexical f.0 tail

pub no_token_at : (text : List ℕ) (tail : ℕ) (rest : IsTail (drop tail text))
    → IsFalse (is_token (last_at text tail rest))
no_token_at text tail (inl none) = refl
no_token_at text tail (inr f) = refl

pub tail_comes : (text : List ℕ) (from tail : ℕ) → AreSpaces text from tail → (rest : IsTail (drop tail text))
    → Comes text from (last_at text tail rest) tail
tail_comes text from tail spaces (inr f) = (spaces, f.1, refl)
tail_comes text from tail spaces (inl none) =
    let end : tail ≡ length text = omega (arith, spaces.1.inside, ap length none, length-drop tail text) in
    (rw (← end) spaces, end)

-- up to a tail nothing but spaces is cut
pub cut_ends : (text : List ℕ) (from tail : ℕ) → AreSpaces text from tail → IsTail (drop tail text)
    → IsCutFrom text from [] tail
cut_ends text from tail spaces rest = record {
  last = last_at text tail rest;
  no_token = no_token_at text tail rest;
  comes = tail_comes text from tail spaces rest;
}

-- a token is cut off in front of what is cut
pub cut_cons : (text : List ℕ) (from tail : ℕ) (t : Placed) (ts : List Placed) → AreSpaces text from t.start
    → IsWrittenAt text t → EndsBefore t.token (drop t.end text) → IsCutFrom text t.end ts tail
    → IsCutFrom text from (t ∷ ts) tail
cut_cons text from tail t ts spaces written whole others = record {
  last = others.last;
  no_token = others.no_token;
  comes = ((spaces, written, whole, refl), others.comes);
}

pub record SomeCut (text : List ℕ) (from : ℕ) : Type 0 where
  pub ts : List Placed
  pub tail : ℕ
  pub cut : IsCutFrom text from ts tail

cut_from : (n : ℕ) (text : List ℕ) (from : ℕ) → from ≤ length text → IsUtf8 (drop from text)
    → length text < from + n → SomeCut text from
cut_from zero text from le u enough = absurd (omega (arith, le, enough))
cut_from (suc n) text from le u enough =
    let r = run is_space space_is_ascii (drop from text) u in
    let at = from + length r.xs in
    let spaces : AreSpaces text from at = (r.xs, piece_at text from r.xs r.rest le r.parts, r.pass) in
    let left : drop at text ≡ r.rest = rest_at text from r.xs r.rest r.parts in
    elim (lex r.rest r.utf8 r.stops) [
      | inl tail ↦ record { ts = []; tail = at; cut = cut_ends text from at spaces (rw left tail) }
      | inr x ↦
          let t : Placed = record { token = x.token; start = at; end = at + length (written x.token) } in
          let here : drop at text ≡ written x.token ++ x.rest = left ∙ x.parts in
          let piece : IsPiece text at t.end (written x.token) = piece_at text at
          (written x.token) x.rest spaces.1.inside here in
          let behind : drop t.end text ≡ x.rest = rest_at text at (written x.token) x.rest here in
          let others = cut_from n text t.end piece.inside (rw behind x.utf8)
          (omega (arith, enough, written_length x.token x.well)) in
          record {
            ts = t ∷ others.ts;
            tail = others.tail;
            cut = cut_cons text from others.tail t others.ts spaces (x.well, piece) (rw behind x.ends) others.cut;
          }
    ]

-- each text has a cut
pub some_cut : (text : List ℕ) → IsUtf8 text → (ts : List Placed) × (tail : ℕ) × IsCut text ts tail
some_cut text u =
    let c = cut_from (suc (length text)) text 0 (omega arith) u (omega arith) in
    (c.ts, c.tail, c.cut)
