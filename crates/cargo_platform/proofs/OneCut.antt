-- A text has at most one cut.
use Rattle.std.proofs.Common.{◌≡◌, refl, sym, ap, subst, ◌∙◌, ℕ, ◌+◌, ◌-◌, ◌<◌, Bool, true, false, not, ◌&&◌, ◌||◌}
use Rattle.std.proofs.Common.{List, [], ◌∷◌, ◌++◌, codes, inl, inr, ◌⊎◌, true≢false, append_assoc, arith, length}
use Rattle.std.proofs.Common.{drop, drop_of_length-le}
use Rattle.std.proofs.Common.{lit≤, length-take, length-drop, take-append-drop}
use Rattle.std.specs.Prelude.{IsFalse, bytes_eq, if◌then◌else◌, ◌==◌, slice_range}
use Rattle.std.specs.List.{list_all}
use Rattle.std.specs.Char.{encode_utf8}
use Rattle.std.proofs.Math.Bool.{or-true, and-false}
use Rattle.std.proofs.lemmas.Bool.{and_parts, eqb-true, false_from_ne_true, leb-true, or_cases}
use Rattle.std.proofs.lemmas.Str.{char_from_byte, encode_ascii}
use Rattle.std.proofs.lemmas.List.{drop-drop}
use Rattle.std.proofs.lemmas.List.Folds.{list_all-append}
use Rattle.cargo_platform.specs.declared.tokens.TokenFaultKind.{TokenFaultKind}
use Rattle.cargo_platform.specs.declared.tokens.TokenFaultKind.TheVariants.{UnterminatedString, UnexpectedChar}
use Rattle.cargo_platform.specs.declared.tokens.TokenFaultKind.TheVariants.{MissingIdentifier}
use Rattle.cargo_platform.specs.Chars.{is_identifier_start, is_identifier_rest, is_space, is_quote}
use Rattle.cargo_platform.specs.Chars.{is_known_start, starts}
use Rattle.cargo_platform.specs.Tokens.{Lexeme, LeftParen, RightParen, Ident, Comma, Equals, String, written}
use Rattle.cargo_platform.specs.Tokens.{IsIdentifierName, IsWellWritten, Placed}
use Rattle.cargo_platform.specs.Cut.{IsPiece, IsWrittenAt, AreSpaces, EndsBefore, BeginsFault, Item, Token}
use Rattle.cargo_platform.specs.Cut.{Lexical, Nothing, Comes, ComesBehind, is_token, IsCutFrom}
use Rattle.cargo_platform.proofs.LexicalFaults.{no_fault, one_lexical_fault}

pub head_of : {a b : ℕ} {s t : List ℕ} → a ∷ s ≡ b ∷ t → a ≡ b
head_of h = cc

pub tail_of : {a b : ℕ} {s t : List ℕ} → a ∷ s ≡ b ∷ t → s ≡ t
tail_of h = cc

-- two longest runs at the front of one list
runs_same : (p : ℕ → Bool) (xs ys r s : List ℕ) → list_all p xs ≡ true → list_all p ys ≡ true → xs ++ r ≡ ys ++ s
    → starts p r ≡ false → starts p s ≡ false → (xs ≡ ys) × (r ≡ s)
runs_same p [] [] r s a b h nr ns = (refl, h)
runs_same p [] (y ∷ ys) r s a b h nr ns =
    absurd (true≢false (sym (and_parts (p y) (list_all p ys) b).0 ∙ sym (ap (starts p) h) ∙ nr))
runs_same p (x ∷ xs) [] r s a b h nr ns =
    absurd (true≢false (sym (and_parts (p x) (list_all p xs) a).0 ∙ ap (starts p) h ∙ ns))
runs_same p (x ∷ xs) (y ∷ ys) r s a b h nr ns =
    let t = runs_same p xs ys r s (and_parts (p x) (list_all p xs) a).1 (and_parts (p y) (list_all p ys) b).1
    (tail_of h) nr ns in
    (λ i. head_of h i ∷ t.0 i, t.1)

-- ---- which token, by the first byte

abbrev class_of : Bool → ℕ → ℕ
class_of start b =
    if start then 5
    else (if b == 0x28 then 0
    else (if b == 0x29 then 1
    else (if b == 0x2C then 2 else (if b == 0x3D then 3 else (if is_quote b then 4 else 6)))))

abbrev class : List ℕ → ℕ
class [] = 7
class (b ∷ bs) = class_of (is_identifier_start b) b

abbrev place : Lexeme → ℕ
place LeftParen = 0
place RightParen = 1
place Comma = 2
place Equals = 3
place (String value) = 4
place (Ident raw name) = 5

class_is : (t : Lexeme) (r : List ℕ) → IsWellWritten t → class (written t ++ r) ≡ place t
class_is LeftParen r w = refl
class_is RightParen r w = refl
class_is Comma r w = refl
class_is Equals r w = refl
class_is (String value) r w = refl
class_is (Ident true name) r w = refl
class_is (Ident false []) r w = absurd w
class_is (Ident false (c ∷ cs)) r w = ap (λ b. class_of b c) w.0

-- a name that is no marked one
mark_is_no_name : (c : ℕ) (cs r more : List ℕ) → IsIdentifierName (c ∷ cs) → EndsBefore (Ident false (c ∷ cs)) r
    → 0x72 ∷ 0x23 ∷ more ≡ (c ∷ cs) ++ r → ⊥
mark_is_no_name c [] r more w e h =
    let lone : IsFalse (bytes_eq (c ∷ []) (codes "r") && starts (λ c. c == 0x23) r) = e.1 in
    let this : IsFalse (bytes_eq (0x72 ∷ []) (codes "r") && starts (λ c. c == 0x23) (0x23 ∷ more)) =
    ap (λ (b : ℕ). bytes_eq (b ∷ []) (codes "r") && starts (λ c. c == 0x23) (0x23 ∷ more)) (head_of h)
    ∙ ap (λ (z : List ℕ). bytes_eq (c ∷ []) (codes "r") && starts (λ c. c == 0x23) z) (tail_of h) ∙ lone in
    true≢false this
mark_is_no_name c (d ∷ ds) r more w e h =
    true≢false
    (sym (and_parts (is_identifier_rest d) (list_all is_identifier_rest ds) w.1).0
    ∙ sym (ap is_identifier_rest (head_of (tail_of h))))

names_same : (m n r s : List ℕ) → IsIdentifierName m → IsIdentifierName n → IsFalse (starts is_identifier_rest r)
    → IsFalse (starts is_identifier_rest s) → m ++ r ≡ n ++ s → (m ≡ n) × (r ≡ s)
names_same [] n r s v w a b h = absurd v
names_same (c ∷ cs) [] r s v w a b h = absurd w
names_same (c ∷ cs) (d ∷ ds) r s v w a b h =
    let t = runs_same is_identifier_rest cs ds r s v.1 w.1 (tail_of h) a b in
    (λ i. head_of h i ∷ t.0 i, t.1)

-- two tokens at one place
tokens_same : (t u : Lexeme) (r s : List ℕ) → IsWellWritten t → IsWellWritten u → EndsBefore t r → EndsBefore u s
    → written t ++ r ≡ written u ++ s → (t ≡ u) × (r ≡ s)
tokens_same LeftParen LeftParen r s v w e f h = (refl, tail_of h)
tokens_same RightParen RightParen r s v w e f h = (refl, tail_of h)
tokens_same Comma Comma r s v w e f h = (refl, tail_of h)
tokens_same Equals Equals r s v w e f h = (refl, tail_of h)
tokens_same (String x) (String y) r s v w e f h =
    let inner : x ++ (0x22 ∷ r) ≡ y ++ (0x22 ∷ s) = sym (append_assoc x (codes "\"") r) ∙ tail_of h
    ∙ append_assoc y (codes "\"") s in
    let t = runs_same (λ c. not (is_quote c)) x y (0x22 ∷ r) (0x22 ∷ s) v.1 w.1 inner refl refl in
    (ap String t.0, tail_of t.1)
tokens_same (Ident true m) (Ident true n) r s v w e f h =
    let t = names_same m n r s v w e.0 f.0 (tail_of (tail_of h)) in
    (ap (Ident true) t.0, t.1)
tokens_same (Ident false m) (Ident false n) r s v w e f h =
    let t = names_same m n r s v w e.0 f.0 h in
    (ap (Ident false) t.0, t.1)
tokens_same (Ident true m) (Ident false []) r s v w e f h = absurd w
tokens_same (Ident true m) (Ident false (c ∷ cs)) r s v w e f h = absurd (mark_is_no_name c cs s (m ++ r) w f h)
tokens_same (Ident false []) (Ident true n) r s v w e f h = absurd v
tokens_same (Ident false (c ∷ cs)) (Ident true n) r s v w e f h = absurd (mark_is_no_name c cs r (n ++ s) v e (sym h))
tokens_same t u r s v w e f h = absurd (omega (arith, sym (class_is t r v) ∙ ap class h ∙ class_is u s w))

-- ---- the first byte of a token and of a tail

-- an identifier start is ASCII
pub start_is_ascii : (c : ℕ) → is_identifier_start c ≡ true → c < 128
start_is_ascii c h = grind (arith, h, or_cases, and_parts, eqb-true, leb-true)

start_is_no_space : (c : ℕ) → is_identifier_start c ≡ true → is_space c ≡ false
start_is_no_space c h =
    false_from_ne_true (is_space c) (λ e. true≢false (sym h ∙ ap is_identifier_start (eqb-true c 0x20 e)))

pub record Begins (text : List ℕ) : Type 0 where
  pub byte : ℕ
  pub others : List ℕ
  pub parts : text ≡ byte ∷ others
  pub known : is_known_start byte ≡ true
  pub ascii : byte < 128
  pub no_space : is_space byte ≡ false

known_name : (c : ℕ) → is_identifier_start c ≡ true → is_known_start c ≡ true
known_name c h =
    ap (λ b. is_space c || c == 0x28 || c == 0x29 || c == 0x2C || c == 0x3D || is_quote c || b) h
    ∙ or-true (is_space c || c == 0x28 || c == 0x29 || c == 0x2C || c == 0x3D || is_quote c)

pub token_begins : (t : Lexeme) (r : List ℕ) → IsWellWritten t → Begins (written t ++ r)
token_begins LeftParen r w =
    record { byte = 0x28; others = r; parts = refl; known = refl; ascii = lit≤ tt; no_space = refl }
token_begins RightParen r w =
    record { byte = 0x29; others = r; parts = refl; known = refl; ascii = lit≤ tt; no_space = refl }
token_begins Comma r w =
    record { byte = 0x2C; others = r; parts = refl; known = refl; ascii = lit≤ tt; no_space = refl }
token_begins Equals r w =
    record { byte = 0x3D; others = r; parts = refl; known = refl; ascii = lit≤ tt; no_space = refl }
token_begins (String v) r w =
    record {
      byte = 0x22;
      others =
          (v ++ codes "\"") ++ r;
      parts = refl;
      known = refl;
      ascii = lit≤ tt;
      no_space = refl;
    }
token_begins (Ident true name) r w =
    record { byte = 0x72; others = 0x23 ∷ (name ++ r); parts = refl; known = refl; ascii = lit≤ tt; no_space = refl }
token_begins (Ident false []) r w = absurd w
token_begins (Ident false (c ∷ cs)) r w = record {
  byte = c;
  others = cs ++ r;
  parts = refl;
  known = known_name c w.0;
  ascii = start_is_ascii c w.0;
  no_space = start_is_no_space c w.0;
}

-- a text that begins with an ASCII byte begins with that character
pub char_is : (text rest : List ℕ) (c b : ℕ) (bs : List ℕ) → text ≡ encode_utf8 c ++ rest → text ≡ b ∷ bs → b < 128
    → c ≡ b
char_is text rest c b bs h e lt = char_from_byte (b ∷ bs) rest c (sym e ∙ h) lt (omega arith)

-- a text that begins with a token begins no lexical fault
token_is_no_fault : (t : Lexeme) (r : List ℕ) (fault : TokenFaultKind) → IsWellWritten t → EndsBefore t r
    → BeginsFault (written t ++ r) fault → ⊥
token_is_no_fault (String v) r UnterminatedString w e f =
    let inner : v ++ (0x22 ∷ r) ≡ f.0 = sym (append_assoc v (codes "\"") r)
    ∙ tail_of (f.1.parts ∙ ap (λ (z : List ℕ). z ++ f.0) (encode_ascii 0x22 (lit≤ tt))) in
    true≢false
    (sym (ap (list_all (λ c. not (is_quote c))) inner ∙ f.2)
    ∙ (list_all-append (λ c. not (is_quote c)) v (0x22 ∷ r) ∙ and-false (list_all (λ c. not (is_quote c)) v)))
token_is_no_fault t r UnterminatedString w e f =
    omega (
      arith,
      sym (class_is t r w)
          ∙ ap class (f.1.parts ∙ ap (λ (z : List ℕ). z ++ f.0) (encode_ascii 0x22 (lit≤ tt))),
    )
token_is_no_fault (Ident true []) r MissingIdentifier w e f = w
token_is_no_fault (Ident true (c ∷ cs)) r MissingIdentifier w e f = absurd cc
token_is_no_fault (Ident false []) r MissingIdentifier w e f = w
token_is_no_fault (Ident false (c ∷ cs)) r MissingIdentifier w e f = mark_is_no_name c cs r [] w e (sym f)
token_is_no_fault t r MissingIdentifier w e f = omega (arith, sym (class_is t r w) ∙ ap class f)
token_is_no_fault (Ident true []) r (UnexpectedChar c) w e f = w
token_is_no_fault (Ident true (b ∷ bs)) r (UnexpectedChar c) w e (inl f) =
    let is : c ≡ b = char_is f.0 f.1 c b (bs ++ r) f.3.parts (sym (tail_of (tail_of f.2))) (start_is_ascii b w.0) in
    true≢false (sym w.0 ∙ sym (ap is_identifier_start is) ∙ f.4)
token_is_no_fault (Ident false []) r (UnexpectedChar c) w e f = w
token_is_no_fault (Ident false (b ∷ bs)) r (UnexpectedChar c) w e (inl f) = mark_is_no_name b bs r f.0 w e (sym f.2)
token_is_no_fault t r (UnexpectedChar c) w e (inr f) =
    let b = token_begins t r w in
    let is : c ≡ b.byte = char_is (written t ++ r) f.0 c b.byte b.others f.1.parts b.parts b.ascii in
    true≢false (sym b.known ∙ sym (ap is_known_start is) ∙ f.2)
token_is_no_fault t r (UnexpectedChar c) w e (inl f) = omega (arith, sym (class_is t r w) ∙ ap class f.2)

-- a rest of a text in which no token begins: it is empty, or begins a lexical fault
abbrev pub IsTail : List ℕ → Type 0
IsTail rest = (rest ≡ []) ⊎ ((fault : TokenFaultKind) × BeginsFault rest fault)

token_is_no_tail : (t : Lexeme) (r : List ℕ) → IsWellWritten t → EndsBefore t r → IsTail (written t ++ r) → ⊥
token_is_no_tail t r w e (inl h) = let b = token_begins t r w in nothing_begins (sym b.parts ∙ h)
  where
    nothing_begins : {b : ℕ} {bs : List ℕ} → b ∷ bs ≡ [] → ⊥
    nothing_begins h = absurd cc
token_is_no_tail t r w e (inr f) = token_is_no_fault t r f.0 w e f.1

-- no tail begins with a space
fault_no_space : (text : List ℕ) (fault : TokenFaultKind) → BeginsFault text fault → starts is_space text ≡ false
fault_no_space text UnterminatedString f =
    ap (starts is_space) (f.1.parts ∙ ap (λ (z : List ℕ). z ++ f.0) (encode_ascii 0x22 (lit≤ tt)))
fault_no_space text MissingIdentifier f = ap (starts is_space) f
fault_no_space text (UnexpectedChar c) (inl f) = ap (starts is_space) f.2
fault_no_space [] (UnexpectedChar c) (inr f) = refl
fault_no_space (b ∷ bs) (UnexpectedChar c) (inr f) = false_from_ne_true (is_space b) (λ h.
    let sp : b ≡ 0x20 = eqb-true b 0x20 h in
    let is : c ≡ b = char_is (b ∷ bs) f.0 c b bs f.1.parts refl (omega (arith, sp)) in
    true≢false (sym (ap is_known_start (is ∙ sp)) ∙ f.2))

pub tail_no_space : (text : List ℕ) → IsTail text → starts is_space text ≡ false
tail_no_space text (inl h) = ap (starts is_space) h
tail_no_space text (inr f) = fault_no_space text f.0 f.1

token_no_space : (t : Lexeme) (r : List ℕ) → IsWellWritten t → starts is_space (written t ++ r) ≡ false
token_no_space t r w = let b = token_begins t r w in ap (starts is_space) b.parts ∙ b.no_space

-- ---- places

pub piece_end : (text : List ℕ) (i j : ℕ) (p : List ℕ) → IsPiece text i j p → j ≡ i + length p
piece_end text i j p h =
    let len : length (slice_range text i j) ≡ length p = ap length h.bytes in
    omega (arith, h.ordered, h.inside, len, length-take (j - i) (drop i text), length-drop i text)

pub piece_rest : (text : List ℕ) (i j : ℕ) (p : List ℕ) → IsPiece text i j p → drop i text ≡ p ++ drop j text
piece_rest text i j p h =
    let at : i + (j - i) ≡ j = omega (arith, h.ordered) in
    sym (take-append-drop (j - i) (drop i text)) ∙ ap (λ (z : List ℕ). z ++ drop (j - i) (drop i text)) h.bytes
    ∙ ap (λ (z : List ℕ). p ++ z) (drop-drop (j - i) i text ∙ ap (λ k. drop k text) at)

-- the first position from which on there is no space
pub same_start : (text : List ℕ) (from i j : ℕ) → AreSpaces text from i → AreSpaces text from j
    → starts is_space (drop i text) ≡ false → starts is_space (drop j text) ≡ false → i ≡ j
same_start text from i j p q a b =
    let both : p.0 ++ drop i text ≡ q.0 ++ drop j text = sym (piece_rest text from i p.0 p.1)
    ∙ piece_rest text from j q.0 q.1 in
    let same = runs_same is_space p.0 q.0 (drop i text) (drop j text) p.2 q.2 both a b in
    piece_end text from i p.0 p.1 ∙ ap (λ (z : List ℕ). from + length z) same.0 ∙ sym (piece_end text from j q.0 q.1)

pub written_rest : (text : List ℕ) (t : Placed) → IsWrittenAt text t
    → drop t.start text ≡ written t.token ++ drop t.end text
written_rest text t w = piece_rest text t.start t.end (written t.token) w.1

pub starts_clear : (text : List ℕ) (t : Placed) → IsWrittenAt text t → starts is_space (drop t.start text) ≡ false
starts_clear text t w = ap (starts is_space) (written_rest text t w) ∙ token_no_space t.token (drop t.end text) w.0

-- no tail begins where a token does
pub not_both : (text : List ℕ) (from i : ℕ) (t : Placed) → AreSpaces text from i → IsTail (drop i text)
    → AreSpaces text from t.start → IsWrittenAt text t → EndsBefore t.token (drop t.end text) → ⊥
not_both text from i t p tail q w whole =
    let same : i ≡ t.start = same_start text from i t.start p q (tail_no_space (drop i text) tail)
    (starts_clear text t w) in
    token_is_no_tail t.token (drop t.end text) w.0 whole
    (rw (← ap (λ k. drop k text) same ∙ written_rest text t w) tail)

pub same_token : (text : List ℕ) (from : ℕ) (t u : Placed) → AreSpaces text from t.start → AreSpaces text from u.start
    → IsWrittenAt text t → IsWrittenAt text u → EndsBefore t.token (drop t.end text)
    → EndsBefore u.token (drop u.end text) → t ≡ u
same_token text from t u p q v w e f =
    let start : t.start ≡ u.start = same_start text from t.start u.start p q (starts_clear text t v)
    (starts_clear text u w) in
    let token = tokens_same t.token u.token (drop t.end text) (drop u.end text) v.0 w.0 e f
    (sym (written_rest text t v) ∙ ap (λ k. drop k text) start ∙ written_rest text u w) in
    let end : t.end ≡ u.end =
    piece_end text t.start t.end (written t.token) v.1 ∙ (λ i. start i + length (written (token.0 i)))
    ∙ sym (piece_end text u.start u.end (written u.token) w.1) in
    λ i. record { token = token.0 i; start = start i; end = end i }

-- ---- one item at a place, and one cut

fault_at_end : (text : List ℕ) (from at : ℕ) (k : TokenFaultKind) → AreSpaces text from at
    → BeginsFault (drop at text) k → AreSpaces text from (length text) → ⊥
fault_at_end text from at k p f q =
    let over : drop (length text) text ≡ [] = drop_of_length-le text (omega arith) in
    let same : at ≡ length text = same_start text from at (length text) p q (fault_no_space (drop at text) k f)
    (ap (starts is_space) over) in
    no_fault k (rw (← ap (λ n. drop n text) same ∙ over) f)

-- where a token comes, neither a fault comes nor the end
no_token_beside : (text : List ℕ) (from a b : ℕ) (t : Placed) (i : Item) → is_token i ≡ false
    → Comes text from (Token t) a → Comes text from i b → ⊥
no_token_beside text from a b t (Token u) none p q = true≢false none
no_token_beside text from a b t (Lexical k at) none p q =
    not_both text from at t q.0 (inr (k, q.1)) p.0 p.1 p.2
no_token_beside text from a b t Nothing none p q =
    not_both text from (length text) t q.0 (inl (drop_of_length-le text (omega arith))) p.0 p.1 p.2

-- from a place on one item comes, and the text goes on after it from one place
pub one_comes : (text : List ℕ) (from a b : ℕ) (i j : Item) → Comes text from i a → Comes text from j b
    → (i ≡ j) × (a ≡ b)
one_comes text from a b (Token t) (Token u) p q =
    let same = same_token text from t u p.0 q.0 p.1 q.1 p.2 q.2 in
    (ap Token same, p.3 ∙ ap (λ (z : Placed). z.end) same ∙ sym q.3)
one_comes text from a b (Lexical k at) (Lexical l place) p q =
    let same : at ≡ place = same_start text from at place p.0 q.0 (fault_no_space (drop at text) k p.1)
    (fault_no_space (drop place text) l q.1) in
    let kind : k ≡ l = one_lexical_fault (drop at text) k l p.1 (rw same q.1) in
    (λ i. Lexical (kind i) (same i), p.2 ∙ same ∙ sym q.2)
one_comes text from a b Nothing Nothing p q = (refl, p.1 ∙ sym q.1)
one_comes text from a b (Lexical k at) Nothing p q = absurd (fault_at_end text from at k p.0 p.1 q.0)
one_comes text from a b Nothing (Lexical k at) p q = absurd (fault_at_end text from at k q.0 q.1 p.0)
one_comes text from a b (Token t) j p q = absurd (no_token_beside text from a b t j refl p q)
one_comes text from a b i (Token t) p q = absurd (no_token_beside text from b a t i refl q p)

pub one_cut_from : (text : List ℕ) (ts us : List Placed) (from i j : ℕ) → IsCutFrom text from ts i
    → IsCutFrom text from us j → (ts ≡ us) × (i ≡ j)
one_cut_from text [] [] from i j p q = (refl, (one_comes text from i j p.last q.last p.comes q.comes).1)
one_cut_from text [] (u ∷ us) from i j p q =
    absurd (no_token_beside text from u.end i u p.last p.no_token q.comes.0 p.comes)
one_cut_from text (t ∷ ts) [] from i j p q =
    absurd (no_token_beside text from t.end j t q.last q.no_token p.comes.0 q.comes)
one_cut_from text (t ∷ ts) (u ∷ us) from i j p q =
    let a = p.comes.0 in
    let b = q.comes.0 in
    let same = same_token text from t u a.0 b.0 a.1 b.1 a.2 b.2 in
    let more = subst (λ (k : Placed). ComesBehind text k.end us q.last j) (sym same) q.comes.1 in
    let others = one_cut_from text ts us t.end i j
    (record { last = p.last; no_token = p.no_token; comes = p.comes.1 })
    (record { last = q.last; no_token = q.no_token; comes = more }) in
    (λ k. same k ∷ others.0 k, others.1)
