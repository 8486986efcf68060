-- A text begins at most one lexical fault, and the empty text begins none.
use Rattle.std.proofs.Common.{◌≡◌, sym, ap, ◌∙◌, ℕ, true, true≢false, List, [], ◌∷◌, ◌++◌, codes, inl, inr, arith}
use Rattle.std.proofs.Common.{refl, length, drop, length-append}
use Rattle.std.specs.Prelude.{IsFalse}
use Rattle.std.specs.Char.{encode_utf8}
use Rattle.std.proofs.lemmas.Str.{encode_same, length-encode, len_utf8_bounds}
use Rattle.cargo_platform.specs.declared.tokens.TokenFaultKind.{TokenFaultKind}
use Rattle.cargo_platform.specs.declared.tokens.TokenFaultKind.TheVariants as lexical
use Rattle.cargo_platform.specs.Chars.{is_quote, is_known_start, starts}
use Rattle.cargo_platform.specs.Cut.{BeginsFault}

pub no_char : (c : ℕ) (rest : List ℕ) → [] ≡ encode_utf8 c ++ rest → ⊥
unfolding encode_utf8
no_char c rest h =
    absurd (omega (arith, ap length h, length-append (encode_utf8 c) rest, length-encode c, (len_utf8_bounds c).0))

-- at the end of the text no lexical fault begins
pub no_fault : (k : TokenFaultKind) → BeginsFault [] k → ⊥
no_fault lexical.UnterminatedString p = no_char 0x22 p.0 p.1.parts
no_fault lexical.MissingIdentifier p = absurd cc
no_fault (lexical.UnexpectedChar c) (inl p) = absurd (let h = p.2 in cc)
no_fault (lexical.UnexpectedChar c) (inr p) = no_char c p.0 p.1.parts

string_no_mark : (text more : List ℕ) → BeginsFault text lexical.UnterminatedString → text ≡ codes "r#" ++ more → ⊥
unfolding encode_utf8
string_no_mark text more f h = true≢false (sym (ap (starts is_quote) f.1.parts) ∙ ap (starts is_quote) h)

-- a text that begins with a known character does not begin with an unknown one
known_or_not : (text r s : List ℕ) (c d : ℕ) → text ≡ encode_utf8 d ++ r → is_known_start d ≡ true
    → text ≡ encode_utf8 c ++ s → IsFalse (is_known_start c) → ⊥
known_or_not text r s c d p known q h =
    true≢false (sym known ∙ ap is_known_start (encode_same d c r s (sym p ∙ q)).0 ∙ h)

mark_first : (more : List ℕ) → codes "r#" ++ more ≡ encode_utf8 0x72 ++ (0x23 ∷ more)
unfolding encode_utf8
mark_first more = refl

mark_is_known : (text more s : List ℕ) (c : ℕ) → text ≡ codes "r#" ++ more → text ≡ encode_utf8 c ++ s
    → IsFalse (is_known_start c) → ⊥
mark_is_known text more s c p q h = known_or_not text (0x23 ∷ more) s c 0x72 (p ∙ mark_first more) refl q h

string_no_char : (text : List ℕ) (c : ℕ) → BeginsFault text lexical.UnterminatedString
    → BeginsFault text (lexical.UnexpectedChar c) → ⊥
string_no_char text c f (inl g) = string_no_mark text g.0 f g.2
string_no_char text c f (inr g) = known_or_not text f.0 g.0 c 0x22 f.1.parts refl g.1.parts g.2

mark_no_char : (text : List ℕ) (c : ℕ) → BeginsFault text lexical.MissingIdentifier
    → BeginsFault text (lexical.UnexpectedChar c) → ⊥
mark_no_char text c f (inl g) = no_char c g.1 (ap (drop 2) (sym f ∙ g.2) ∙ g.3.parts)
mark_no_char text c f (inr g) = mark_is_known text [] g.0 c f g.1.parts g.2

one_char : (text : List ℕ) (c d : ℕ) → BeginsFault text (lexical.UnexpectedChar c)
    → BeginsFault text (lexical.UnexpectedChar d) → c ≡ d
one_char text c d (inl f) (inl g) =
    (encode_same c d f.1 g.1 (sym f.3.parts ∙ ap (drop 2) (sym f.2 ∙ g.2) ∙ g.3.parts)).0
one_char text c d (inl f) (inr g) = absurd (mark_is_known text f.0 g.0 d f.2 g.1.parts g.2)
one_char text c d (inr f) (inl g) = absurd (mark_is_known text g.0 f.0 c g.2 f.1.parts f.2)
one_char text c d (inr f) (inr g) = (encode_same c d f.0 g.0 (sym f.1.parts ∙ g.1.parts)).0

-- a text begins at most one lexical fault
pub one_lexical_fault : (text : List ℕ) (k l : TokenFaultKind) → BeginsFault text k → BeginsFault text l → k ≡ l
one_lexical_fault text lexical.UnterminatedString lexical.UnterminatedString f g = refl
one_lexical_fault text lexical.UnterminatedString lexical.MissingIdentifier f g = absurd (string_no_mark text [] f g)
one_lexical_fault text lexical.UnterminatedString (lexical.UnexpectedChar d) f g = absurd (string_no_char text d f g)
one_lexical_fault text lexical.MissingIdentifier lexical.UnterminatedString f g = absurd (string_no_mark text [] g f)
one_lexical_fault text lexical.MissingIdentifier lexical.MissingIdentifier f g = refl
one_lexical_fault text lexical.MissingIdentifier (lexical.UnexpectedChar d) f g = absurd (mark_no_char text d f g)
one_lexical_fault text (lexical.UnexpectedChar c) lexical.UnterminatedString f g = absurd (string_no_char text c g f)
one_lexical_fault text (lexical.UnexpectedChar c) lexical.MissingIdentifier f g = absurd (mark_no_char text c g f)
one_lexical_fault text (lexical.UnexpectedChar c) (lexical.UnexpectedChar d) f g =
    ap lexical.UnexpectedChar (one_char text c d f g)
