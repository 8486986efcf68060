-- The printed text of a well-formed tree spells it.
use Rattle.std.proofs.Common.{◌≡◌, refl, sym, ap, subst, ◌∙◌, ℕ, ◌+◌, ◌≤◌, Bool, true, false, not, ◌&&◌, List, []}
use Rattle.std.proofs.Common.{◌∷◌, ◌++◌, codes, inl, inr, append_assoc, append-nil, arith, length, drop, map}
use Rattle.std.proofs.Common.{length-drop}
use Rattle.std.proofs.Math.Bool.{and-false}
use Rattle.std.specs.Prelude.{IsTrue, IsFalse, bytes_eq, ◌==◌}
use Rattle.std.specs.List.{list_all}
use Rattle.cargo_platform.specs.Chars.{is_identifier_rest, is_space, starts}
use Rattle.cargo_platform.specs.Tokens.{Lexeme, LeftParen, RightParen, Ident, Comma, Equals, String, written}
use Rattle.cargo_platform.specs.Tokens.{IsWellWritten, Placed}
use Rattle.cargo_platform.specs.Cut.{EndsBefore, Nothing, IsCutFrom, lexemes}
use Rattle.cargo_platform.specs.Trees.{CfgValue, Alone, KeyPair, Tree, Not, All, Any, Value, True, False, Trees, none}
use Rattle.cargo_platform.specs.Trees.{tree}
use Rattle.cargo_platform.specs.Spelling.{value_spelling, group, Spells, SpellMembers}
use Rattle.cargo_platform.specs.Spelling.{IsValueText, IsTreeText}
use Rattle.cargo_platform.specs.WellFormed.{IsWellFormedValue, IsWellFormed, AreWellFormed}
use Rattle.cargo_platform.specs.Print.{print_name, print_value, print, print_members}
use Rattle.cargo_platform.proofs.SomeCut.{piece_at, rest_at, cut_cons}
use Rattle.cargo_platform.proofs.Scanning.{no_spaces}

-- a token, with a space before it or not
record Piece : Type 0 where
  space : Bool
  token : Lexeme

abbrev piece : Bool → Lexeme → Piece
piece b t = record { space = b; token = t }

abbrev gap : Bool → List ℕ
gap true = codes " "
gap false = []

abbrev laid : List Piece → List ℕ
laid [] = []
laid (p ∷ ps) = gap p.space ++ (written p.token ++ laid ps)

abbrev tokens : List Piece → List Lexeme
tokens ps = map (λ p. p.token) ps

-- each token is well written, and ends before what follows
abbrev AreSeparate : List Piece → Type 0
AreSeparate [] = Unit {0}
AreSeparate (p ∷ ps) = IsWellWritten p.token × EndsBefore p.token (laid ps) × AreSeparate ps

record CutAs (text : List ℕ) (from : ℕ) (ts : List Lexeme) : Type 0 where
  places : List Placed
  cut : IsCutFrom text from places (length text)
  are : lexemes places ≡ ts

gap_is : (b : Bool) → IsTrue (list_all is_space (gap b))
gap_is true = refl
gap_is false = refl

-- what is laid so is cut so
cut_laid : (text : List ℕ) (from : ℕ) (ps : List Piece) → from ≤ length text → drop from text ≡ laid ps
    → AreSeparate ps → CutAs text from (tokens ps)
cut_laid text from [] le h s =
    let end : from ≡ length text = omega (arith, le, ap length h, length-drop from text) in
    record {
      places = [];
      are = refl;
      cut = record { last = Nothing; no_token = refl; comes = (rw (← end) (no_spaces text from le), refl) };
    }
cut_laid text from (p ∷ ps) le h s =
    let at = from + length (gap p.space) in
    let end = at + length (written p.token) in
    let space = piece_at text from (gap p.space) (written p.token ++ laid ps) le h in
    let here : drop at text ≡ written p.token ++ laid ps = rest_at text from (gap p.space)
    (written p.token ++ laid ps) h in
    let word = piece_at text at (written p.token) (laid ps) space.inside here in
    let behind : drop end text ≡ laid ps = rest_at text at (written p.token) (laid ps) here in
    let others = cut_laid text end ps word.inside behind s.2 in
    let t : Placed = record { token = p.token; start = at; end = end } in
    record {
      places = t ∷ others.places;
      are = ap (λ z. p.token ∷ z) others.are;
      cut = cut_cons text from (length text) t others.places (gap p.space, space, gap_is p.space) (s.0, word)
          (rw behind s.1) others.cut;
    }

-- ---- the tokens of a printed tree, and then ps

abbrev value_pieces : Bool → CfgValue → List Piece → List Piece
value_pieces b (Alone n) ps = piece b (Ident n.raw n.name) ∷ ps
value_pieces b (KeyPair k v) ps = piece b (Ident k.raw k.name) ∷ piece true Equals ∷ piece true (String v) ∷ ps

abbrev mutual
  pieces : Tree → Bool → List Piece → List Piece
  pieces (Not e) b ps =
      piece b (Ident false (codes "not")) ∷ piece false LeftParen ∷ pieces e false (piece false RightParen ∷ ps)
  pieces (All es) b ps =
      piece b (Ident false (codes "all")) ∷ piece false LeftParen ∷ members false es (piece false RightParen ∷ ps)
  pieces (Any es) b ps =
      piece b (Ident false (codes "any")) ∷ piece false LeftParen ∷ members false es (piece false RightParen ∷ ps)
  pieces (Value c) b ps = value_pieces b c ps
  pieces True b ps = piece b (Ident false (codes "true")) ∷ ps
  pieces False b ps = piece b (Ident false (codes "false")) ∷ ps

  members : Bool → Trees → List Piece → List Piece
  members b none ps = ps
  members b (tree e es) ps = pieces e b (others es ps)

  others : Trees → List Piece → List Piece
  others none ps = ps
  others (tree e es) ps = piece false Comma ∷ pieces e true (others es ps)

laid_pair : (k v rest : List ℕ)
    → k ++ (codes " = " ++ ((codes "\"" ++ v ++ codes "\"") ++ rest)) ≡ (k ++ codes " = \"" ++ v ++ codes "\"") ++ rest
laid_pair k v rest =
    let q = codes " = \"" in
    let w = codes "\"" in
    ap (λ (z : List ℕ). k ++ (q ++ z)) (append_assoc v w rest) ∙ sym (append_assoc k q (v ++ (w ++ rest)))
    ∙ sym (append_assoc (k ++ q) v (w ++ rest)) ∙ sym (append_assoc ((k ++ q) ++ v) w rest)

-- what is printed of the members after the first
abbrev printed_others : Trees → List ℕ
printed_others none = []
printed_others (tree e es) = codes ", " ++ print_members (tree e es)

members_printed : (e : Tree) (es : Trees) → print e ++ printed_others es ≡ print_members (tree e es)
members_printed e none = append-nil (print e)
members_printed e (tree d es) = sym (append_assoc (print e) (codes ", ") (print_members (tree d es)))

mutual
  laid_is : (e : Tree) (b : Bool) (ps : List Piece) → laid (pieces e b ps) ≡ gap b ++ (print e ++ laid ps)
  laid_is (Not e) b ps =
      ap (λ (z : List ℕ). gap b ++ (codes "not(" ++ z))
      (laid_is e false (piece false RightParen ∷ ps) ∙ sym (append_assoc (print e) (codes ")") (laid ps)))
  laid_is (All es) b ps =
      ap (λ (z : List ℕ). gap b ++ (codes "all(" ++ z))
      (laid_members es (piece false RightParen ∷ ps) ∙ sym (append_assoc (print_members es) (codes ")") (laid ps)))
  laid_is (Any es) b ps =
      ap (λ (z : List ℕ). gap b ++ (codes "any(" ++ z))
      (laid_members es (piece false RightParen ∷ ps) ∙ sym (append_assoc (print_members es) (codes ")") (laid ps)))
  laid_is (Value (Alone n)) b ps = refl
  laid_is (Value (KeyPair k v)) b ps = ap (λ (z : List ℕ). gap b ++ z) (laid_pair (print_name k) v (laid ps))
  laid_is True b ps = refl
  laid_is False b ps = refl

  laid_members : (es : Trees) (ps : List Piece) → laid (members false es ps) ≡ print_members es ++ laid ps
  laid_members none ps = refl
  laid_members (tree e es) ps =
      laid_is e false (others es ps) ∙ ap (λ (z : List ℕ). print e ++ z) (laid_others es ps)
      ∙ sym (append_assoc (print e) (printed_others es) (laid ps))
      ∙ ap (λ (z : List ℕ). z ++ laid ps) (members_printed e es)

  laid_others : (es : Trees) (ps : List Piece) → laid (others es ps) ≡ printed_others es ++ laid ps
  laid_others none ps = refl
  laid_others (tree e es) ps =
      ap (λ (z : List ℕ). codes "," ++ z) (laid_is e true (others es ps))
      ∙ ap (λ (z : List ℕ). codes ", " ++ z)
      (ap (λ (z : List ℕ). print e ++ z) (laid_others es ps)
      ∙ sym (append_assoc (print e) (printed_others es) (laid ps))
      ∙ ap (λ (z : List ℕ). z ++ laid ps) (members_printed e es))

-- ---- what follows a printed tree ends its last token

abbrev IsClean : List Piece → Type 0
IsClean ps = IsFalse (starts is_identifier_rest (laid ps)) × IsFalse (starts (λ c. c == 0x23) (laid ps))

ends : (raw : Bool) (name rest : List ℕ) → IsFalse (starts is_identifier_rest rest)
    → IsFalse (starts (λ c. c == 0x23) rest) → EndsBefore (Ident raw name) rest
ends raw name rest a b =
    (a, ap (λ v. not raw && bytes_eq name (codes "r") && v) b ∙ and-false (not raw && bytes_eq name (codes "r")))

others_clean : (es : Trees) (ps : List Piece) → IsClean ps → IsClean (others es ps)
others_clean none ps c = c
others_clean (tree e es) ps c = (refl, refl)

value_separate : (c : CfgValue) (b : Bool) (ps : List Piece) → IsWellFormedValue c → IsClean ps → AreSeparate ps
    → AreSeparate (value_pieces b c ps)
value_separate (Alone n) b ps w c s = (w, ends n.raw n.name (laid ps) c.0 c.1, s)
value_separate (KeyPair k v) b ps w c s =
    (w.0, ends k.raw k.name (laid (piece true Equals ∷ piece true (String v) ∷ ps)) refl refl, (tt, tt, (w.1, tt, s)))

mutual
  separate : (e : Tree) (b : Bool) (ps : List Piece) → IsWellFormed e → IsClean ps → AreSeparate ps
      → AreSeparate (pieces e b ps)
  separate (Not e) b ps w c s =
      ((refl, refl), (refl, refl), (tt, tt, separate e false (piece false RightParen ∷ ps) w (refl, refl) (tt, tt, s)))
  separate (All es) b ps w c s = (
    (refl, refl),
    (refl, refl),
    (tt, tt, separate_members es (piece false RightParen ∷ ps) w (refl, refl) (tt, tt, s)),
  )
  separate (Any es) b ps w c s = (
    (refl, refl),
    (refl, refl),
    (tt, tt, separate_members es (piece false RightParen ∷ ps) w (refl, refl) (tt, tt, s)),
  )
  separate (Value v) b ps w c s = value_separate v b ps w.0 c s
  separate True b ps w c s = ((refl, refl), ends false (codes "true") (laid ps) c.0 c.1, s)
  separate False b ps w c s = ((refl, refl), ends false (codes "false") (laid ps) c.0 c.1, s)

  separate_members : (es : Trees) (ps : List Piece) → AreWellFormed es → IsClean ps → AreSeparate ps
      → AreSeparate (members false es ps)
  separate_members none ps w c s = s
  separate_members (tree e es) ps w c s =
      separate e false (others es ps) w.0 (others_clean es ps c) (separate_others es ps w.1 c s)

  separate_others : (es : Trees) (ps : List Piece) → AreWellFormed es → IsClean ps → AreSeparate ps
      → AreSeparate (others es ps)
  separate_others none ps w c s = s
  separate_others (tree e es) ps w c s =
      (tt, tt, separate e true (others es ps) w.0 (others_clean es ps c) (separate_others es ps w.1 c s))

-- ---- the tokens of a printed tree spell it

abbrev Spelled : Tree → List Lexeme → List Lexeme → Type 0
Spelled e ts after = (s : List Lexeme) × Spells e s × (ts ≡ s ++ after)

group_is : (w : List ℕ) (inner after : List Lexeme)
    → Ident false w ∷ LeftParen ∷ (inner ++ (RightParen ∷ after)) ≡ group w inner ++ after
group_is w inner after =
    ap (λ (z : List Lexeme). Ident false w ∷ LeftParen ∷ z) (sym (append_assoc inner (RightParen ∷ []) after))

value_spelled : (c : CfgValue) (b : Bool) (ps : List Piece) → IsWellFormed (Value c)
    → Spelled (Value c) (tokens (value_pieces b c ps)) (tokens ps)
value_spelled (Alone n) b ps w = (Ident n.raw n.name ∷ [], (refl, w.1), refl)
value_spelled (KeyPair k v) b ps w = (Ident k.raw k.name ∷ Equals ∷ String v ∷ [], (refl, w.1), refl)

mutual
  spelled : (e : Tree) (b : Bool) (ps : List Piece) → IsWellFormed e → Spelled e (tokens (pieces e b ps)) (tokens ps)
  spelled (Not e) b ps w =
      let r = spelled e false (piece false RightParen ∷ ps) w in (
        group (codes "not") r.0,
        (r.0, r.1, refl),
        ap (λ (z : List Lexeme). Ident false (codes "not") ∷ LeftParen ∷ z) r.2
            ∙ group_is (codes "not") r.0 (tokens ps),
      )
  spelled (All es) b ps w =
      let r = spelled_members es false (piece false RightParen ∷ ps) w in (
        group (codes "all") r.0,
        (r.0, r.1, refl),
        ap (λ (z : List Lexeme). Ident false (codes "all") ∷ LeftParen ∷ z) r.2
            ∙ group_is (codes "all") r.0 (tokens ps),
      )
  spelled (Any es) b ps w =
      let r = spelled_members es false (piece false RightParen ∷ ps) w in (
        group (codes "any") r.0,
        (r.0, r.1, refl),
        ap (λ (z : List Lexeme). Ident false (codes "any") ∷ LeftParen ∷ z) r.2
            ∙ group_is (codes "any") r.0 (tokens ps),
      )
  spelled (Value c) b ps w = value_spelled c b ps w
  spelled True b ps w = (Ident false (codes "true") ∷ [], refl, refl)
  spelled False b ps w = (Ident false (codes "false") ∷ [], refl, refl)

  spelled_members : (es : Trees) (b : Bool) (ps : List Piece) → AreWellFormed es
      → (inner : List Lexeme) × SpellMembers es inner × (tokens (members b es ps) ≡ inner ++ tokens ps)
  spelled_members none b ps w = ([], refl, refl)
  spelled_members (tree e none) b ps w =
      let r = spelled e b ps w.0 in
      (r.0, (r.0, r.1, inl (refl, refl)), r.2)
  spelled_members (tree e (tree f es)) b ps w =
      let r = spelled e b (others (tree f es) ps) w.0 in
      let o = spelled_members (tree f es) true ps w.1 in (
        r.0 ++ Comma ∷ o.0,
        (r.0, r.1, inr (o.0, refl, o.1)),
        r.2
            ∙ ap (λ (z : List Lexeme). r.0 ++ (Comma ∷ z)) o.2 ∙ sym (append_assoc r.0 (Comma ∷ o.0) (tokens ps)),
      )

-- the tokens of a tree as it is printed
abbrev pub canonical : Tree → List Lexeme
canonical e = tokens (pieces e false [])

pub canonical_spells : (e : Tree) → IsWellFormed e → Spells e (canonical e)
canonical_spells e w =
    let r = spelled e false [] w in
    subst (λ ts. Spells e ts) (sym (r.2 ∙ append-nil r.0)) r.1

-- The printed text of a well-formed tree is accepted, with that tree.
pub printed_spells : (e : Tree) → IsWellFormed e → IsTreeText (print e) e
printed_spells e w =
    let text : laid (pieces e false []) ≡ print e = laid_is e false [] ∙ append-nil (print e) in
    let c = cut_laid (print e) 0 (pieces e false []) (omega arith) (sym text) (separate e false [] w (refl, refl) tt) in
    (c.places, c.cut, subst (λ ts. Spells e ts) (sym c.are) (canonical_spells e w))

value_tokens : (c : CfgValue) → tokens (value_pieces false c []) ≡ value_spelling c
value_tokens (Alone n) = refl
value_tokens (KeyPair k v) = refl

-- The printed text of a well-formed value is accepted, with that value.
pub printed_value_spells : (c : CfgValue) → IsWellFormedValue c → IsValueText (print_value c) c
printed_value_spells c w =
    let text : laid (value_pieces false c []) ≡ print_value c = laid_is (Value c) false []
    ∙ append-nil (print_value c) in
    let cut = cut_laid (print_value c) 0 (value_pieces false c []) (omega arith) (sym text)
    (value_separate c false [] w (refl, refl) tt) in
    (cut.places, cut.cut, cut.are ∙ value_tokens c)
