-- Which parts spell which tree, and how parts are written as tokens.
use Rattle.std.specs.Prelude.{◌≡◌, ◌⊎◌, ℕ, suc, zero, ◌<◌, Bool, true, false, List, [], ◌∷◌, ◌++◌, Option, Some, None}
use Rattle.std.specs.Prelude.{codes}
use Rattle.std.specs.Prelude.{IsTrue, IfSome}
use Rattle.spdx_expressions.specs.Tokens.{Lexeme, LeftBracket, RightBracket, Slash, Word, tokens}
use Rattle.spdx_expressions.specs.Words.{is_name, is_identifier}
use Rattle.spdx_expressions.specs.Trees.{Term, Tree, Single, Both, Either, Piece, Named, And, Or, Open, Close}

-- how tightly the outermost operator of a tree binds: `OR` least, then `AND`; a licence has none
abbrev pub tightness : Tree → ℕ
tightness (Either left right) = 0
tightness (Both left right) = 1
tightness (Single t) = 2

-- this many pairs of brackets around parts
abbrev pub in_brackets : ℕ → List Piece → List Piece
in_brackets zero ps = ps
in_brackets (suc n) ps = Open ∷ (in_brackets n ps ++ Close ∷ [])

-- There may be brackets around what an expression spells bare, as many as one likes, and there are some if its own
-- operator binds less tightly than a level requires.
abbrev pub Around : ℕ → ℕ → (List Piece → Type 0) → List Piece → Type 0
Around level own SpellsInner ps =
    (n : ℕ) × (inner : List Piece) × SpellsInner inner × (ps ≡ in_brackets n inner) × (own < level → 0 < n)

-- The parts spell the tree without brackets around the whole. `AND` binds more tightly than `OR`, and equal operators
-- group to the left.
abbrev pub SpellsBare : Tree → List Piece → Type 0
SpellsBare (Single t) ps = ps ≡ Named t ∷ []
SpellsBare (Both left right) ps =
    (ls rs : List Piece) × Around 1 (tightness left) (SpellsBare left) ls
    × Around 2 (tightness right) (SpellsBare right) rs × (ps ≡ ls ++ And ∷ rs)
SpellsBare (Either left right) ps =
    (ls rs : List Piece) × Around 0 (tightness left) (SpellsBare left) ls
    × Around 1 (tightness right) (SpellsBare right) rs × (ps ≡ ls ++ Or ∷ rs)

-- the parts spell the tree at a level: its operators bind at least as tightly
abbrev pub Spells : ℕ → Tree → List Piece → Type 0
Spells level e = Around level (tightness e) (SpellsBare e)

-- a licence of the grammar: its name is a licence's name, and its exception an identifier
abbrev pub IsTerm : Term → Type 0
IsTerm t = IsTrue (is_name t.or_later t.name) × IfSome t.exception (λ e. IsTrue (is_identifier e))

-- `+` directly after a name
abbrev pub plus : Bool → List ℕ
plus true = codes "+"
plus false = []

abbrev pub exception_tokens : Option (List ℕ) → List Lexeme
exception_tokens None = []
exception_tokens (Some e) = Word (codes "WITH") ∷ Word e ∷ []

abbrev pub term_tokens : Term → List Lexeme
term_tokens t = Word (t.name ++ plus t.or_later) ∷ exception_tokens t.exception

-- the tokens of a part; a slash is an older `OR`
abbrev pub IsWritten : Piece → List Lexeme → Type 0
IsWritten (Named t) ts = IsTerm t × (ts ≡ term_tokens t)
IsWritten And ts = ts ≡ Word (codes "AND") ∷ []
IsWritten Or ts = (ts ≡ Word (codes "OR") ∷ []) ⊎ (ts ≡ Slash ∷ [])
IsWritten Open ts = ts ≡ LeftBracket ∷ []
IsWritten Close ts = ts ≡ RightBracket ∷ []

-- the tokens of parts, one after the other
abbrev pub AreWritten : List Piece → List Lexeme → Type 0
AreWritten [] ts = ts ≡ []
AreWritten (p ∷ ps) ts =
    (first rest : List Lexeme) × IsWritten p first × AreWritten ps rest × (ts ≡ first ++ rest)

-- tokens spell a tree
abbrev pub SpellTree : List Lexeme → Tree → Type 0
SpellTree ts e = (ps : List Piece) × AreWritten ps ts × Spells 0 e ps

-- a text spells a tree
abbrev pub IsTreeText : List ℕ → Tree → Type 0
IsTreeText text e = SpellTree (tokens text) e

-- a text is one licence
abbrev pub IsLicenceText : List ℕ → Term → Type 0
IsLicenceText text t = IsTerm t × (tokens text ≡ term_tokens t)

-- the licences among parts are licences of the grammar
abbrev pub AreTerms : List Piece → Type 0
AreTerms [] = Unit {0}
AreTerms (Named t ∷ ps) = IsTerm t × AreTerms ps
AreTerms (And ∷ ps) = AreTerms ps
AreTerms (Or ∷ ps) = AreTerms ps
AreTerms (Open ∷ ps) = AreTerms ps
AreTerms (Close ∷ ps) = AreTerms ps

-- parts that some text spells: they spell a tree, and their licences are those of the grammar
abbrev pub IsWellFormed : List Piece → Type 0
IsWellFormed ps = (t : Tree) × Spells 0 t ps × AreTerms ps
