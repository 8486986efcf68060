-- Parts spell one tree at most: a machine that reads them comes to it.
use Rattle.std.proofs.Common.{◌≡◌, refl, sym, ap, ◌∙◌, subst, ℕ, suc, zero, ◌<◌, List, []}
use Rattle.std.proofs.Common.{◌∷◌}
use Rattle.std.proofs.Common.{◌++◌, append_assoc, Option, Some, None, arith}
use Rattle.spdx_expressions.specs.Trees.{Tree, Single, Both, Either, Piece, Named, And, Or, Open, Close}
use Rattle.spdx_expressions.specs.Grammar.{in_brackets, SpellsBare, Spells}

-- what is before an operand in its bracket
record Frame : Type 0 where
  before_or : Option Tree
  before_and : Option Tree

data State : Type 0 where
  Want : (f : Frame) (outer : List Frame) → State
  Have : (o : Option Tree) (e : Tree) (outer : List Frame) → State

abbrev both : Option Tree → Tree → Tree
both None e = e
both (Some l) e = Both l e

abbrev either : Option Tree → Tree → Tree
either None e = e
either (Some l) e = Either l e

abbrev frame : Option Tree → Option Tree → Frame
frame o a = record { before_or = o; before_and = a }

abbrev step : State → Piece → Option State
step (Want f s) (Named t) = Some (Have f.before_or (both f.before_and (Single t)) s)
step (Want f s) Open = Some (Want (frame None None) (f ∷ s))
step (Want f s) And = None
step (Want f s) Or = None
step (Want f s) Close = None
step (Have o e s) (Named t) = None
step (Have o e s) Open = None
step (Have o e s) And = Some (Want (frame o (Some e)) s)
step (Have o e s) Or = Some (Want (frame (Some (either o e)) None) s)
step (Have o e []) Close = None
step (Have o e (f ∷ s)) Close = Some (Have f.before_or (both f.before_and (either o e)) s)

abbrev run : Option State → List Piece → Option State
run None ps = None
run (Some s) [] = Some s
run (Some s) (p ∷ ps) = run (step s p) ps

want : Option Tree → Option Tree → List Frame → List Piece → Option State
want o a s ps = run (Some (Want (frame o a) s)) ps

have : Option Tree → Tree → List Frame → List Piece → Option State
have o e s ps = run (Some (Have o e s)) ps

-- ---- the parts are read as the tree, at each level

abbrev ReadsUnit : Tree → List Piece → Type 0
ReadsUnit e ps = (o a : Option Tree) (s : List Frame) (rest : List Piece)
    → run (Some (Want (frame o a) s)) (ps ++ rest) ≡ run (Some (Have o (both a e) s)) rest

abbrev ReadsTerm : Tree → List Piece → Type 0
ReadsTerm e ps = (o : Option Tree) (s : List Frame) (rest : List Piece)
    → run (Some (Want (frame o None) s)) (ps ++ rest) ≡ run (Some (Have o e s)) rest

abbrev ReadsWhole : Tree → List Piece → Type 0
ReadsWhole e ps = (s : List Frame) (rest : List Piece) → (o : Option Tree) × (x : Tree) × (either o x ≡ e)
    × (run (Some (Want (frame None None) s)) (ps ++ rest) ≡ run (Some (Have o x s)) rest)

unit_term : (e : Tree) (ps : List Piece) → ReadsUnit e ps → ReadsTerm e ps
unit_term e ps u = λ o s rest. u o None s rest

term_whole : (e : Tree) (ps : List Piece) → ReadsTerm e ps → ReadsWhole e ps
term_whole e ps t = λ s rest. (None, e, refl, t None s rest)

-- brackets make any expression an operand
bracket : (e : Tree) (ps : List Piece) → ReadsWhole e ps → ReadsUnit e (Open ∷ (ps ++ Close ∷ []))
bracket e ps w = λ o a s rest.
    let inside = w (frame o a ∷ s) (Close ∷ rest) in
    let P : Tree → Type 0 = λ x. run (Some (Want (frame o a) s)) (Open ∷ ((ps ++ Close ∷ []) ++ rest))
    ≡ run (Some (Have o (both a x) s)) rest in
    subst P inside.2
    (ap (λ (l : List Piece). run (Some (Want (frame None None) (frame o a ∷ s))) l) (append_assoc ps (Close ∷ []) rest)
    ∙ inside.3)

brackets : (k : ℕ) (e : Tree) (ps : List Piece) → ReadsWhole e ps → ReadsWhole e (in_brackets k ps)
brackets zero e ps w = w
brackets (suc k) e ps w =
    let all : List Piece = in_brackets (suc k) ps in
    term_whole e all (unit_term e all (bracket e (in_brackets k ps) (brackets k e ps w)))

-- by the tightness of the tree's own operator
abbrev ReadsBare : Tree → List Piece → Type 0
ReadsBare (Single t) ps = ReadsUnit (Single t) ps
ReadsBare (Both l r) ps = ReadsTerm (Both l r) ps
ReadsBare (Either l r) ps = ReadsWhole (Either l r) ps

bare_whole : (e : Tree) (ps : List Piece) → ReadsBare e ps → ReadsWhole e ps
bare_whole (Single t) ps b = term_whole _ ps (unit_term _ ps b)
bare_whole (Both l r) ps b = term_whole _ ps b
bare_whole (Either l r) ps b = b

abbrev IsReadBare : Tree → Type 0
IsReadBare e = (ps : List Piece) → SpellsBare e ps → ReadsBare e ps

whole_around : (e : Tree) (ps : List Piece) → IsReadBare e → Spells 0 e ps → ReadsWhole e ps
whole_around e ps each (k, inner, spells, is, low) =
    let P : List Piece → Type 0 = ReadsWhole e in
    subst P (sym is) (brackets k e inner (bare_whole e inner (each inner spells)))

unit_around : (e : Tree) (ps : List Piece) → IsReadBare e → Spells 2 e ps → ReadsUnit e ps
unit_around e ps each (suc k, inner, spells, is, low) =
    let P : List Piece → Type 0 = ReadsUnit e in
    subst P (sym is) (bracket e (in_brackets k inner) (brackets k e inner (bare_whole e inner (each inner spells))))
unit_around (Single t) ps each (zero, inner, spells, is, low) =
    let P : List Piece → Type 0 = ReadsUnit (Single t) in subst P (sym is) (each inner spells)
unit_around (Both l r) ps each (zero, inner, spells, is, low) =
    let none : 0 < 0 = low (omega arith) in absurd (omega arith)
unit_around (Either l r) ps each (zero, inner, spells, is, low) =
    let none : 0 < 0 = low (omega arith) in absurd (omega arith)

term_around : (e : Tree) (ps : List Piece) → IsReadBare e → Spells 1 e ps → ReadsTerm e ps
term_around e ps each (suc k, inner, spells, is, low) =
    let P : List Piece → Type 0 = ReadsTerm e in
    let all : List Piece = in_brackets (suc k) inner in
    subst P (sym is) (unit_term e all
    (bracket e (in_brackets k inner) (brackets k e inner (bare_whole e inner (each inner spells)))))
term_around (Single t) ps each (zero, inner, spells, is, low) =
    let P : List Piece → Type 0 = ReadsTerm (Single t) in subst P (sym is) (unit_term _ inner (each inner spells))
term_around (Both l r) ps each (zero, inner, spells, is, low) =
    let P : List Piece → Type 0 = ReadsTerm (Both l r) in subst P (sym is) (each inner spells)
term_around (Either l r) ps each (zero, inner, spells, is, low) =
    let none : 0 < 0 = low (omega arith) in absurd (omega arith)

bare_reads : (e : Tree) → IsReadBare e
bare_reads (Single t) ps is = let P : List Piece → Type 0 = ReadsUnit (Single t) in subst P (sym is)
    (λ o a s rest. refl)
bare_reads (Both l r) ps (ls, rs, left, right, is) =
    let P : List Piece → Type 0 = ReadsTerm (Both l r) in
    subst P (sym is) (λ o s rest.
    ap (λ (q : List Piece). run (Some (Want (frame o None) s)) q) (append_assoc ls (And ∷ rs) rest)
    ∙ term_around l ls (bare_reads l) left o s (And ∷ (rs ++ rest))
    ∙ unit_around r rs (bare_reads r) right o (Some l) s rest)
bare_reads (Either l r) ps (ls, rs, left, right, is) =
    let P : List Piece → Type 0 = ReadsWhole (Either l r) in
    subst P (sym is) (λ s rest.
    let w = whole_around l ls (bare_reads l) left s (Or ∷ (rs ++ rest)) in (
      Some l,
      r,
      refl,
      ap (λ (q : List Piece). run (Some (Want (frame None None) s)) q) (append_assoc ls (Or ∷ rs) rest)
          ∙ w.3
          ∙ ap (λ (x : Tree). run (Some (Want (frame (Some x) None) s)) (rs ++ rest)) w.2
          ∙ term_around r rs (bare_reads r) right (Some l) s rest,
    ))

-- the tree that the machine came to, or else another
abbrev result : Tree → Option State → Tree
result d None = d
result d (Some (Want f s)) = d
result d (Some (Have o e s)) = either o e

pub one_tree : (ps : List Piece) (t u : Tree) → Spells 0 t ps → Spells 0 u ps → t ≡ u
one_tree ps t u first second =
    let a = whole_around t ps (bare_reads t) first [] [] in
    let b = whole_around u ps (bare_reads u) second [] [] in
    sym a.2 ∙ ap (result t) (sym a.3 ∙ b.3) ∙ b.2
