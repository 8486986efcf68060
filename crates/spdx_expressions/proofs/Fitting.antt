-- Which parts may follow one another: operands and operators in turn, and brackets that are closed.
use Rattle.std.proofs.Common.{◌≡◌, refl, sym, ap, subst, ℕ, suc, zero, Bool, true, false, List, [], ◌∷◌, ◌++◌}
use Rattle.std.proofs.Common.{append_assoc}
use Rattle.spdx_expressions.specs.Grammar.{tightness, in_brackets, Around, SpellsBare, Spells}
use Rattle.spdx_expressions.specs.Trees.{Tree, Single, Both, Either, Piece, Named, And, Or, Open, Close}

-- the parts may follow, by whether an operand is wanted and how many brackets are open
abbrev pub Fits : Bool → ℕ → List Piece → Type 0
Fits true n [] = ⊥
Fits true n (Named t ∷ ps) = Fits false n ps
Fits true n (Open ∷ ps) = Fits true (suc n) ps
Fits true n (Close ∷ ps) = ⊥
Fits true n (And ∷ ps) = ⊥
Fits true n (Or ∷ ps) = ⊥
Fits false n [] = n ≡ 0
Fits false n (Named t ∷ ps) = ⊥
Fits false n (Open ∷ ps) = ⊥
Fits false n (Close ∷ ps) = (m : ℕ) × (n ≡ suc m) × Fits false m ps
Fits false n (And ∷ ps) = Fits true n ps
Fits false n (Or ∷ ps) = Fits true n ps

-- ---- what spells a tree fits

-- the parts fit as an operand, before any that fit after one
abbrev pub FitAsOperand : List Piece → Type 0
FitAsOperand ps = (n : ℕ) (rest : List Piece) → Fits false n rest → Fits true n (ps ++ rest)

brackets_fit : (k : ℕ) (inner : List Piece) → FitAsOperand inner → FitAsOperand (in_brackets k inner)
brackets_fit zero inner h = h
brackets_fit (suc k) inner h = λ n rest f.
    let P : List Piece → Type 0 = Fits true (suc n) in
    subst P (sym (append_assoc (in_brackets k inner) (Close ∷ []) rest))
    (brackets_fit k inner h (suc n) (Close ∷ rest) (n, refl, f))

around_fits : (level own : ℕ) (Inner : List Piece → Type 0) (ps : List Piece)
    → ((inner : List Piece) → Inner inner → FitAsOperand inner) → Around level own Inner ps → FitAsOperand ps
around_fits level own Inner ps each (k, inner, spells, e, low) =
    let P : List Piece → Type 0 = FitAsOperand in
    subst P (sym e) (brackets_fit k inner (each inner spells))

joined_fits : (p : Piece) (ls rs ps : List Piece) → ((n : ℕ) (qs : List Piece) → Fits true n qs → Fits false n (p ∷ qs))
    → FitAsOperand ls → FitAsOperand rs → ps ≡ ls ++ p ∷ rs → FitAsOperand ps
joined_fits p ls rs ps goes_on left right e = λ n rest f.
    let P : List Piece → Type 0 = Fits true n in
    subst P (ap (λ (l : List Piece). l ++ rest) (sym e))
    (subst P (sym (append_assoc ls (p ∷ rs) rest)) (left n (p ∷ (rs ++ rest)) (goes_on n _ (right n rest f))))

bare_fits : (e : Tree) (ps : List Piece) → SpellsBare e ps → FitAsOperand ps
bare_fits (Single t) ps e = let P : List Piece → Type 0 = FitAsOperand in subst P (sym e) (λ n rest f. f)
bare_fits (Both l r) ps (ls, rs, left, right, e) = joined_fits And ls rs ps (λ n qs f. f)
    (around_fits 1 (tightness l) (SpellsBare l) ls (bare_fits l) left)
    (around_fits 2 (tightness r) (SpellsBare r) rs (bare_fits r) right) e
bare_fits (Either l r) ps (ls, rs, left, right, e) = joined_fits Or ls rs ps (λ n qs f. f)
    (around_fits 0 (tightness l) (SpellsBare l) ls (bare_fits l) left)
    (around_fits 1 (tightness r) (SpellsBare r) rs (bare_fits r) right) e

pub spells_fits : (level : ℕ) (e : Tree) (ps : List Piece) → Spells level e ps → FitAsOperand ps
spells_fits level e ps s = around_fits level (tightness e) (SpellsBare e) ps (bare_fits e) s
