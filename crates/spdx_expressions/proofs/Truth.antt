-- Going over the parts of an expression gives the truth of its tree.
use Rattle.std.proofs.Common.{◌≡◌, ◌⊎◌, inl, inr, refl, sym, ap, ◌∙◌, subst, ℕ, suc, zero, ◌<◌, Bool, true, false}
use Rattle.std.proofs.Common.{List, [], ◌∷◌, ◌++◌, append_assoc, append-nil, arith, add-one}
use Rattle.std.specs.Prelude.{◌&&◌, ◌||◌}
use Rattle.spdx_expressions.specs.Trees.{Term, Tree, Single, Both, Either, Piece, And, Or, Open, Close}
use Rattle.spdx_expressions.specs.Grammar.{in_brackets, SpellsBare, Spells}
use Rattle.spdx_expressions.specs.Allowed.{truth}
use Rattle.spdx_expressions.specs.Inside.Walking.{Walk, live, passes, walk}

-- ---- what is passed over

-- inside a bracket that is passed over nothing changes
abbrev PassedInside : (Term → Bool) → List Piece → Type 0
PassedInside holds ps = (v : Bool) (d : ℕ) (rest : List Piece)
    → walk holds (passes v (suc d)) (ps ++ rest) ≡ walk holds (passes v (suc d)) rest

-- nor outside, where no `OR` is
abbrev PassedFlat : (Term → Bool) → List Piece → Type 0
PassedFlat holds ps = (v : Bool) (d : ℕ) (rest : List Piece)
    → walk holds (passes v d) (ps ++ rest) ≡ walk holds (passes v d) rest

bracket_passed : (holds : Term → Bool) (ps : List Piece) → PassedInside holds ps
    → PassedFlat holds (Open ∷ (ps ++ Close ∷ []))
bracket_passed holds ps inside v d rest =
    ap (λ (n : ℕ). walk holds (passes v n) ((ps ++ Close ∷ []) ++ rest)) (add-one d)
    ∙ ap (walk holds (passes v (suc d))) (append_assoc ps (Close ∷ []) rest)
    ∙ inside v d (Close ∷ rest)

flat_inside : (holds : Term → Bool) (ps : List Piece) → PassedFlat holds ps → PassedInside holds ps
flat_inside holds ps flat = λ v d rest. flat v (suc d) rest

brackets_inside : (holds : Term → Bool) (k : ℕ) (ps : List Piece) → PassedInside holds ps
    → PassedInside holds (in_brackets k ps)
brackets_inside holds zero ps inside = inside
brackets_inside holds (suc k) ps inside =
    flat_inside holds (in_brackets (suc k) ps)
    (bracket_passed holds (in_brackets k ps) (brackets_inside holds k ps inside))

-- by the tree's own operator
abbrev PassedBare : (Term → Bool) → Tree → List Piece → Type 0
PassedBare holds (Single t) ps = PassedFlat holds ps
PassedBare holds (Both l r) ps = PassedFlat holds ps
PassedBare holds (Either l r) ps = PassedInside holds ps

bare_inside : (holds : Term → Bool) (e : Tree) (ps : List Piece) → PassedBare holds e ps → PassedInside holds ps
bare_inside holds (Single t) ps b = flat_inside holds ps b
bare_inside holds (Both l r) ps b = flat_inside holds ps b
bare_inside holds (Either l r) ps b = b

abbrev IsPassedBare : (Term → Bool) → Tree → Type 0
IsPassedBare holds e = (ps : List Piece) → SpellsBare e ps → PassedBare holds e ps

inside_around : (holds : Term → Bool) (level : ℕ) (e : Tree) (ps : List Piece) → IsPassedBare holds e
    → Spells level e ps → PassedInside holds ps
inside_around holds level e ps each (k, inner, spells, is, low) =
    let P : List Piece → Type 0 = PassedInside holds in
    subst P (sym is) (brackets_inside holds k inner (bare_inside holds e inner (each inner spells)))

flat_around : (holds : Term → Bool) (level : ℕ) (e : Tree) (ps : List Piece) → IsPassedBare holds e → 0 < level
    → Spells level e ps → PassedFlat holds ps
flat_around holds level e ps each high (suc k, inner, spells, is, low) =
    let P : List Piece → Type 0 = PassedFlat holds in
    subst P (sym is) (bracket_passed holds (in_brackets k inner)
    (brackets_inside holds k inner (bare_inside holds e inner (each inner spells))))
flat_around holds level (Single t) ps each high (zero, inner, spells, is, low) =
    let P : List Piece → Type 0 = PassedFlat holds in subst P (sym is) (each inner spells)
flat_around holds level (Both l r) ps each high (zero, inner, spells, is, low) =
    let P : List Piece → Type 0 = PassedFlat holds in subst P (sym is) (each inner spells)
flat_around holds level (Either l r) ps each high (zero, inner, spells, is, low) =
    let none : 0 < 0 = low high in absurd (omega arith)

bare_passed : (holds : Term → Bool) (e : Tree) → IsPassedBare holds e
bare_passed holds (Single t) ps is =
    let P : List Piece → Type 0 = PassedFlat holds in subst P (sym is) (λ v d rest. refl)
bare_passed holds (Both l r) ps (ls, rs, left, right, is) =
    let P : List Piece → Type 0 = PassedFlat holds in
    let one : 0 < 1 = omega arith in
    let two : 0 < 2 = omega arith in
    subst P (sym is) (λ v d rest.
    ap (walk holds (passes v d)) (append_assoc ls (And ∷ rs) rest)
    ∙ flat_around holds 1 l ls (bare_passed holds l) one left v d (And ∷ (rs ++ rest))
    ∙ flat_around holds 2 r rs (bare_passed holds r) two right v d rest)
bare_passed holds (Either l r) ps (ls, rs, left, right, is) =
    let P : List Piece → Type 0 = PassedInside holds in
    subst P (sym is) (λ v d rest.
    ap (walk holds (passes v (suc d))) (append_assoc ls (Or ∷ rs) rest)
    ∙ inside_around holds 0 l ls (bare_passed holds l) left v d (Or ∷ (rs ++ rest))
    ∙ or_passed v d (rs ++ rest)
    ∙ inside_around holds 1 r rs (bare_passed holds r) right v d rest)
  where
    or_passed : (v : Bool) (d : ℕ) (qs : List Piece)
        → walk holds (passes v (suc d)) (Or ∷ qs) ≡ walk holds (passes v (suc d)) qs
    or_passed true d qs = refl
    or_passed false d qs = refl

term_passed : (holds : Term → Bool) (e : Tree) (ps : List Piece) → Spells 1 e ps → PassedFlat holds ps
term_passed holds e ps s = let one : 0 < 1 = omega arith in flat_around holds 1 e ps (bare_passed holds e) one s

unit_passed : (holds : Term → Bool) (e : Tree) (ps : List Piece) → Spells 2 e ps → PassedFlat holds ps
unit_passed holds e ps s = let two : 0 < 2 = omega arith in flat_around holds 2 e ps (bare_passed holds e) two s

-- ---- what is gone into

-- after an operand the truth is known
abbrev GivesUnit : (Term → Bool) → Bool → List Piece → Type 0
GivesUnit holds v ps = (u : Bool) (rest : List Piece) → walk holds (live u) (ps ++ rest) ≡ walk holds (live v) rest

-- after operands that `AND` joins, what else it joins may be passed over, where the truth is false
abbrev IsTermEnd : Bool → Walk → Type 0
IsTermEnd v w = (w ≡ live v) ⊎ ((v ≡ false) × (w ≡ passes false 0))

abbrev GivesTerm : (Term → Bool) → Bool → List Piece → Type 0
GivesTerm holds v ps = (u : Bool) (rest : List Piece)
    → (w : Walk) × IsTermEnd v w × (walk holds (live u) (ps ++ rest) ≡ walk holds w rest)

-- and after those that `OR` joins in any case
abbrev IsWholeEnd : Bool → Walk → Type 0
IsWholeEnd v w = (w ≡ live v) ⊎ (w ≡ passes v 0)

abbrev GivesWhole : (Term → Bool) → Bool → List Piece → Type 0
GivesWhole holds v ps = (u : Bool) (rest : List Piece)
    → (w : Walk) × IsWholeEnd v w × (walk holds (live u) (ps ++ rest) ≡ walk holds w rest)

unit_term : (holds : Term → Bool) (v : Bool) (ps : List Piece) → GivesUnit holds v ps → GivesTerm holds v ps
unit_term holds v ps g = λ u rest. (live v, inl refl, g u rest)

term_whole : (holds : Term → Bool) (v : Bool) (ps : List Piece) → GivesTerm holds v ps → GivesWhole holds v ps
term_whole holds v ps g = λ u rest. let h = g u rest in (h.0, whole_end v h.0 h.1, h.2)
  where
    whole_end : (v : Bool) (w : Walk) → IsTermEnd v w → IsWholeEnd v w
    whole_end v w (inl is) = inl is
    whole_end v w (inr (off, is)) = inr (is ∙ ap (λ (b : Bool). passes b 0) (sym off))

bracket_gives : (holds : Term → Bool) (v : Bool) (ps : List Piece) → GivesWhole holds v ps
    → GivesUnit holds v (Open ∷ (ps ++ Close ∷ []))
bracket_gives holds v ps g = λ u rest.
    let h = g u (Close ∷ rest) in
    ap (walk holds (live u)) (append_assoc ps (Close ∷ []) rest) ∙ h.2 ∙ shut h.0 h.1 rest
  where
    shut : (w : Walk) → IsWholeEnd v w → (rest : List Piece) → walk holds w (Close ∷ rest) ≡ walk holds (live v) rest
    shut w (inl is) rest = ap (λ (x : Walk). walk holds x (Close ∷ rest)) is
    shut w (inr is) rest = ap (λ (x : Walk). walk holds x (Close ∷ rest)) is

brackets_give : (holds : Term → Bool) (v : Bool) (k : ℕ) (ps : List Piece) → GivesWhole holds v ps
    → GivesWhole holds v (in_brackets k ps)
brackets_give holds v zero ps g = g
brackets_give holds v (suc k) ps g =
    let all : List Piece = in_brackets (suc k) ps in
    term_whole holds v all (unit_term holds v all
    (bracket_gives holds v (in_brackets k ps) (brackets_give holds v k ps g)))

abbrev GivesBare : (Term → Bool) → Tree → List Piece → Type 0
GivesBare holds (Single t) ps = GivesUnit holds (truth holds (Single t)) ps
GivesBare holds (Both l r) ps = GivesTerm holds (truth holds (Both l r)) ps
GivesBare holds (Either l r) ps = GivesWhole holds (truth holds (Either l r)) ps

bare_whole : (holds : Term → Bool) (e : Tree) (ps : List Piece) → GivesBare holds e ps
    → GivesWhole holds (truth holds e) ps
bare_whole holds (Single t) ps b = term_whole holds _ ps (unit_term holds _ ps b)
bare_whole holds (Both l r) ps b = term_whole holds _ ps b
bare_whole holds (Either l r) ps b = b

abbrev IsGivenBare : (Term → Bool) → Tree → Type 0
IsGivenBare holds e = (ps : List Piece) → SpellsBare e ps → GivesBare holds e ps

whole_around : (holds : Term → Bool) (e : Tree) (ps : List Piece) → IsGivenBare holds e → Spells 0 e ps
    → GivesWhole holds (truth holds e) ps
whole_around holds e ps each (k, inner, spells, is, low) =
    let P : List Piece → Type 0 = GivesWhole holds (truth holds e) in
    subst P (sym is) (brackets_give holds (truth holds e) k inner (bare_whole holds e inner (each inner spells)))

unit_around : (holds : Term → Bool) (e : Tree) (ps : List Piece) → IsGivenBare holds e → Spells 2 e ps
    → GivesUnit holds (truth holds e) ps
unit_around holds e ps each (suc k, inner, spells, is, low) =
    let P : List Piece → Type 0 = GivesUnit holds (truth holds e) in
    subst P (sym is) (bracket_gives holds (truth holds e) (in_brackets k inner)
    (brackets_give holds (truth holds e) k inner (bare_whole holds e inner (each inner spells))))
unit_around holds (Single t) ps each (zero, inner, spells, is, low) =
    let P : List Piece → Type 0 = GivesUnit holds (holds t) in subst P (sym is) (each inner spells)
unit_around holds (Both l r) ps each (zero, inner, spells, is, low) =
    let none : 0 < 0 = low (omega arith) in absurd (omega arith)
unit_around holds (Either l r) ps each (zero, inner, spells, is, low) =
    let none : 0 < 0 = low (omega arith) in absurd (omega arith)

term_around : (holds : Term → Bool) (e : Tree) (ps : List Piece) → IsGivenBare holds e → Spells 1 e ps
    → GivesTerm holds (truth holds e) ps
term_around holds e ps each (suc k, inner, spells, is, low) =
    let P : List Piece → Type 0 = GivesTerm holds (truth holds e) in
    let all : List Piece = in_brackets (suc k) inner in
    subst P (sym is) (unit_term holds (truth holds e) all (bracket_gives holds (truth holds e) (in_brackets k inner)
    (brackets_give holds (truth holds e) k inner (bare_whole holds e inner (each inner spells)))))
term_around holds (Single t) ps each (zero, inner, spells, is, low) =
    let P : List Piece → Type 0 = GivesTerm holds (holds t) in
    subst P (sym is) (unit_term holds _ inner (each inner spells))
term_around holds (Both l r) ps each (zero, inner, spells, is, low) =
    let P : List Piece → Type 0 = GivesTerm holds (truth holds (Both l r)) in subst P (sym is) (each inner spells)
term_around holds (Either l r) ps each (zero, inner, spells, is, low) =
    let none : 0 < 0 = low (omega arith) in absurd (omega arith)

-- `AND`, after its left side
and_gives : (holds : Term → Bool) (a b : Bool) (w : Walk) (rs rest : List Piece) → IsTermEnd a w
    → PassedFlat holds rs → GivesUnit holds b rs
    → (x : Walk) × IsTermEnd (a && b) x × (walk holds w (And ∷ (rs ++ rest)) ≡ walk holds x rest)
and_gives holds true b w rs rest (inl is) passed gives =
    (live b, inl refl, ap (λ (x : Walk). walk holds x (And ∷ (rs ++ rest))) is ∙ gives true rest)
and_gives holds true b w rs rest (inr (off, is)) passed gives = absurd cc
and_gives holds false b w rs rest (inl is) passed gives =
    (passes false 0, inr (refl, refl), ap (λ (x : Walk). walk holds x (And ∷ (rs ++ rest))) is ∙ passed false 0 rest)
and_gives holds false b w rs rest (inr (off, is)) passed gives =
    (passes false 0, inr (refl, refl), ap (λ (x : Walk). walk holds x (And ∷ (rs ++ rest))) is ∙ passed false 0 rest)

-- `OR`, after its left side
or_gives : (holds : Term → Bool) (a b : Bool) (w : Walk) (rs rest : List Piece) → IsWholeEnd a w
    → PassedFlat holds rs → GivesTerm holds b rs
    → (x : Walk) × IsWholeEnd (a || b) x × (walk holds w (Or ∷ (rs ++ rest)) ≡ walk holds x rest)
or_gives holds true b w rs rest (inl is) passed gives =
    (passes true 0, inr refl, ap (λ (x : Walk). walk holds x (Or ∷ (rs ++ rest))) is ∙ passed true 0 rest)
or_gives holds true b w rs rest (inr is) passed gives =
    (passes true 0, inr refl, ap (λ (x : Walk). walk holds x (Or ∷ (rs ++ rest))) is ∙ passed true 0 rest)
or_gives holds false b w rs rest (inl is) passed gives =
    let h = term_whole holds b rs gives false rest in
    (h.0, h.1, ap (λ (x : Walk). walk holds x (Or ∷ (rs ++ rest))) is ∙ h.2)
or_gives holds false b w rs rest (inr is) passed gives =
    let h = term_whole holds b rs gives false rest in
    (h.0, h.1, ap (λ (x : Walk). walk holds x (Or ∷ (rs ++ rest))) is ∙ h.2)

bare_gives : (holds : Term → Bool) (e : Tree) → IsGivenBare holds e
bare_gives holds (Single t) ps is =
    let P : List Piece → Type 0 = GivesUnit holds (holds t) in subst P (sym is) (λ u rest. refl)
bare_gives holds (Both l r) ps (ls, rs, left, right, is) =
    let P : List Piece → Type 0 = GivesTerm holds (truth holds (Both l r)) in
    subst P (sym is) (λ u rest.
    let a = term_around holds l ls (bare_gives holds l) left u (And ∷ (rs ++ rest)) in
    let b = and_gives holds (truth holds l) (truth holds r) a.0 rs rest a.1 (unit_passed holds r rs right)
    (unit_around holds r rs (bare_gives holds r) right) in
    (b.0, b.1, ap (walk holds (live u)) (append_assoc ls (And ∷ rs) rest) ∙ a.2 ∙ b.2))
bare_gives holds (Either l r) ps (ls, rs, left, right, is) =
    let P : List Piece → Type 0 = GivesWhole holds (truth holds (Either l r)) in
    subst P (sym is) (λ u rest.
    let a = whole_around holds l ls (bare_gives holds l) left u (Or ∷ (rs ++ rest)) in
    let b = or_gives holds (truth holds l) (truth holds r) a.0 rs rest a.1 (term_passed holds r rs right)
    (term_around holds r rs (bare_gives holds r) right) in
    (b.0, b.1, ap (walk holds (live u)) (append_assoc ls (Or ∷ rs) rest) ∙ a.2 ∙ b.2))

pub walk_truth : (holds : Term → Bool) (e : Tree) (ps : List Piece) → Spells 0 e ps
    → (walk holds (live false) ps).value ≡ truth holds e
walk_truth holds e ps s =
    let h = whole_around holds e ps (bare_gives holds e) s false [] in
    ap (λ (l : List Piece). (walk holds (live false) l).value) (sym (append-nil ps))
    ∙ ap (λ (w : Walk). w.value) h.2 ∙ value h.0 h.1
  where
    value : (w : Walk) → IsWholeEnd (truth holds e) w → w.value ≡ truth holds e
    value w (inl is) = ap (λ (x : Walk). x.value) is
    value w (inr is) = ap (λ (x : Walk). x.value) is
