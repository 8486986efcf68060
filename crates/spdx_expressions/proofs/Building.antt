-- Parts that fit spell a tree.
use Rattle.std.proofs.Common.{◌≡◌, refl, sym, ap, ◌∙◌, subst, ℕ, suc, zero, ◌<◌, Bool, true, false, List, [], ◌∷◌}
use Rattle.std.proofs.Common.{◌++◌}
use Rattle.std.proofs.Common.{append_assoc, append-nil, Option, Some, None, arith}
use Rattle.spdx_expressions.specs.Trees.{Term, Tree, Single, Both, Either, Piece, Named, And, Or, Open, Close}
use Rattle.spdx_expressions.specs.Grammar.{Spells}
use Rattle.spdx_expressions.proofs.Fitting.{Fits}

-- what is loose fits where less tightness is asked
looser : (a b : ℕ) (e : Tree) (ps : List Piece) → b < suc a → Spells a e ps → Spells b e ps
looser a b e ps less (k, inner, spells, is, low) = (k, inner, spells, is, λ below. low (omega arith))

bracketed : (e : Tree) (ps : List Piece) → Spells 0 e ps → Spells 2 e (Open ∷ (ps ++ Close ∷ []))
bracketed e ps (k, inner, spells, is, low) =
    (suc k, inner, spells, ap (λ (l : List Piece). Open ∷ (l ++ Close ∷ [])) is, λ below. omega arith)

-- what is before an operand in its bracket: an expression and `OR`, and one and `AND`
abbrev OrPart : Option Tree → List Piece → Type 0
OrPart None ps = ps ≡ []
OrPart (Some e) ps = (us : List Piece) × Spells 0 e us × (ps ≡ us ++ Or ∷ [])

abbrev AndPart : Option Tree → List Piece → Type 0
AndPart None ps = ps ≡ []
AndPart (Some e) ps = (us : List Piece) × Spells 1 e us × (ps ≡ us ++ And ∷ [])

abbrev Before : List Piece → Type 0
Before ps =
    (o a : Option Tree) × (ors ands : List Piece) × OrPart o ors × AndPart a ands × (ps ≡ ors ++ ands)

-- what is before the innermost bracket, and its `(`
abbrev Outer : ℕ → List Piece → Type 0
Outer zero ps = ps ≡ []
Outer (suc n) ps = (us vs : List Piece) × Outer n us × Before vs × (ps ≡ (us ++ vs) ++ Open ∷ [])

-- an operand is wanted after these parts
abbrev Wants : ℕ → List Piece → Type 0
Wants n ps = (us vs : List Piece) × Outer n us × Before vs × (ps ≡ us ++ vs)

-- an operand ended after them
abbrev Ended : ℕ → List Piece → Type 0
Ended n ps =
    (us ors xs : List Piece) × (o : Option Tree) × (e : Tree)
    × Outer n us × OrPart o ors × Spells 1 e xs × (ps ≡ us ++ (ors ++ xs))

-- an operand joins the expression before `AND`
join_and : (a : Option Tree) (ands xs : List Piece) (e : Tree) → AndPart a ands → Spells 2 e xs
    → (f : Tree) × Spells 1 f (ands ++ xs)
join_and None ands xs e is s =
    let P : List Piece → Type 0 = λ l. Spells 1 e (l ++ xs) in
    (e, subst P (sym is) (looser 2 1 e xs (omega arith) s))
join_and (Some l) ands xs e (us, left, is) s = (
  Both l e,
  (
    0,
    ands ++ xs,
    (
      us,
      xs,
      left,
      s,
      ap (λ (p : List Piece). p ++ xs) is ∙ append_assoc us (And ∷ []) xs,
    ),
    refl,
    λ below. absurd (omega arith),
  ),
)

join_or : (o : Option Tree) (ors xs : List Piece) (e : Tree) → OrPart o ors → Spells 1 e xs
    → (f : Tree) × Spells 0 f (ors ++ xs)
join_or None ors xs e is s =
    let P : List Piece → Type 0 = λ l. Spells 0 e (l ++ xs) in
    (e, subst P (sym is) (looser 1 0 e xs (omega arith) s))
join_or (Some l) ors xs e (us, left, is) s = (
  Either l e,
  (
    0,
    ors ++ xs,
    (
      us,
      xs,
      left,
      s,
      ap (λ (p : List Piece). p ++ xs) is ∙ append_assoc us (Or ∷ []) xs,
    ),
    refl,
    λ below. absurd (omega arith),
  ),
)

-- an operand ended
end_operand : (n : ℕ) (ps xs : List Piece) (e : Tree) → Wants n ps → Spells 2 e xs → Ended n (ps ++ xs)
end_operand n ps xs e (us, vs, outer, (o, a, ors, ands, or_part, and_part, is_vs), is) s =
    let j = join_and a ands xs e and_part s in (
      us,
      ors,
      ands ++ xs,
      o,
      j.0,
      outer,
      or_part,
      j.1,
      ap (λ (l : List Piece). l ++ xs) (is ∙ ap (λ (l : List Piece). us ++ l) is_vs)
          ∙ append_assoc us (ors ++ ands) xs ∙ ap (λ (l : List Piece). us ++ l) (append_assoc ors ands xs),
    )

begin_bracket : (n : ℕ) (ps : List Piece) → Wants n ps → Wants (suc n) (ps ++ Open ∷ [])
begin_bracket n ps (us, vs, outer, before, is) = (
  ps ++ Open ∷ [],
  [],
  (us, vs, outer, before, ap (λ (l : List Piece). l ++ Open ∷ []) is),
  (None, None, [], [], refl, refl, refl),
  sym (append-nil (ps ++ Open ∷ [])),
)

take_and : (n : ℕ) (ps : List Piece) → Ended n ps → Wants n (ps ++ And ∷ [])
take_and n ps (us, ors, xs, o, e, outer, or_part, s, is) = (
  us,
  ors ++ (xs ++ And ∷ []),
  outer,
  (o, Some e, ors, xs ++ And ∷ [], or_part, (xs, s, refl), refl),
  ap (λ (l : List Piece). l ++ And ∷ []) is ∙ append_assoc us (ors ++ xs) (And ∷ [])
      ∙ ap (λ (l : List Piece). us ++ l) (append_assoc ors xs (And ∷ [])),
)

take_or : (n : ℕ) (ps : List Piece) → Ended n ps → Wants n (ps ++ Or ∷ [])
take_or n ps (us, ors, xs, o, e, outer, or_part, s, is) =
    let j = join_or o ors xs e or_part s in (
      us,
      (ors ++ xs) ++ Or ∷ [],
      outer,
      (
        Some j.0,
        None,
        (ors ++ xs) ++ Or ∷ [],
        [],
        (ors ++ xs, j.1, refl),
        refl,
        sym (append-nil
            ((ors ++ xs) ++ Or ∷ [])),
      ),
      ap (λ (l : List Piece). l ++ Or ∷ []) is ∙ append_assoc us (ors ++ xs) (Or ∷ []),
    )

end_bracket : (n : ℕ) (ps : List Piece) → Ended (suc n) ps → Ended n (ps ++ Close ∷ [])
end_bracket n ps (us, ors, xs, o, e, (vs, ws, outer, before, is_us), or_part, s, is) =
    let j = join_or o ors xs e or_part s in
    let b = bracketed j.0 (ors ++ xs) j.1 in
    let inner : List Piece = ors ++ xs in
    let whole : ps ++ Close ∷ [] ≡ (vs ++ ws) ++ (Open ∷ (inner ++ Close ∷ [])) =
    ap (λ (l : List Piece). l ++ Close ∷ []) (is ∙ ap (λ (l : List Piece). l ++ inner) is_us
    ∙ append_assoc (vs ++ ws) (Open ∷ []) inner)
    ∙ append_assoc (vs ++ ws) (Open ∷ inner) (Close ∷ []) in
    let P : List Piece → Type 0 = Ended n in
    subst P (sym whole) (end_operand n (vs ++ ws) (Open ∷ (inner ++ Close ∷ [])) j.0 (vs, ws, outer, before, refl) b)

-- ---- the whole

onward : (ps : List Piece) (p : Piece) (rest : List Piece) → ((e : Tree) × Spells 0 e ((ps ++ p ∷ []) ++ rest))
    → (e : Tree) × Spells 0 e (ps ++ p ∷ rest)
onward ps p rest (e, s) =
    let P : List Piece → Type 0 = Spells 0 e in (e, subst P (append_assoc ps (p ∷ []) rest) s)

-- what the parts before an operand are inside of, by whether an operand has to follow
abbrev Stands : Bool → ℕ → List Piece → Type 0
Stands true n ps = Wants n ps
Stands false n ps = Ended n ps

single : (t : Term) → Spells 2 (Single t) (Named t ∷ [])
single t = (0, Named t ∷ [], refl, refl, λ below. absurd (omega arith))

tree_from : (rest : List Piece) (w : Bool) (n : ℕ) (ps : List Piece) → Stands w n ps → Fits w n rest
    → (e : Tree) × Spells 0 e (ps ++ rest)
tree_from [] true n ps a f = absurd f
tree_from [] false n ps (us, ors, xs, o, e, outer, or_part, s, is) f =
    let flat : us ≡ [] = let P : ℕ → Type 0 = λ m. Outer m us in subst P f outer in
    let j = join_or o ors xs e or_part s in
    let whole : ps ++ [] ≡ ors ++ xs =
    append-nil ps ∙ is ∙ ap (λ (l : List Piece). l ++ (ors ++ xs)) flat in
    let P : List Piece → Type 0 = Spells 0 j.0 in
    (j.0, subst P (sym whole) j.1)
tree_from (Named t ∷ rest) true n ps a f = onward ps (Named t) rest
    (tree_from rest false n (ps ++ Named t ∷ []) (end_operand n ps (Named t ∷ []) (Single t) a (single t)) f)
tree_from (Open ∷ rest) true n ps a f = onward ps Open rest
    (tree_from rest true (suc n) (ps ++ Open ∷ []) (begin_bracket n ps a) f)
tree_from (And ∷ rest) true n ps a f = absurd f
tree_from (Or ∷ rest) true n ps a f = absurd f
tree_from (Close ∷ rest) true n ps a f = absurd f
tree_from (Named t ∷ rest) false n ps a f = absurd f
tree_from (Open ∷ rest) false n ps a f = absurd f
tree_from (And ∷ rest) false n ps a f = onward ps And rest
    (tree_from rest true n (ps ++ And ∷ []) (take_and n ps a) f)
tree_from (Or ∷ rest) false n ps a f = onward ps Or rest
    (tree_from rest true n (ps ++ Or ∷ []) (take_or n ps a) f)
tree_from (Close ∷ rest) false n ps a (m, is, f) = onward ps Close rest
    (let P : ℕ → Type 0 = λ k. Ended k ps in
    tree_from rest false m (ps ++ Close ∷ []) (end_bracket m ps (subst P is a)) f)

-- parts that fit spell a tree
pub fits_tree : (ps : List Piece) → Fits true 0 ps → (e : Tree) × Spells 0 e ps
fits_tree ps f = tree_from ps true 0 [] ([], [], refl, (None, None, [], [], refl, refl, refl), refl) f
