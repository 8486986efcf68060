-- The lines of a text are the parts that its newlines end.
use Rattle.std.proofs.lemmas.Bool.{and_parts}
use Rattle.std.proofs.Common.{◌≡◌, ◌≢◌, ℕ, Bool, true, false, cond, List, [], ◌∷◌, ◌++◌, refl, sym, ap, ◌∙◌}
use Rattle.std.proofs.Common.{append_assoc, append-nil, inl, inr}
use borrow.Author.Tests.{eqb-true}
use Rattle.std.specs.Prelude.{◌==◌, ◌⊎◌, not}
use Rattle.std.specs.List.{list_all, AllByRecursion, onto_first}
use Rattle.cargo_platform.specs.Lines.{line, lines_of, IsUnbroken, ended, AreLines}

no_end : (t : Bool) → not t ≡ true → t ≡ false
no_end true e = absurd (cc)
no_end false e = refl

-- a line with its end is the first line of a text that goes on after it
pub first_line : (l rest : List ℕ) → IsUnbroken l → lines_of ((l ++ 10 ∷ []) ++ rest) ≡ l ∷ lines_of rest
first_line [] rest u = refl
first_line (b ∷ bs) rest u =
    let parts : (not (b == 10) ≡ true) × IsUnbroken bs =
    and_parts (not (b == 10)) (list_all (λ x. not (x == 10)) bs) u in
    rw (no_end (b == 10) parts.0) (ap (onto_first b) (first_line bs rest parts.1))

-- text that has no newline is its last line
pub last_line : (l : List ℕ) → IsUnbroken l → l ≢ [] → lines_of l ≡ l ∷ []
last_line [] u n = absurd (n refl)
last_line (b ∷ []) u n =
    let parts : (not (b == 10) ≡ true) × (true ≡ true) = and_parts (not (b == 10)) true u in
    rw (no_end (b == 10) parts.0) refl
last_line (b ∷ c ∷ bs) u n =
    let parts : (not (b == 10) ≡ true) × IsUnbroken (c ∷ bs) =
    and_parts (not (b == 10)) (list_all (λ x. not (x == 10)) (c ∷ bs)) u in
    rw (no_end (b == 10) parts.0) (ap (onto_first b) (last_line (c ∷ bs) parts.1 (λ e. absurd (cc))))

-- ended lines, and the lines of what follows
pub ended_lines : (ls : List (List ℕ)) (rest : List ℕ) → AllByRecursion IsUnbroken ls
    → lines_of (ended ls ++ rest) ≡ ls ++ lines_of rest
ended_lines [] rest u = refl
ended_lines (l ∷ ls) rest u =
    ap lines_of (append_assoc (line l) (ended ls) rest) ∙ first_line l (ended ls ++ rest) u.0
    ∙ ap (λ z. l ∷ z) (ended_lines ls rest u.1)

front_of : (front : List (List ℕ)) (last : List ℕ) → AllByRecursion IsUnbroken (front ++ last ∷ [])
    → AllByRecursion IsUnbroken front × IsUnbroken last
front_of [] last u = (tt, u.0)
front_of (l ∷ front) last u = let others = front_of front last u.1 in ((u.0, others.0), others.1)

abbrev pub Parts : List ℕ → List (List ℕ) → Type 0
Parts text ls = (text ≡ ended ls)
    ⊎ ((front : List (List ℕ)) × (last : List ℕ) × (ls ≡ front ++ last ∷ []) × (last ≢ [])
    × (text ≡ ended front ++ last))

only : (text : List ℕ) (ls : List (List ℕ)) → AllByRecursion IsUnbroken ls → Parts text ls → ls ≡ lines_of text
only text ls u (inl e) = sym (ap lines_of (e ∙ sym (append-nil (ended ls))) ∙ ended_lines ls [] u ∙ append-nil ls)
only text ls u (inr p) =
    let us = front_of p.0 p.1 (rw (← p.2) u) in
    p.2 ∙ sym (ap lines_of p.4 ∙ ended_lines p.0 p.1 us.0 ∙ ap (λ z. p.0 ++ z) (last_line p.1 us.1 p.3))

-- no other lists are the lines of a text
pub only_lines : (text : List ℕ) (ls : List (List ℕ)) → AreLines text ls → ls ≡ lines_of text
only_lines text ls are = only text ls are.unbroken are.parts

not_empty : (front : List (List ℕ)) (last : List ℕ) → [] ≢ front ++ last ∷ []
not_empty [] last e = absurd (cc)
not_empty (f ∷ front) last e = absurd (cc)

-- a newline begins an empty line
ended_here : (b : ℕ) (bs : List ℕ) (ls : List (List ℕ)) → b ≡ 10 → Parts bs ls → Parts (b ∷ bs) ([] ∷ ls)
ended_here b bs ls ten (inl e) = inl (λ i. ten i ∷ e i)
ended_here b bs ls ten (inr p) = inr ([] ∷ p.0, p.1, ap (λ z. [] ∷ z) p.2, p.3, λ i. ten i ∷ p.4 i)

begins_at : (b : ℕ) (bs l : List ℕ) (ls front : List (List ℕ)) (last : List ℕ) → l ∷ ls ≡ front ++ last ∷ []
    → last ≢ [] → bs ≡ ended front ++ last → Parts (b ∷ bs) ((b ∷ l) ∷ ls)
begins_at b bs l ls [] last e n h =
    let first : l ≡ last = cc in
    let others : ls ≡ [] = cc in
    inr ([], b ∷ last, λ i. (b ∷ first i) ∷ others i, λ k. absurd (cc), ap (λ z. b ∷ z) h)
begins_at b bs l ls (f ∷ front) last e n h =
    let first : l ≡ f = cc in
    let others : ls ≡ front ++ last ∷ [] = cc in
    inr ((b ∷ f) ∷ front, last, λ i. (b ∷ first i) ∷ others i, n, ap (λ z. b ∷ z) h)

-- another byte begins the first line
begins_line : (b : ℕ) (bs l : List ℕ) (ls : List (List ℕ)) → Parts bs (l ∷ ls) → Parts (b ∷ bs) ((b ∷ l) ∷ ls)
begins_line b bs l ls (inl e) = inl (ap (λ z. b ∷ z) e)
begins_line b bs l ls (inr p) = begins_at b bs l ls p.0 p.1 p.2 p.3 p.4

only_byte : (b : ℕ) (bs : List ℕ) → Parts bs [] → Parts (b ∷ bs) ((b ∷ []) ∷ [])
only_byte b bs (inl e) = inr ([], b ∷ [], refl, λ k. absurd (cc), ap (λ z. b ∷ z) e)
only_byte b bs (inr p) = absurd (not_empty p.0 p.1 p.2)

onto : (b : ℕ) (bs : List ℕ) (ls : List (List ℕ)) → (b == 10) ≡ false → AreLines bs ls
    → AreLines (b ∷ bs) (onto_first b ls)
onto b bs [] other are = record { unbroken = (rw other refl, tt); parts = only_byte b bs are.parts }
onto b bs (l ∷ ls) other are =
    record { unbroken = (rw other are.unbroken.0, are.unbroken.1); parts = begins_line b bs l ls are.parts }

step : (b : ℕ) (bs : List ℕ) (t : Bool) → (b == 10) ≡ t → AreLines bs (lines_of bs)
    → AreLines (b ∷ bs) (cond t ([] ∷ lines_of bs) (onto_first b (lines_of bs)))
step b bs true e are =
    record { unbroken = (refl, are.unbroken); parts = ended_here b bs (lines_of bs) (eqb-true b 10 e) are.parts }
step b bs false e are = onto b bs (lines_of bs) e are

pub lines_are : (text : List ℕ) → AreLines text (lines_of text)
lines_are [] = record { unbroken = tt; parts = inl refl }
lines_are (b ∷ bs) = step b bs (b == 10) refl (lines_are bs)
