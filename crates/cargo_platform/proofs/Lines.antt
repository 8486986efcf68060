-- Lines, and the parts between newlines.
use Rattle.std.proofs.Common.{◌≡◌, ◌≢◌, ◌<◌, ◌∙◌, ℕ, Bool, true, false, cond, List, [], ◌∷◌, ◌++◌, length, refl, sym}
use Rattle.std.proofs.Common.{ap, arith, Bor, Option, Some, None}
use Rattle.std.specs.Option.{MatchOption, unwrap_or}
use Rattle.std.specs.Prelude.{◌==◌}
use Rattle.std.proofs.lemmas.Bool.Decides.{nat_tests}
use Rattle.std.specs.List.{slice_split, onto_first}
use Rattle.cargo_platform.specs.Lines.{lines_of}

-- a last newline ends the last line
pub lines_of-ended : (xs : List ℕ) → lines_of (xs ++ (10 ∷ [])) ≡ slice_split (λ b. b == 10) xs
lines_of-ended [] = refl
lines_of-ended (x ∷ xs) = ap (λ ls. cond (x == 10) ([] ∷ ls) (onto_first x ls)) (lines_of-ended xs)

at_end : (x : ℕ) → x ≢ 10 → (x == 10) ≡ false
at_end x n = grind (arith, nat_tests)

one : (x : ℕ) (t : Bool) → t ≡ false → cond t ([] ∷ []) ((x ∷ []) ∷ []) ≡ cond t ([] ∷ [] ∷ []) ((x ∷ []) ∷ [])
one x true e = absurd (cc)
one x false e = refl

-- without a last newline the last part is a line
pub lines_of-open : (bs : List ℕ) → 0 < length bs → ((front : List ℕ) → bs ≢ front ++ (10 ∷ []))
    → lines_of bs ≡ slice_split (λ b. b == 10) bs
lines_of-open [] h n = absurd (omega arith)
lines_of-open (x ∷ []) h n = one x (x == 10) (at_end x (λ e. n [] (ap (λ y. y ∷ []) e)))
lines_of-open (x ∷ y ∷ more) h n =
    ap (λ ls. cond (x == 10) ([] ∷ ls) (onto_first x ls))
    (lines_of-open (y ∷ more) (omega arith) (λ front e. n (x ∷ front) (ap (λ l. x ∷ l) e)))

not_empty : (bs : List ℕ) → bs ≢ [] → 0 < length bs
not_empty [] some = absurd (some refl)
not_empty (b ∷ bs) some = omega arith

-- what is left where the newline is taken off that ends a text, if one does, has the lines of the text as its parts
pub split_lines : (bs : List ℕ) (r : Option (Bor (List ℕ))) (whole : Bor (List ℕ)) → whole.now ≡ bs → bs ≢ []
    → MatchOption r ((front : List ℕ) → bs ≢ front ++ (10 ∷ [])) (λ x. bs ≡ x.now ++ (10 ∷ []))
    → slice_split (λ b. b == 10) (unwrap_or r whole).now ≡ lines_of bs
split_lines bs None whole is some h = ap (slice_split (λ b. b == 10)) is ∙ sym (lines_of-open bs (not_empty bs some) h)
split_lines bs (Some x) whole is some h = sym (lines_of-ended x.now) ∙ ap lines_of (sym h)
