-- A text whose first line is split off.
use Rattle.std.proofs.Common.{◌≡◌, ◌≢◌, ◌≤◌, ◌<◌, ◌∙◌, ℕ, suc, Bool, true, false, cond, List, [], ◌∷◌, ◌++◌, length}
use Rattle.std.proofs.Common.{get_or, drop, refl, sym, ap, subst, arith, lit<, Option, Some, None, Bor}
use Rattle.std.specs.Prelude.{◌==◌}
use Rattle.std.specs.Option.{MatchOption}
use Rattle.std.proofs.lemmas.Str.Pattern.{IsSplitOnceResult, split_parts}
use Rattle.std.specs.List.{onto_first}
use Rattle.std.proofs.lemmas.Bool.Decides.{nat_tests}
use Rattle.platform_answers.specs.Lines.{lines_of, line_at}

-- the text has no newline
abbrev pub HasNoEnd : List ℕ → Type 0
HasNoEnd xs = (i : ℕ) → i < length xs → get_or xs i 0 ≢ 10

no_end : (x : ℕ) → x ≢ 10 → (x == 10) ≡ false
no_end x n = grind (arith, nat_tests)

after : (x : ℕ) (xs : List ℕ) → HasNoEnd (x ∷ xs) → HasNoEnd xs
after x xs h i l = h (suc i) (omega arith)

ended : (xs ys : List ℕ) → HasNoEnd xs → lines_of (xs ++ (10 ∷ ys)) ≡ xs ∷ lines_of ys
ended [] ys h = refl
ended (x ∷ xs) ys h =
    rw (no_end x (h 0 (omega arith))) (ap (onto_first x) (ended xs ys (after x xs h)))

open_line : (x : ℕ) (xs : List ℕ) → HasNoEnd (x ∷ xs) → lines_of (x ∷ xs) ≡ (x ∷ xs) ∷ []
open_line x [] h = rw (no_end x (h 0 (omega arith))) refl
open_line x (y ∷ more) h =
    rw (no_end x (h 0 (omega arith))) (ap (onto_first x) (open_line y more (after x (y ∷ more) h)))

-- the first line, and the text after it
pub record IsSplit (text first others : List ℕ) : Type 0 where
  pub line : first ≡ line_at (lines_of text) 1
  pub after : lines_of others ≡ drop 1 (lines_of text)

at_end : (text first others : List ℕ) → (text ≡ first ++ (10 ∷ others)) × HasNoEnd first
    → IsSplit text first others
at_end text first others h =
    let cut : lines_of text ≡ first ∷ lines_of others = ap lines_of h.0 ∙ ended first others h.1 in
    record { line = sym (ap (λ ls. line_at ls 1) cut); after = sym (ap (drop 1) cut) }

no_end_left : (text : List ℕ) → HasNoEnd text → IsSplit text text []
no_end_left [] h = record { line = refl; after = refl }
no_end_left (x ∷ xs) h =
    let cut = open_line x xs h in
    record { line = sym (ap (λ ls. line_at ls 1) cut); after = sym (ap (drop 1) cut) }

abbrev Parts : List ℕ → Option (Bor (List ℕ) × Bor (List ℕ)) → Type 0
Parts text r = MatchOption r (HasNoEnd text) (λ x. (text ≡ x.0.now ++ (10 ∷ x.1.now)) × HasNoEnd x.0.now)

pub split_some : (text : List ℕ) (r : Option (Bor (List ℕ) × Bor (List ℕ))) (x : Bor (List ℕ) × Bor (List ℕ))
    → IsSplitOnceResult 10 text r → r ≡ Some x → IsSplit text x.0.now x.1.now
split_some text r x h is =
    at_end text x.0.now x.1.now (subst (λ o. Parts text o) is (split_parts 10 text r h (lit< tt)))

pub split_none : (text : List ℕ) (r : Option (Bor (List ℕ) × Bor (List ℕ))) → IsSplitOnceResult 10 text r → r ≡ None
    → IsSplit text text []
split_none text r h is = no_end_left text (subst (λ o. Parts text o) is (split_parts 10 text r h (lit< tt)))

few : (t : Bool) (b : ℕ) (ls : List (List ℕ)) (n : ℕ) → length ls ≤ n
    → length (cond t ([] ∷ ls) (onto_first b ls)) ≤ suc n
few true b ls n h = omega arith
few false b [] n h = omega arith
few false b (l ∷ ls) n h = omega arith

-- there are no more lines than bytes
pub lines_few : (text : List ℕ) → length (lines_of text) ≤ length text
lines_few [] = omega arith
lines_few (b ∷ bs) = few (b == 10) b (lines_of bs) (length bs) (lines_few bs)
