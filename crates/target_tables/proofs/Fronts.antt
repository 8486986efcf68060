-- Lines at the front of a text.
use Rattle.std.proofs.Common.{◌≡◌, ◌≢◌, ◌∙◌, ℕ, Bool, true, false, cond, List, [], ◌∷◌, ◌++◌, refl, sym, ap}
use Rattle.std.proofs.Common.{append_assoc, append-nil}
use Rattle.std.specs.Prelude.{◌==◌}
use Rattle.std.specs.List.{AllByRecursion, onto_first}
use borrow.Author.Tests.{eqb-true}
use Rattle.cargo_platform.specs.Lines.{line, lines_of, IsUnbroken, ended}
use Rattle.cargo_platform.proofs.TextLines.{ended_lines}

-- ---- all of a list

pub all_append : {X : Type 0} (P : X → Type 0) (xs ys : List X) → AllByRecursion P xs → AllByRecursion P ys
    → AllByRecursion P (xs ++ ys)
all_append P [] ys a b = b
all_append P (x ∷ xs) ys a b = (a.0, all_append P xs ys a.1 b)

-- ---- a first line that is not empty

put_on : (b : ℕ) (ls others : List (List ℕ)) → onto_first b ls ≢ [] ∷ others
put_on b [] others e = absurd (cc)
put_on b (l ∷ ls) others e = absurd (cc)

at_test : (t : Bool) (b : ℕ) (bs : List ℕ) (others : List (List ℕ)) → (b == 10) ≡ t
    → ((rest : List ℕ) → b ∷ bs ≢ 10 ∷ rest) → cond t ([] ∷ lines_of bs) (onto_first b (lines_of bs)) ≢ [] ∷ others
at_test true b bs others is none e = none bs (ap (λ x. x ∷ bs) (eqb-true b 10 is))
at_test false b bs others is none e = put_on b (lines_of bs) others e

-- where a text begins with no newline, its lines begin with no empty one
pub no_empty_first : (bs : List ℕ) → ((rest : List ℕ) → bs ≢ 10 ∷ rest) → (others : List (List ℕ))
    → lines_of bs ≢ [] ∷ others
no_empty_first [] none others e = absurd (cc)
no_empty_first (b ∷ bs) none others e = at_test (b == 10) b bs others refl none e

some_put : (b : ℕ) (ls : List (List ℕ)) → onto_first b ls ≢ []
some_put b [] e = absurd (cc)
some_put b (l ∷ ls) e = absurd (cc)

some_at : (t : Bool) (b : ℕ) (bs : List ℕ) → cond t ([] ∷ lines_of bs) (onto_first b (lines_of bs)) ≢ []
some_at true b bs e = absurd (cc)
some_at false b bs e = some_put b (lines_of bs) e

-- a text without lines is empty
pub no_lines : (bs : List ℕ) → lines_of bs ≡ [] → bs ≡ []
no_lines [] e = refl
no_lines (b ∷ bs) e = absurd (some_at (b == 10) b bs e)

-- ---- lines that are put together

ended_and_one : (texts : List (List ℕ)) (l : List ℕ) → ended (texts ++ l ∷ []) ≡ ended texts ++ line l
ended_and_one [] l = append-nil (line l)
ended_and_one (t ∷ texts) l =
    ap (λ z. line t ++ z) (ended_and_one texts l) ∙ sym (append_assoc (line t) (ended texts) (line l))

pub one_more_line : (front one two l : List ℕ) (texts : List (List ℕ)) → front ≡ ended texts → one ≡ front ++ l
    → two ≡ one ++ (10 ∷ []) → two ≡ ended (texts ++ l ∷ [])
one_more_line front one two l texts is first second =
    second ∙ ap (λ z. z ++ (10 ∷ [])) (first ∙ ap (λ z. z ++ l) is) ∙ append_assoc (ended texts) l (10 ∷ [])
    ∙ sym (ended_and_one texts l)

pub lines_of_ended : (texts : List (List ℕ)) → AllByRecursion IsUnbroken texts → lines_of (ended texts) ≡ texts
lines_of_ended texts u =
    ap lines_of (sym (append-nil (ended texts))) ∙ ended_lines texts [] u ∙ append-nil texts
