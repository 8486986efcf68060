-- The steps of one element more.
use Rattle.std.proofs.Common.{◌≡◌, ◌<◌, ℕ, zero, suc, ◌+◌, List, [], ◌∷◌, ◌++◌, length, take, get_or, refl, sym, ◌∙◌}
use Rattle.std.proofs.Common.{ap, arith}
use Rattle.std.proofs.Common.{append_assoc, add-one}
use Rattle.std.proofs.lemmas.List.{append-nil}
use Rattle.cargo_features.specs.Steps.{at_each}
use Rattle.cargo_features.specs.declared.claims.Step.{Step}

at_each_suc : {X : Type 0} (k : ℕ) (f : ℕ → X → List Step) (xs : List X) (i : ℕ) (d : X) → i < length xs
    → at_each k f (take (suc i) xs) ≡ at_each k f (take i xs) ++ f (k + i) (get_or xs i d)
at_each_suc k f [] i d below = absurd (omega (arith, below))
at_each_suc k f (x ∷ xs) zero d below =
    let e : k ≡ k + 0 = omega arith in
    append-nil (f k x) ∙ ap (λ (n : ℕ). f n x) e
at_each_suc {X} k f (x ∷ xs) (suc i) d below =
    let e : (k + 1) + i ≡ k + suc i = omega arith in
    ap (λ (ss : List Step). f k x ++ ss) (at_each_suc (k + 1) f xs i d (omega (arith, below)))
    ∙ sym (append_assoc (f k x) (at_each (k + 1) f (take i xs)) (f ((k + 1) + i) (get_or xs i d)))
    ∙ ap (λ (n : ℕ). (f k x ++ at_each (k + 1) f (take i xs)) ++ f n (get_or xs i d)) e

-- the steps of this many elements, and those of one more
pub each_more : {X : Type 0} (f : ℕ → X → List Step) (xs : List X) (i : ℕ) (d : X) → i < length xs
    → at_each 0 f (take i xs) ++ f i (get_or xs i d) ≡ at_each 0 f (take (i + 1) xs)
each_more {X} f xs i d below =
    let e : 0 + i ≡ i = omega arith in
    ap (λ (n : ℕ). at_each 0 f (take i xs) ++ f n (get_or xs i d)) (sym e)
    ∙ sym (at_each_suc 0 f xs i d below)
    ∙ ap (λ (n : ℕ). at_each 0 f (take n xs)) (sym (add-one i))

pub at_each_more : {X : Type 0} (before : List Step) (f : ℕ → X → List Step) (xs : List X) (i : ℕ) (d : X)
    → i < length xs
    → (before ++ at_each 0 f (take i xs)) ++ f i (get_or xs i d) ≡ before ++ at_each 0 f (take (i + 1) xs)
at_each_more {X} before f xs i d below =
    append_assoc before (at_each 0 f (take i xs)) (f i (get_or xs i d))
    ∙ ap (λ (ss : List Step). before ++ ss) (each_more f xs i d below)
