-- Prepared bytes that are read stand for a set.
use Rattle.std.proofs.Common.{◌≡◌, ℕ, zero, suc, List, [], ◌∷◌, ◌++◌, length, ◌*◌, ◌<◌, get_or, arith}
use Rattle.std.proofs.Common.{subst, sym, Bool, w64}
use Rattle.std.specs.Int.{to_le_bytes}
use Rattle.cargo_platform.specs.Trees.{Condition}
use Rattle.cargo_platform.specs.Facts.{FactSet, truth_of_condition}
use Rattle.byte_answers.specs.declared.prepared.TheConstants.{FORMAT}
use Rattle.byte_answers.specs.Flat.{flat_condition}
use Rattle.byte_answers.specs.Prepared.{with_numbers, Means, IsPreparedMatch}
use Rattle.byte_answers.proofs.PreparedSets.{some_meaning}

-- parts of bytes are bytes
abbrev AreBytes : List ℕ → Type 0
AreBytes xs = (i : ℕ) → get_or xs i 0 < 256

behind_small : (xs ys : List ℕ) → AreBytes (xs ++ ys) → AreBytes ys
behind_small [] ys small = small
behind_small (x ∷ xs) ys small = behind_small xs ys (λ k. small (suc k))

before_small : (xs ys : List ℕ) → AreBytes (xs ++ ys) → (i : ℕ) → get_or xs i 0 < 256
before_small [] ys small i = omega arith
before_small (x ∷ xs) ys small zero = small 0
before_small (x ∷ xs) ys small (suc i) = before_small xs ys (λ k. small (suc k)) i

-- what is true of all sets that the parts mean is true of some set
pub some_stand : {P : FactSet → Type 0} (prepared texts index filter : List ℕ)
    → with_numbers texts (index ++ filter) ≡ prepared → (k : ℕ) × (length index ≡ 24 * k)
    → ((i : ℕ) → get_or prepared i 0 < 256) → ((s : FactSet) → Means texts index filter s → P s)
    → (s : FactSet) × (Means texts index filter s × P s)
some_stand prepared texts index filter is (k, size) small found =
    let numbers : List ℕ = to_le_bytes w64 (length texts) ++ to_le_bytes w64 FORMAT in
    let rest : List ℕ = index ++ filter in
    let all : AreBytes (texts ++ (rest ++ numbers)) = subst (λ (z : List ℕ). AreBytes z) (sym is) small in
    let both : AreBytes (index ++ filter) = before_small rest numbers (behind_small texts (rest ++ numbers) all) in
    let m = some_meaning texts index filter k size (before_small index filter both) in
    (m.0, (m.1, found m.0 m.1))

pub match_of : (flat name prepared texts index filter : List ℕ) (holds : Bool) → length filter ≡ 256
    → with_numbers texts (index ++ filter) ≡ prepared → (k : ℕ) × (length index ≡ 24 * k)
    → ((i : ℕ) → get_or prepared i 0 < 256) → ((s : FactSet) → Means texts index filter s
    → (p : Condition) × ((flat_condition p ≡ flat) × (holds ≡ truth_of_condition name s p)))
    → IsPreparedMatch flat name prepared holds
match_of flat name prepared texts index filter holds long is size small found =
    let m =
    some_stand {P = λ s. (p : Condition) × ((flat_condition p ≡ flat) × (holds ≡ truth_of_condition name s p))}
    prepared texts index filter is size small found in
    (m.1.1.0, (m.0, (m.1.1.1.0, (texts, index, filter, (long, is, m.1.0)), m.1.1.1.1)))

pub no_match : {P : Type 0} (prepared texts index filter : List ℕ)
    → with_numbers texts (index ++ filter) ≡ prepared → (k : ℕ) × (length index ≡ 24 * k)
    → ((i : ℕ) → get_or prepared i 0 < 256) → ((s : FactSet) → Means texts index filter s → P) → P
no_match {P = P} prepared texts index filter is size small found =
    let m = some_stand {P = λ s. P} prepared texts index filter is size small found in m.1.1
