-- The bytes of the keys so far.
use Rattle.std.proofs.Common.{◌≡◌, sym, subst, ℕ, ◌+◌, ◌*◌, ◌≤◌, ◌<◌, Bool, IsTrue, List, [], ◌∷◌, ◌++◌, length, arith}
use Rattle.std.proofs.lemmas.List.Sums.{sum_by_push}
use Rattle.std.proofs.Math.Nat.{mul-le-mul_left}
use Rattle.manifests.specs.Entries.{Entry}
use Rattle.manifest_lints.specs.declared.earlier.TheConstants.{MAX_COMPARISON_WORK}
use Rattle.manifest_lints.specs.Reports.{bytes_of, AreTooLong}

-- one more key has as many bytes more
pub bytes_more : (es : List Entry) (e : Entry) (old new : ℕ) → old ≤ bytes_of es → new ≤ old + length e.0
    → new ≤ bytes_of (es ++ e ∷ [])
bytes_more es e old new before added =
    let all : bytes_of (es ++ e ∷ []) ≡ bytes_of es + length e.0 = sum_by_push (λ x. length x.0) es e in
    omega arith

-- what is too much for the bytes that were counted is too much for those that there are
pub too_long : (es : List Entry) (text : List ℕ) (much : Bool) (n old new : ℕ) → length es ≡ n → old ≤ bytes_of es
    → new ≤ old + length text → (IsTrue much → MAX_COMPARISON_WORK < n * new) → IsTrue much → AreTooLong es text
too_long es text much n old new long before added so is =
    let fits : new ≤ bytes_of es + length text = omega arith in
    let more : length es * new ≤ length es * (bytes_of es + length text) = mul-le-mul_left (length es) fits in
    let far : MAX_COMPARISON_WORK < length es * new = subst (λ m. MAX_COMPARISON_WORK < m * new) (sym long) (so is) in
    let whole : ℕ = length es * (bytes_of es + length text) in
    omega arith
