-- Texts with their lengths have one reading, and the answers on them are appended one by one.
use Rattle.std.proofs.Common.{◌≡◌, refl, sym, ap, ◌∙◌, ℕ, List, [], ◌∷◌, ◌++◌, length, append_assoc, append-nil, arith}
use Rattle.std.proofs.Common.{◌+◌, ◌<◌, ◌^◌, w64, take, drop}
use Rattle.std.proofs.lemmas.List.{length-append, take-append-drop, nil_from_length}
use Rattle.std.proofs.lemmas.List.Concat.{flat_map-append}
use Rattle.std.specs.Int.{to_le_bytes}
use Rattle.cargo_platform.specs.Trees.{CfgValue}
use Rattle.byte_answers.specs.Batches.{IsKeyAnswer, AreKeyAnswers}
use Rattle.byte_answers.specs.LengthPrefixed.{with_length, with_lengths}
use Rattle.byte_answers.proofs.Pieces.{same_fronts, same_number}

pub with_length_size : (text rest : List ℕ) → length (with_length text ++ rest) ≡ 8 + length text + length rest
unfolding with_length
with_length_size text rest =
    omega (arith, length-append (with_length text) rest, length-append (to_le_bytes w64 (length text)) text)

pub with_length_is : (text rest : List ℕ)
    → with_length text ++ rest ≡ to_le_bytes w64 (length text) ++ (text ++ rest)
unfolding with_length
with_length_is text rest = append_assoc (to_le_bytes w64 (length text)) text rest

-- bytes begin with one text
pub one_first : (t u a b : List ℕ) → length (with_length t ++ a) < 2 ^ 64
    → with_length t ++ a ≡ with_length u ++ b
    → (t ≡ u) × (a ≡ b)
one_first t u a b small same =
    let first = same_fronts (to_le_bytes w64 (length t)) (t ++ a) (to_le_bytes w64 (length u)) (u ++ b)
    (sym (with_length_is t a) ∙ same ∙ with_length_is u b) refl in
    let sizes : length t ≡ length u =
    same_number (length t) (length u) (omega (arith, with_length_size t a, small))
    (omega (arith, with_length_size u b, ap length same, small)) first.0 in
    same_fronts t a u b first.1 sizes

-- bytes that begin with no text follow no texts
pub no_texts : (texts read : List (List ℕ)) (left : List ℕ) → length (with_lengths read ++ left) < 2 ^ 64
    → (length left ≡ 0 → ⊥) → ((text rest : List ℕ) → left ≡ with_length text ++ rest → ⊥)
    → with_lengths texts ≡ with_lengths read ++ left → ⊥
no_texts [] [] left small some never same = some (ap length (sym same))
no_texts (t ∷ ts) [] left small some never same = never t (with_lengths ts) (sym same)
no_texts [] (r ∷ rs) left small some never same =
    let whole = same ∙ append_assoc (with_length r) (with_lengths rs) left in
    omega (arith, ap length whole, with_length_size r (with_lengths rs ++ left))
no_texts (t ∷ ts) (r ∷ rs) left small some never same =
    let whole : with_length t ++ with_lengths ts ≡ with_length r ++ (with_lengths rs ++ left) =
    same ∙ append_assoc (with_length r) (with_lengths rs) left in
    let fits : length (with_length r ++ (with_lengths rs ++ left)) < 2 ^ 64 =
    omega (arith, small, ap length (append_assoc (with_length r) (with_lengths rs) left)) in
    let both = one_first t r (with_lengths ts) (with_lengths rs ++ left) (omega (arith, ap length whole, fits)) whole in
    no_texts ts rs left (omega (arith, fits, with_length_size r (with_lengths rs ++ left))) some never both.1

-- one more text is read
pub one_read : (read : List (List ℕ)) (bytes left key others : List ℕ) → bytes ≡ with_lengths read ++ left
    → left ≡ with_length key ++ others → bytes ≡ with_lengths (read ++ key ∷ []) ++ others
one_read read bytes left key others whole first =
    whole
    ∙ ap (λ (z : List ℕ). with_lengths read ++ z) first
    ∙ sym (append_assoc (with_lengths read) (with_length key) others)
    ∙ ap (λ (z : List ℕ). (with_lengths read ++ z) ++ others) (sym (append-nil (with_length key)))
    ∙ ap (λ (z : List ℕ). z ++ others) (sym (flat_map-append with_length read (key ∷ [])))

-- and one more answer is appended
pub one_answered : (name : List ℕ) (facts : List CfgValue) (keys : List (List ℕ)) (bytes : List ℕ) (key : List ℕ)
    → (byte : ℕ) → AreKeyAnswers name facts keys bytes → IsKeyAnswer name facts key byte
    → AreKeyAnswers name facts (keys ++ key ∷ []) (bytes ++ byte ∷ [])
one_answered name facts [] [] key byte are is = (is, tt)
one_answered name facts [] (b ∷ bytes) key byte are is = absurd are
one_answered name facts (k ∷ keys) [] key byte are is = absurd are
one_answered name facts (k ∷ keys) (b ∷ bytes) key byte are is =
    (are.0, one_answered name facts keys bytes key byte are.1 is)

-- bytes that are cut in two
pub cut : (xs front back : List ℕ) (n : ℕ) → front ≡ take n xs → back ≡ drop n xs → xs ≡ front ++ back
cut xs front back n before behind = sym (take-append-drop n xs) ∙ (λ i. sym before i ++ sym behind i)

-- 8 bytes that a number ends are that number
pub number_alone : (size front : List ℕ) (n : ℕ) → size ≡ front ++ to_le_bytes w64 n → length size ≡ 8
    → size ≡ to_le_bytes w64 n
number_alone size front n is long =
    let none : front ≡ [] =
    nil_from_length front (omega (arith, ap length is, length-append front (to_le_bytes w64 n), long)) in
    is ∙ ap (λ (z : List ℕ). z ++ to_le_bytes w64 n) none

-- the first text is read from its length
pub first_is : (bytes size rest text others : List ℕ) (n : ℕ) → bytes ≡ size ++ rest → rest ≡ text ++ others
    → size ≡ to_le_bytes w64 n → length text ≡ n → bytes ≡ with_length text ++ others
first_is bytes size rest text others n whole split read long =
    whole
    ∙ (λ i. read i ++ split i)
    ∙ ap (λ (k : ℕ). to_le_bytes w64 k ++ (text ++ others)) (sym long)
    ∙ sym (with_length_is text others)

-- it is longer than the bytes that are left
pub none_first : (bytes size rest text others : List ℕ) (n : ℕ) → length bytes < 2 ^ 64 → bytes ≡ size ++ rest
    → size ≡ to_le_bytes w64 n → n < 2 ^ 64 → length rest < n → bytes ≡ with_length text ++ others → ⊥
none_first bytes size rest text others n few whole read small short same =
    let first = same_fronts size rest (to_le_bytes w64 (length text)) (text ++ others)
    (sym whole ∙ same ∙ with_length_is text others) (ap length read) in
    let fits : length text < 2 ^ 64 = omega (arith, few, ap length same, with_length_size text others) in
    let is : n ≡ length text = same_number n (length text) small fits (sym read ∙ first.0) in
    omega (arith, is, short, ap length first.1, length-append text others)

pub too_few : (bytes text others : List ℕ) → length bytes < 8 → bytes ≡ with_length text ++ others → ⊥
too_few bytes text others few same = omega (arith, few, ap length same, with_length_size text others)

-- the keys that are read so far, and the bytes that answer them
abbrev pub AreReadTo : List ℕ → List ℕ → List ℕ → List CfgValue → List ℕ → Type 0
AreReadTo keys left name facts bytes =
    (read : List (List ℕ)) × ((keys ≡ with_lengths read ++ left) × AreKeyAnswers name facts read bytes)
