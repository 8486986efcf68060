-- What is left of a text that was read to a limit, and did not reach it.
use Rattle.std.proofs.Common.{◌≡◌, ℕ, ◌+◌, ◌≤◌, List, length, take, Option, Some, None, IfSome, option_map, min, ap}
use Rattle.std.proofs.Common.{◌∙◌, sym, subst, [], ◌++◌, arith, Result, Ok, Err, IfOk, String, string_bytes, string_len}
use Rattle.std.proofs.lemmas.List.{take_all, length-take}

pub whole : (limit : ℕ) (bytes : List ℕ) (left : Option (List ℕ)) → length bytes ≤ limit
    → IfSome (option_map (take (limit + 1)) left) (λ xs. bytes ≡ xs) → IfSome left (λ xs. bytes ≡ xs)
whole limit bytes None short e = e
whole limit bytes (Some xs) short e =
    let cut : length bytes ≡ min (limit + 1) (length xs) = ap length e ∙ length-take (limit + 1) xs in
    let few : length xs ≤ limit + 1 = omega arith in
    e ∙ take_all (limit + 1) xs few

-- the same of a reader that is taken to one byte more
pub whole_of : {R : Type 0} (remaining : R → Option (List ℕ)) (reader inner : R) (limit most : ℕ)
    (text before bytes : List ℕ) → inner ≡ reader → most ≡ limit + 1 → before ≡ [] → text ≡ bytes
    → length bytes ≤ limit
    → IfSome (option_map (take most) (remaining inner)) (λ xs. bytes ≡ before ++ xs)
    → IfSome (remaining reader) (λ xs. text ≡ xs)
whole_of {R} remaining reader inner limit most text before bytes same plus none out short got =
    let on_inner : IfSome (option_map (take (limit + 1)) (remaining inner)) (λ xs. bytes ≡ xs) =
    subst (λ m. IfSome (option_map (take m) (remaining inner)) (λ xs. bytes ≡ xs)) plus
    (subst (λ b. IfSome (option_map (take most) (remaining inner)) (λ xs. bytes ≡ b ++ xs)) none got) in
    let on_reader : IfSome (option_map (take (limit + 1)) (remaining reader)) (λ xs. bytes ≡ xs) =
    subst (λ r. IfSome (option_map (take (limit + 1)) (remaining r)) (λ xs. bytes ≡ xs)) same on_inner in
    subst (λ t. IfSome (remaining reader) (λ xs. t ≡ xs)) (sym out) (whole limit bytes (remaining reader) short
    on_reader)

-- the text of those bytes, where there is one
pub text_whole : {A E R : Type 0} (remaining : R → Option (List ℕ)) (reader inner : R) (limit most : ℕ)
    (result : Result (String A) E) (before bytes : List ℕ) → inner ≡ reader → most ≡ limit + 1 → before ≡ []
    → IfOk result (λ text. string_bytes text ≡ bytes) → IfOk result (λ text. string_len text ≤ limit)
    → IfSome (option_map (take most) (remaining inner)) (λ xs. bytes ≡ before ++ xs)
    → IfOk result (λ text. IfSome (remaining reader) (λ xs. string_bytes text ≡ xs))
text_whole remaining reader inner limit most (Ok text) before bytes same plus none out within got =
    whole_of remaining reader inner limit most (string_bytes text) before bytes same plus none out
    (subst (λ b. length b ≤ limit) out (subst (λ n. n ≤ limit) text.bytes.ok.0 within)) got
text_whole remaining reader inner limit most (Err e) before bytes same plus none out within got = tt
