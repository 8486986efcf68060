-- A search goes on in one half of what is left, since what it looks for is not in the other half.
use Rattle.std.proofs.Common.{◌≡◌, refl, sym, ap, ◌∙◌, ℕ, ◌+◌, ◌-◌, ◌*◌, ◌^◌, ◌<◌, ◌≤◌, Bool, false, ◌||◌}
use Rattle.std.proofs.Common.{List, ◌∷◌, length, take, drop, get_or, arith}
use Rattle.std.specs.declared.cmp.Ordering.{Ordering}
use Rattle.std.specs.declared.cmp.Ordering.TheVariants.{Less, Equal, Greater}
use Rattle.std.specs.Ordering.{ordering_index, is_eq}
use Rattle.std.specs.List.{list_any}
use Rattle.std.specs.List.Sorted.{IsNonDecreasingBy}
use Rattle.std.proofs.Math.Pow.{pow_mono}
use Rattle.std.proofs.Math.Nat.{mul-le-mul_left, mul-le-mul_right}
use Rattle.std.proofs.lemmas.Grind.{pow_more}
use Rattle.std.proofs.lemmas.List.{drop_more, get_or-drop, get_or-take, length-drop, length-take-le}
use Rattle.std.proofs.lemmas.List.{take-append-drop}
use Rattle.std.proofs.lemmas.List.Elements.{All-from_get_or}
use Rattle.std.proofs.lemmas.List.Folds.{list_any-append, list_any_none}
use Rattle.cargo_platform.proofs.LastMembers.{or_false}

no_tie_below : (r : Ordering) → ordering_index r ≤ 0 → is_eq r ≡ false
no_tie_below Less bound = refl
no_tie_below Equal bound = absurd (omega arith)
no_tie_below Greater bound = refl

no_tie_above : (r : Ordering) → 2 ≤ ordering_index r → is_eq r ≡ false
no_tie_above Less bound = refl
no_tie_above Equal bound = absurd (omega arith)
no_tie_above Greater bound = refl

-- at a member in the middle that is too small or too great
module _ {A : Type 0} (order : A → Ordering) (xs : List A) (i : ℕ) (x : A) (after : List A)
    (rising : IsNonDecreasingBy (λ a. ordering_index (order a)) xs) (cut : drop i xs ≡ x ∷ after) where
  abbrev test : A → Bool
  test a = is_eq (order a)

  within : i < length xs
  within = omega (arith, length-drop i xs, ap (λ ys. length ys) cut)

  at_middle : drop i xs ≡ get_or xs i x ∷ drop (i + 1) xs
  at_middle = drop_more xs i x within

  is_middle : get_or xs i x ≡ x
  is_middle = let at = at_middle in cc

  pub is_after : drop (i + 1) xs ≡ after
  is_after = let at = at_middle in cc

  split : (k : ℕ) → (list_any test (take k xs) || list_any test (drop k xs)) ≡ list_any test xs
  split k = sym (list_any-append test (take k xs) (drop k xs)) ∙ ap (list_any test) (take-append-drop k xs)

  pub above_Less : order x ≡ Less → list_any (λ a. is_eq (order a)) after ≡ list_any (λ a. is_eq (order a)) xs
  above_Less small =
      let least : ordering_index (order (get_or xs i x)) ≡ 0 =
      ap (λ a. ordering_index (order a)) is_middle ∙ ap ordering_index small in
      let none : (k : ℕ) → k < length (take (i + 1) xs) → test (get_or (take (i + 1) xs) k x) ≡ false = λ k below.
      let near : k < i + 1 = omega (arith, length-take-le (i + 1) xs (omega (arith, within)), below) in
      ap test (get_or-take (i + 1) xs k x near)
      ∙ no_tie_below (order (get_or xs k x)) (omega (arith, rising k i x (omega arith) within, least)) in
      ap (list_any test) (sym is_after)
      ∙ ap (λ b. b || list_any test (drop (i + 1) xs))
      (sym (list_any_none test (take (i + 1) xs) (All-from_get_or (λ a. test a ≡ false) (take (i + 1) xs) x none)))
      ∙ split (i + 1)

  pub below_Greater : order x ≡ Greater
      → list_any (λ a. is_eq (order a)) (take i xs) ≡ list_any (λ a. is_eq (order a)) xs
  below_Greater great =
      let greatest : ordering_index (order (get_or xs i x)) ≡ 2 =
      ap (λ a. ordering_index (order a)) is_middle ∙ ap ordering_index great in
      let none : (k : ℕ) → k < length (drop i xs) → test (get_or (drop i xs) k x) ≡ false = λ k below.
      let far : i + k < length xs = omega (arith, length-drop i xs, below) in
      ap test (get_or-drop i xs k x)
      ∙ no_tie_above (order (get_or xs (i + k) x)) (omega (arith, rising i (i + k) x (omega arith) far, greatest)) in
      sym (or_false (list_any test (take i xs)))
      ∙ ap (λ b. list_any test (take i xs) || b)
      (sym (list_any_none test (drop i xs) (All-from_get_or (λ a. test a ≡ false) (drop i xs) x none)))
      ∙ split i

-- the state of a search: what it looks for is in what is left if it is in the list at all, and each comparison halved
-- what is left
pub record IsHalved {A : Type 0} (order : A → Ordering) (xs left : List A) (old now : ℕ) : Type 0 where
  pub rising : IsNonDecreasingBy (λ a. ordering_index (order a)) left
  pub same : list_any (λ a. is_eq (order a)) left ≡ list_any (λ a. is_eq (order a)) xs
  pub grows : old ≤ now
  pub few : 2 ^ (now - old) ≤ 2 * length xs + 1
  pub halved : 2 ^ (now - old) * length left ≤ length xs

-- one more comparison, after which what is left is at most half as long
module _ (k m size left all : ℕ) (more : m ≤ k + 1) (bound : 2 ^ k * size ≤ all) where
  pub still_few : 0 < size → 2 ^ m ≤ 2 * all + 1
  still_few some =
      let most : 2 ^ m ≤ 2 ^ k * 2 = rw (pow_more 2 k) at (pow_mono more) in
      let once : 2 ^ k * 1 ≤ 2 ^ k * size = mul-le-mul_left (2 ^ k) some in
      omega arith

  pub still_halved : 2 * left ≤ size → 2 ^ m * left ≤ all
  still_halved half =
      let most : 2 ^ m * left ≤ 2 ^ k * 2 * left = mul-le-mul_right left (rw (pow_more 2 k) at (pow_mono more)) in
      let within : 2 ^ k * (2 * left) ≤ 2 ^ k * size = mul-le-mul_left (2 ^ k) half in
      omega arith
