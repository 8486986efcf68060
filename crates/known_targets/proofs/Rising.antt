-- Lists whose members rise, from a test that computes.
use Rattle.std.proofs.Common.{◌≡◌, refl, sym, true≢false, Bool, true, false, List, [], ◌∷◌, ◌&&◌}
use Rattle.std.specs.declared.cmp.Ordering.{Ordering}
use Rattle.std.specs.declared.cmp.Ordering.TheVariants.{Less, Equal, Greater}
use Rattle.std.specs.Cmp.{IsTotalOrder}
use Rattle.std.specs.List.{AllByRecursion}
use Rattle.std.specs.List.Sorted.{IsStrictlySortedBy}
use Rattle.known_targets.specs.Table.{is_less, is_rising}

less : (o : Ordering) → is_less o ≡ true → o ≡ Less
less Less h = refl
less Equal h = absurd (true≢false (sym h))
less Greater h = absurd (true≢false (sym h))

first_so : (a b : Bool) → (a && b) ≡ true → a ≡ true
first_so true b h = refl
first_so false b h = h

second_so : (a b : Bool) → (a && b) ≡ true → b ≡ true
second_so true b h = h
second_so false b h = cc

module _ {K : Type 0} (cmp : K → K → Ordering) (order : IsTotalOrder cmp) where
  all_above : (x y : K) (ys : List K) → cmp x y ≡ Less → AllByRecursion (λ z. cmp y z ≡ Less) ys
      → AllByRecursion (λ z. cmp x z ≡ Less) ys
  all_above x y [] h all = tt
  all_above x y (z ∷ zs) h all = (order.trans x y z h all.0, all_above x y zs h all.1)

  pub sorted : (xs : List K) → is_rising cmp xs ≡ true → IsStrictlySortedBy cmp xs
  unfolding is_rising IsStrictlySortedBy
  sorted [] h = tt
  sorted (x ∷ []) h = (tt, tt)
  sorted (x ∷ y ∷ ys) h =
      let rest = sorted (y ∷ ys) (second_so (is_less (cmp x y)) (is_rising cmp (y ∷ ys)) h) in
      let next = less (cmp x y) (first_so (is_less (cmp x y)) (is_rising cmp (y ∷ ys)) h) in
      ((next, all_above x y ys next rest.0), rest)
