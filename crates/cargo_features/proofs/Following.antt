-- What follows from more, and by more steps.
use Rattle.std.proofs.Common.{ℕ, List, length, ◌≤◌, arith}
use Rattle.std.specs.Prelude.{IsTrue}
use Rattle.known_targets.specs.declared.target_set.TargetSet.{TargetSet}
use Rattle.package_graphs.specs.Graphs.{is_in}
use Rattle.cargo_features.specs.Deriving.{Follows, given, follows}
use Rattle.cargo_features.specs.Derivations.{Applies, IsDerived, ArePartOf, HaveAll}
use Rattle.cargo_features.specs.declared.rules.Rule.{Rule}

-- what holds of what is given, and of what a step leads to, holds of what follows
pub held_through : {N : Type 0} (G : N → Type 0) (L : N → N → N → Type 0) (P : N → Type 0)
    → ((n : N) → G n → P n) → ((a b n : N) → P a → P b → L a b n → P n) → (n : N) → Follows G L n → P n
held_through G L P first on n (given m is) = first m is
held_through G L P first on n (follows a b m one two leads) =
    on a b m (held_through G L P first on a one) (held_through G L P first on b two) leads

applies_in_more : (count many : ℕ) (rules others : List Rule) (k a b n : ℕ) → count ≤ many → ArePartOf rules others
    → Applies count rules k a b n → Applies many others k a b n
applies_in_more count many rules others k a b n fits part applies =
    let below = applies.inside in
    record {
      rule = applies.rule;
      is = part applies.rule applies.is;
      first = applies.first;
      second = applies.second;
      to = applies.to;
      inside = omega (arith, below, fits);
      holds = applies.holds;
    }

pub more_derived : (sets more : List TargetSet) (rules others : List Rule) (k n : ℕ) → HaveAll sets more
    → ArePartOf rules others → IsDerived sets rules k n → IsDerived more others k n
more_derived sets more rules others k n all part =
    held_through (λ n. IsTrue (is_in sets n k)) (λ a b n. Applies (length sets) rules k a b n)
    (IsDerived more others k)
    (λ m is. given m (all.sets m k is))
    (λ a b m one two applies.
    follows a b m one two
    (applies_in_more (length sets) (length more) rules others k a b m all.count part applies)) n
