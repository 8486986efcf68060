use Rattle.std.proofs.Common.{◌≡◌, ◌⊎◌, inl, inr, ℕ, ◌+◌, ◌<◌, ◌∙◌, ap, sym, arith}
use Rattle.std.proofs.lemmas.Bool.{cases_lt}
use Rattle.cargo_features.specs.declared.packages.FeatureValue.{FeatureValue}
use Rattle.cargo_features.specs.declared.packages.FeatureValue.TheVariants as member
use Rattle.declared_features.specs.Requested.{IsOneOfAll}
use Rattle.declared_features.proofs.Collecting.{adds_push, adds_then, adds_as}
use Rattle.declared_features.proofs.linking.push_all.Goals as goal

-- one of the first features
IsBelow : ℕ → FeatureValue → Type 0
IsBelow n m = (i : ℕ) × (i < n) × (m ≡ member.Feature i)

below_up : (n : ℕ) (m : FeatureValue) → IsBelow n m ⊎ (member.Feature n ≡ m) → IsBelow (n + 1) m
unfolding IsBelow
below_up n m h =
    elim h [
      | inl before ↦ (before.0, (let below = before.1 in omega (arith, below)), before.2)
      | inr same ↦ (n, omega arith, sym same)
    ]

below_down : (n : ℕ) (m : FeatureValue) → IsBelow (n + 1) m → IsBelow n m ⊎ (member.Feature n ≡ m)
unfolding IsBelow
below_down n m (i, below, is) =
    elim (cases_lt i n) [
      | inl less ↦ inl (i, less, is)
      | inr past ↦
          let same : n ≡ i = omega (arith, below, past) in
          inr (ap (λ (k : ℕ). member.Feature k) same ∙ sym is)
    ]

pub features-preserved : goal.features-preserved
unfolding IsBelow
features-preserved c =
    let i = c.features.i in
    adds_then c.args.members.now.items c.features.members.items c.push.new.self.items (IsBelow i)
    (λ m. member.Feature i ≡ m) (IsBelow (i + 1)) c.features.invariant
    (adds_push c.features.members.items c.push.new.self.items (member.Feature i) c.in_ok-push.ensures.items)
    (below_up i) (below_down i)

pub returns : goal.returns
unfolding IsBelow
returns c =
    adds_as c.args.members.now.items c.features.members.items (IsBelow c.features.i)
    (IsOneOfAll c.args.are_requested c.args.count) c.features.invariant
    (λ m h.
    let below = h.1 in
    (c.if-not-are_requested.false, (h.0, omega (arith, below, c.features.auto.i-end), h.2)))
    (λ m h. let below = h.1.1 in (h.1.0, omega (arith, below, c.features-test.false), h.1.2))
