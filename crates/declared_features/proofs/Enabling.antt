-- Features that are enabled on some target and side.
use Rattle.std.proofs.Common.{◌≡◌, ℕ, zero, suc, ◌+◌, ◌<◌, ◌||◌, sym, ◌∙◌, ap, subst, refl, Bool, true, false}
use Rattle.std.proofs.Common.{◌⊎◌, inl, inr, arith, not}
use Rattle.std.specs.Prelude.{◌↔◌}
use Rattle.std.proofs.lemmas.Bool.{cases_lt}
use Rattle.known_targets.specs.Sets.{is_member}
use Rattle.known_targets.specs.declared.table.TheConstants.{COUNT}
use Rattle.known_targets.specs.declared.target_set.TargetSet.{TargetSet}
use Rattle.package_graphs.specs.declared.sides.Side.{Side}
use Rattle.package_graphs.specs.declared.sides.Side.TheVariants.{Target, Host}
use Rattle.cargo_features.specs.Resolved.{holds_in}
use Rattle.cargo_features.specs.declared.claims.Claim.TheVariants as claim
use Rattle.cargo_features.specs.declared.resolved.Resolved.{Resolved}
use Rattle.declared_features.specs.MissingEdges.{IsEnabled}
use Rattle.declared_features.proofs.First.{none_below}

pub either : (b : Bool) → (b ≡ true) ⊎ (b ≡ false)
either true = inl refl
either false = inr refl

some_below : (f : ℕ → Bool) (n : ℕ)
    → ((k : ℕ) → k < n → f k ≡ false) ⊎ ((k : ℕ) × (k < n) × (f k ≡ true))
some_below f zero = inl (λ k below. absurd (omega arith))
some_below f (suc n) =
    elim (some_below f n) [
      | inl none ↦
          elim (either (f n)) [
            | inl on ↦ inr (n, omega arith, on)
            | inr off ↦
                inl (λ k below.
                elim (cases_lt k n) [
                  | inl less ↦ none k less
                  | inr past ↦
                      let is : k ≡ n = omega (arith, below, past) in
                      ap f is ∙ off
                ])
          ]
      | inr some ↦ let below = some.1 in inr (some.0, omega arith, some.2)
    ]

one_of : (a b : Bool) → (a || b) ≡ true → (a ≡ true) ⊎ (b ≡ true)
one_of true b h = inl refl
one_of false b h = inr h

left_one : (a b : Bool) → a ≡ true → (a || b) ≡ true
left_one true b h = refl
left_one false b h = absurd (let e : false ≡ true = h in cc)

right_one : (a b : Bool) → b ≡ true → (a || b) ≡ true
right_one true b h = refl
right_one false b h = h

not_not : (b : Bool) → not b ≡ true → b ≡ true → ⊥
not_not true h is = absurd (let e : false ≡ true = h in cc)
not_not false h is = absurd (let e : false ≡ true = is in cc)

pub not_from : (b : Bool) → (b ≡ true → ⊥) → not b ≡ true
not_from true none = absurd (none refl)
not_from false none = refl

pub not_true : (b : Bool) → not b ≡ true → b ≡ false
not_true true h = absurd (let e : false ≡ true = h in cc)
not_true false h = refl

-- the targets on which the feature is enabled on either side are not none
pub some_target : (resolved : Resolved) (node feature : ℕ) (target host both : TargetSet) (empty : Bool)
    → ((k : ℕ) → k < COUNT → is_member target k ≡ holds_in resolved (claim.Feature node Target feature) k)
    → ((k : ℕ) → k < COUNT → is_member host k ≡ holds_in resolved (claim.Feature node Host feature) k)
    → ((k : ℕ) → k < COUNT → is_member both k ≡ (is_member target k || is_member host k))
    → (empty ≡ true → (k : ℕ) → k < COUNT → is_member both k ≡ false)
    → (((k : ℕ) → k < COUNT → is_member both k ≡ false) → empty ≡ true)
    → (not empty ≡ true) ↔ IsEnabled resolved node feature
some_target resolved node feature target host both empty of_target of_host of_both if_empty if_none = (
  λ h.
      elim (some_below (λ k. is_member both k) COUNT) [
        | inl none ↦ absurd (not_not empty h (if_none none))
        | inr some ↦
            elim (one_of (is_member target some.0) (is_member host some.0)
            (sym (of_both some.0 some.1) ∙ some.2)) [
              | inl on ↦ record {
                target = some.0;
                known = some.1;
                side = Target;
                holds = sym (of_target some.0 some.1) ∙ on;
              }
              | inr on ↦ record {
                target = some.0;
                known = some.1;
                side = Host;
                holds = sym (of_host some.0 some.1) ∙ on;
              }
            ]
      ],
  λ enabled.
      not_from empty
      (λ none.
      let k = enabled.target in
      let off : is_member both k ≡ false = if_empty none k enabled.known in
      let on : is_member both k ≡ true =
      of_both k enabled.known ∙ on_side resolved node feature target host enabled.side k (of_target k enabled.known)
      (of_host k enabled.known) enabled.holds in
      cc),
)
  where
    on_side : (resolved : Resolved) (node feature : ℕ) (target host : TargetSet) (side : Side) (k : ℕ)
        → is_member target k ≡ holds_in resolved (claim.Feature node Target feature) k
        → is_member host k ≡ holds_in resolved (claim.Feature node Host feature) k
        → holds_in resolved (claim.Feature node side feature) k ≡ true
        → (is_member target k || is_member host k) ≡ true
    on_side resolved node feature target host Target k of_target of_host holds =
        left_one (is_member target k) (is_member host k) (of_target ∙ holds)
    on_side resolved node feature target host Host k of_target of_host holds =
        right_one (is_member target k) (is_member host k) (of_host ∙ holds)
