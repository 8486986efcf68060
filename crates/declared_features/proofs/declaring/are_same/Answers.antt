use Rattle.std.proofs.Common.{ℕ, List, arith, refl, sym, ◌∙◌, subst}
use Rattle.declared_features.specs.Edges.{AreSame}
use Rattle.declared_features.proofs.Positions.{same_names, same_each}
use Rattle.declared_features.proofs.declaring.are_same.Goals as goal

pub characters-init : goal.characters-init
characters-init c = λ k below. absurd (omega arith)

pub returns-then-underscored : goal.returns-then-underscored
returns-then-underscored c =
    let left = c.as_bytes-left.result.now in
    let right = c.as_bytes-right.result.now in (
      λ h. absurd (cc),
      λ same.
          let whole : AreSame left right =
          subst (λ (s : List ℕ). AreSame s right) (sym c.as_bytes-left.ensures.value)
          (subst (λ (s : List ℕ). AreSame c.args.name.now s) (sym c.as_bytes-right.ensures.value) same) in
          absurd (c.if-underscored.true (c.underscored.ensures
          ∙ same_each left right c.characters.i c.characters-test.true whole
          ∙ sym c.underscored-in-characters.ensures)),
    )

pub returns : goal.returns
returns c =
    let left = c.as_bytes-left.result.now in
    let right = c.as_bytes-right.result.now in
    let same : AreSame left right =
    same_names left right c.if-left-right.false (λ k below.
    c.characters.invariant k (omega (arith, below, c.characters-test.false))) in
    let whole : AreSame c.args.name.now c.args.other.now =
    subst (λ (s : List ℕ). AreSame s c.args.other.now) c.as_bytes-left.ensures.value
    (subst (λ (s : List ℕ). AreSame left s) c.as_bytes-right.ensures.value same) in
    (λ h. whole, λ h. refl)
