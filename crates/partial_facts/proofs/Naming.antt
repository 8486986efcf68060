-- What is known and what is left of a condition, by what is known of the target's name and of the expression.
use Rattle.std.proofs.Common.{◌≡◌, ◌∙◌, refl, sym, ℕ, ◌≤◌, Bool, true, false, List, [], Option, Some, None}
use Rattle.std.proofs.Common.{IfSome, Bor, arith}
use Rattle.std.specs.Prelude.{◌↔◌, IsTrue, bytes_eq}
use Rattle.std.specs.Option.{option_copied}
use Rattle.std.specs.FinSet.{contains}
use Rattle.std.proofs.lemmas.Slice.Eq.{bytes_eq-Decides}
use Rattle.cargo_platform.specs.Trees.{Condition, Target, Expression}
use Rattle.cargo_platform.specs.Facts.{Pair, FactSet, truth, IsTrueCondition}
use Rattle.cargo_platform.specs.WellFormed.{IsWellFormed, IsWellFormedCondition}
use Rattle.cargo_platform.specs.Warnings.{values, condition_values}
use Rattle.cargo_platform.specs.Sizes.{size, depth}
use Rattle.partial_facts.specs.Kleene.{kleene}
use Rattle.partial_facts.specs.Residual.{literal, residual_tree, literal_truth, IsLiteralOrOpen, IsSubsequence}
use Rattle.partial_facts.specs.Conditions.{kleene_condition, residual_condition, condition_literal_truth}
use Rattle.partial_facts.specs.Conditions.{IsLiteralOrOpenCondition, condition_size, condition_depth}
use Rattle.partial_facts.proofs.KleeneSound.{kleene_sound}
use Rattle.partial_facts.proofs.Leaving.{as_true, decided, literal_or_open, literal_true}
use Rattle.partial_facts.proofs.Keeping.{in_order, well_formed, no_larger, no_deeper}

pub copied : (name : Option (Bor (List ℕ))) (target : List ℕ) → IfSome name (λ n. target ≡ n.now)
    → IfSome (option_copied name) (λ n. target ≡ n)
copied None target h = tt
copied (Some n) target h = h

-- ---- a literal

literal_known : (b : Bool) → literal_truth (literal b) ≡ Some b
literal_known true = refl
literal_known false = refl

literal_asks : (told : Pair → Option Bool) (b : Bool) → IsLiteralOrOpen told (literal b)
literal_asks told true = tt
literal_asks told false = tt

literal_formed : (b : Bool) → IsWellFormed (literal b)
literal_formed true = tt
literal_formed false = tt

literal_size : (b : Bool) → size (literal b) ≤ 1
literal_size true = omega arith
literal_size false = omega arith

literal_depth : (b : Bool) → depth (literal b) ≤ 1
literal_depth true = omega arith
literal_depth false = omega arith

-- ---- truth

is_this_target : (name known target : List ℕ) → target ≡ known → (name ≡ target) ↔ IsTrue (bytes_eq name known)
is_this_target name known target is =
    (λ h. (bytes_eq-Decides name known).1 (h ∙ is), λ h. (bytes_eq-Decides name known).0 h ∙ sym is)

same_truth : (a b : Bool) → a ≡ b → IsTrue a ↔ IsTrue b
same_truth a b is = (λ h. sym is ∙ h, λ h. is ∙ h)

if_known : (x : Option Bool) (a : Bool) → IfSome x (λ b. a ≡ b) → IfSome x (λ b. IsTrue a ↔ IsTrue b)
if_known (Some b) a is = same_truth a b is
if_known None a is = tt

module _ (name : Option (List ℕ)) (told : Pair → Option Bool) (target : List ℕ) (s : FactSet)
    (named : IfSome name (λ n. target ≡ n))
    (agrees : (p : Pair) → IfSome (told p) (λ b. contains s p ≡ b)) where
  kleene_true : (x : Option (List ℕ)) → IfSome x (λ n. target ≡ n) → (p : Condition)
      → IfSome (kleene_condition x told p) (λ b. IsTrueCondition target s p ↔ IsTrue b)
  kleene_true (Some n) is (Target t) = is_this_target t n target is
  kleene_true None is (Target t) = tt
  kleene_true x is (Expression e) =
      if_known (kleene told e) (truth s e) (kleene_sound told s agrees e (kleene told e) refl)

  pub condition_sound : (p : Condition) (answer : Option Bool) → answer ≡ kleene_condition name told p
      → IfSome answer (λ b. IsTrueCondition target s p ↔ IsTrue b)
  condition_sound p answer is = rw is (kleene_true name named p)

  left_true : (x : Option (List ℕ)) → IfSome x (λ n. target ≡ n) → (p : Condition)
      → IsTrueCondition target s (residual_condition x told p) ↔ IsTrueCondition target s p
  left_true (Some n) is (Target t) =
      let b : Bool = bytes_eq t n in
      let both : (t ≡ target) ↔ IsTrue b = is_this_target t n target is in
      (λ h. both.1 (sym (literal_true s b) ∙ h), λ h. literal_true s b ∙ both.0 h)
  left_true None is (Target t) = (λ h. h, λ h. h)
  left_true x is (Expression e) = same_truth (truth s (residual_tree told e)) (truth s e) (as_true told s agrees e)

  pub condition_as_true : (p : Condition)
      → IsTrueCondition target s (residual_condition name told p) ↔ IsTrueCondition target s p
  condition_as_true = left_true name named

module _ (told : Pair → Option Bool) where
  pub condition_decided : (x : Option (List ℕ)) (p : Condition)
      → condition_literal_truth (residual_condition x told p) ≡ kleene_condition x told p
  condition_decided (Some n) (Target t) = literal_known (bytes_eq t n)
  condition_decided None (Target t) = refl
  condition_decided x (Expression e) = decided told e

  pub condition_asks : (x : Option (List ℕ)) (p : Condition)
      → IsLiteralOrOpenCondition x told (residual_condition x told p)
  condition_asks (Some n) (Target t) = literal_asks told (bytes_eq t n)
  condition_asks None (Target t) = refl
  condition_asks x (Expression e) = literal_or_open told e

  literal_values : (b : Bool) → IsSubsequence (values (literal b)) []
  literal_values true = tt
  literal_values false = tt

  pub condition_in_order : (x : Option (List ℕ)) (p : Condition)
      → IsSubsequence (condition_values (residual_condition x told p)) (condition_values p)
  condition_in_order (Some n) (Target t) = literal_values (bytes_eq t n)
  condition_in_order None (Target t) = tt
  condition_in_order x (Expression e) = in_order told e

  pub condition_formed : (x : Option (List ℕ)) (p : Condition) → IsWellFormedCondition p
      → IsWellFormedCondition (residual_condition x told p)
  condition_formed (Some n) (Target t) w = literal_formed (bytes_eq t n)
  condition_formed None (Target t) w = w
  condition_formed x (Expression e) w = well_formed told e w

  pub condition_no_larger : (x : Option (List ℕ)) (p : Condition)
      → condition_size (residual_condition x told p) ≤ condition_size p
  condition_no_larger (Some n) (Target t) = literal_size (bytes_eq t n)
  condition_no_larger None (Target t) = omega arith
  condition_no_larger x (Expression e) = no_larger told e

  pub condition_no_deeper : (x : Option (List ℕ)) (p : Condition)
      → condition_depth (residual_condition x told p) ≤ condition_depth p
  condition_no_deeper (Some n) (Target t) = literal_depth (bytes_eq t n)
  condition_no_deeper None (Target t) = omega arith
  condition_no_deeper x (Expression e) = no_deeper told e
