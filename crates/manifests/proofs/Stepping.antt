-- One more token of a declaration.
use Rattle.std.proofs.Common.{◌≡◌, ◌∙◌, sym, ap, refl, ℕ, ◌+◌, ◌<◌, Bool, List, ◌∷◌, drop, length, get_or}
use Rattle.std.specs.Prelude.{bytes_eq, codes, cond}
use Rattle.std.proofs.Common.{None, true, false, Option, Result, Ok, Err, IfOk, add-one}
use Rattle.std.proofs.Math.Seq.{drop-cons}
use Rattle.std.specs.Borrow.{Bor}
use Rattle.cargo_platform.specs.declared.tokens.Token.{Token}
use Rattle.cargo_platform.specs.Tokens.{Lexeme, lexeme}
use Rattle.manifests.specs.Declarations.{DeclaredEntry, DeclaredValues, lexemes_in, names_from, values_from}
use Rattle.manifests.specs.Steps.{Steps, Turns, values_at_stage, values_after, names_after, behind}
use Rattle.manifests.specs.declared.declared.Stage.{Stage}
use Rattle.manifests.specs.declared.declared.Step.{Step}
use Rattle.manifests.specs.declared.declared.Step.TheVariants as step
use Rattle.manifests.specs.declared.declared.Turn.{Turn}

pub ok_as : {A E X : Type 0} (f : A → X) (r : Result A E) (x y : X) → x ≡ y → IfOk r (λ a. f a ≡ x)
    → IfOk r (λ a. f a ≡ y)
ok_as f (Ok a) x y is h = h ∙ is
ok_as f (Err e) x y is h = tt

-- what follows `any()`, and `none()`
pub ends_any : (word : Bor (List ℕ)) (texts : List (List ℕ)) (any none : Bool) (ls : List Lexeme)
    (all : Option DeclaredValues) → bytes_eq word.now (codes "any") ≡ true
    → values_after (step.Word word) texts any none ls ≡ all → values_from false texts true none ls ≡ all
ends_any word texts any none ls all is so = sym (ap (λ b. cond b (values_from false texts true none ls)
    (cond (bytes_eq word.now (codes "none")) (values_from false texts any true ls) None)) is) ∙ so

pub ends_none : (word : Bor (List ℕ)) (texts : List (List ℕ)) (any none : Bool) (ls : List Lexeme)
    (all : Option DeclaredValues) → bytes_eq word.now (codes "any") ≡ false
    → bytes_eq word.now (codes "none") ≡ true
    → values_after (step.Word word) texts any none ls ≡ all → values_from false texts any true ls ≡ all
ends_none word texts any none ls all not_any is so =
    sym ((λ j. cond (not_any j) (values_from false texts true none ls)
    (cond (is j) (values_from false texts any true ls) None))) ∙ so

module _ (ts : List Token) (i : ℕ) (d : Token) (within : i < length ts) where
  first : lexemes_in (drop i ts) ≡ lexeme (get_or ts i d) ∷ lexemes_in (drop (i + 1) ts)
  first = rw (add-one, drop-cons ts i d) refl

  pub one_step : (at : Stage) (texts : List (List ℕ)) (any none : Bool) (does : Step) (all : Option DeclaredValues)
      → Steps at (lexeme (get_or ts i d)) does
      → values_at_stage at texts any none (lexemes_in (drop i ts)) ≡ all
      → values_after does texts any none (lexemes_in (drop (i + 1) ts)) ≡ all
  one_step at texts any none does all so before =
      sym (so texts any none (lexemes_in (drop (i + 1) ts)))
      ∙ ap (values_at_stage at texts any none) (sym first) ∙ before

  pub one_turn : (names : List (List ℕ)) (word : Option (Bool × Bor (List ℕ))) (does : Turn)
      (all : Option DeclaredEntry) → Turns word (lexeme (get_or ts i d)) does
      → names_from names (behind word (lexemes_in (drop i ts))) ≡ all
      → names_after does names (lexemes_in (drop (i + 1) ts)) ≡ all
  one_turn names word does all so before =
      sym (so names (lexemes_in (drop (i + 1) ts))) ∙ ap (λ ls. names_from names (behind word ls)) (sym first) ∙ before
