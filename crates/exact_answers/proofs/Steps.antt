-- What is made of expressions, step by step.
use Rattle.std.proofs.Common.{◌≡◌, ◌∙◌, refl, sym, ap, ℕ, ◌<◌, length, arith}
use Rattle.std.proofs.Common.{Bool, true, false, not, ◌&&◌, ◌||◌, List, [], ◌∷◌, map, Option, Some}
use Rattle.std.specs.Prelude.{if◌then◌else◌}
use Rattle.std.specs.Borrow.{Bor}
use Rattle.cargo_platform.specs.declared.cfg.CfgExpr.{CfgExpr}
use Rattle.cargo_platform.specs.declared.cfg.Cfg.{Cfg}
use Rattle.cargo_platform.specs.Trees.{tree_of}
use Rattle.cargo_platform.specs.Facts.{Pair, FactSet}
use Rattle.std.specs.FinSet.{contains}
use Rattle.exact_answers.specs.declared.goal_diagrams.building.Goal.{Goal}
use Rattle.exact_answers.specs.declared.goal_diagrams.table.Table.{Table}
use Rattle.exact_answers.specs.Goals.{goals_met, true_as_wanted, IsAsTold}
use Rattle.exact_answers.specs.Diagrams.{joint, value, nodes_of, places, Grows, IsMade}
use Rattle.exact_answers.specs.Goals.{holds_in}
use Rattle.exact_answers.specs.Inside.Making.{says}
use Rattle.exact_answers.specs.Goals.{pairs_of}
use Rattle.exact_answers.specs.Inside.Making.{each_wanted, some_wanted}
use Rattle.exact_answers.specs.Inside.Making.{AreApart}
use Rattle.exact_answers.proofs.Pairs.{none_beside, holds_or_not, told_is}
use Rattle.exact_answers.proofs.Tables.{value-true, value-false, value-literal}
use Rattle.exact_answers.proofs.Members.{wanted_in, and_on, or_on, and_done, or_done}

-- ---- one place joined to another one

module _ (s : FactSet) (cs : List (Bor Cfg)) (a b c : Table) (among place both : ℕ) where
  pub and-step : (t : Bool) → among < places (nodes_of a) → IsMade a b place → says s cs b place ≡ t
      → ((holds : ℕ → Bool)
      → value holds (nodes_of c) both ≡ joint true (value holds (nodes_of b) among) (value holds (nodes_of b) place))
      → says s cs c both ≡ (says s cs a among && t)
  and-step t h made is joins =
      joins (holds_in s (pairs_of cs))
      ∙ ap (λ x. x && says s cs b place) (made.grows.same (holds_in s (pairs_of cs)) among h)
      ∙ ap (λ x. says s cs a among && x) is

  pub or-step : (t : Bool) → among < places (nodes_of a) → IsMade a b place → says s cs b place ≡ (says s cs a 1 && t)
      → ((holds : ℕ → Bool)
      → value holds (nodes_of c) both ≡ joint false (value holds (nodes_of b) among) (value holds (nodes_of b) place))
      → says s cs c both ≡ (says s cs a among || t)
  or-step t h made is joins =
      joins (holds_in s (pairs_of cs))
      ∙ ap (λ x. x || says s cs b place) (made.grows.same (holds_in s (pairs_of cs)) among h)
      ∙ ap (λ x. says s cs a among || x)
      (is ∙ ap (λ x. x && t) (value-true (holds_in s (pairs_of cs)) (nodes_of a)))

pub literal-step : (s : FactSet) (cs : List (Bor Cfg)) (a c : Table) (among lit both : ℕ) (t : Bool)
    → lit ≡ (if t then 1 else 0)
    → ((holds : ℕ → Bool)
    → value holds (nodes_of c) both ≡ joint true (value holds (nodes_of a) among) (value holds (nodes_of a) lit))
    → says s cs c both ≡ (says s cs a among && t)
literal-step s cs a c among lit both t e joins =
    joins (holds_in s (pairs_of cs))
    ∙ ap (λ x. says s cs a among && x)
    (ap (value (holds_in s (pairs_of cs)) (nodes_of a)) e ∙ value-literal (holds_in s (pairs_of cs)) (nodes_of a) t)

pub none_yet : (s : FactSet) (cs : List (Bor Cfg)) (a : Table) (x : Bool) → (says s cs a 0 || x) ≡ x
none_yet s cs a x = ap (λ b. b || x) (value-false (holds_in s (pairs_of cs)) (nodes_of a))

-- ---- one member after the other

module _ (s : FactSet) (w : Bool) (left others : List CfgExpr) (e : CfgExpr) (x y d : Bool)
    (is : left ≡ e ∷ others) where
  pub each_on : (x && each_wanted w s (map tree_of left)) ≡ d → y ≡ (x && wanted_in s w e)
      → (y && each_wanted w s (map tree_of others)) ≡ d
  each_on h k =
      and_on x (wanted_in s w e) (each_wanted w s (map tree_of others)) d y
      (sym (ap (λ es. x && each_wanted w s (map tree_of es)) is) ∙ h) k

  pub some_on : (x || some_wanted w s (map tree_of left)) ≡ d → y ≡ (x || wanted_in s w e)
      → (y || some_wanted w s (map tree_of others)) ≡ d
  some_on h k =
      or_on x (wanted_in s w e) (some_wanted w s (map tree_of others)) d y
      (sym (ap (λ es. x || some_wanted w s (map tree_of es)) is) ∙ h) k

pub goals_on : (s : FactSet) (left others : List Goal) (g : Goal) (x y d : Bool) → left ≡ g ∷ others
    → (x && goals_met s left) ≡ d → y ≡ (x && wanted_in s g.wanted g.e.now) → (y && goals_met s others) ≡ d
goals_on s left others g x y d is h k =
    and_on x (wanted_in s g.wanted g.e.now) (goals_met s others) d y
    (sym (ap (λ gs. x && goals_met s gs) is) ∙ h) k

pub each_end : (s : FactSet) (w : Bool) (left : List CfgExpr) (x d : Bool) → length left ≡ 0
    → (x && each_wanted w s (map tree_of left)) ≡ d → x ≡ d
each_end s w [] x d none h = and_done x d h
each_end s w (e ∷ es) x d none h = absurd (let no : ⊥ = omega (arith, none) in no)

pub some_end : (s : FactSet) (w : Bool) (left : List CfgExpr) (x d : Bool) → length left ≡ 0
    → (x || some_wanted w s (map tree_of left)) ≡ d → x ≡ d
some_end s w [] x d none h = or_done x d h
some_end s w (e ∷ es) x d none h = absurd (let no : ⊥ = omega (arith, none) in no)

pub goals_end : (s : FactSet) (left : List Goal) (x d : Bool) → length left ≡ 0
    → (x && goals_met s left) ≡ d → x ≡ d
goals_end s [] x d none h = and_done x d h
goals_end s (g ∷ gs) x d none h = absurd (let no : ⊥ = omega (arith, none) in no)

-- ---- pairs

and_true : (x : Bool) → (x && true) ≡ x
and_true true = refl
and_true false = refl

pub told-step : (told : Pair → Option Bool) (s : FactSet) (cs : List (Bor Cfg)) (a : Table) (p : Pair)
    (place : ℕ) (w truth t : Bool) → place ≡ (if t then 1 else 0) → t ≡ true_as_wanted w truth
    → told p ≡ Some truth → IsAsTold told s → says s cs a place ≡ true_as_wanted w (contains s p)
told-step told s cs a p place w truth t e f is so =
    ap (value (holds_in s (pairs_of cs)) (nodes_of a)) e ∙ value-literal (holds_in s (pairs_of cs)) (nodes_of a) t
    ∙ f ∙ ap (true_as_wanted w) (sym (told_is told s p truth so is))

pub apart-step : (s : FactSet) (cs : List (Bor Cfg)) (a b c : Table) (among place both one other : ℕ)
    → AreApart (holds_in s (pairs_of cs)) one other → holds_in s (pairs_of cs) one ≡ true
    → among < places (nodes_of a) → IsMade a b place
    → says s cs b place ≡ not (holds_in s (pairs_of cs) other)
    → ((holds : ℕ → Bool)
    → value holds (nodes_of c) both ≡ joint true (value holds (nodes_of b) among) (value holds (nodes_of b) place))
    → says s cs c both ≡ says s cs a among
apart-step s cs a b c among place both one other apart holds h made is joins =
    and-step s cs a b c among place both true h made (is ∙ none_beside _ _ apart holds) joins
    ∙ and_true (says s cs a among)

pub one-step : (s : FactSet) (cs : List (Bor Cfg)) (a b c : Table) (others without place number : ℕ)
    → (holds_in s (pairs_of cs) number ≡ true → says s cs a others ≡ true)
    → others < places (nodes_of a) → Grows (nodes_of a) (nodes_of b)
    → says s cs b without ≡ not (holds_in s (pairs_of cs) number)
    → ((holds : ℕ → Bool)
    → value holds (nodes_of c) place ≡ joint false (value holds (nodes_of b) others) (value holds (nodes_of b) without))
    → says s cs c place ≡ true
one-step s cs a b c others without place number is h grows is_without joins =
    joins (holds_in s (pairs_of cs))
    ∙ ap (λ x. joint false (says s cs b others) x) is_without
    ∙ holds_or_not (holds_in s (pairs_of cs) number) (says s cs b others)
    (λ holds. grows.same (holds_in s (pairs_of cs)) others h ∙ is holds)
