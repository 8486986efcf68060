-- The text of a condition: it spells at most one, and the printed text of a well-formed one spells it.
use Rattle.std.proofs.Common.{◌≡◌, refl, sym, ap, ◌∙◌, subst, ℕ, Bool, false, List, ◌++◌, codes}
use Rattle.std.proofs.lemmas.List.{append_cancel_left, append_cancel_right}
use Rattle.cargo_platform.specs.Trees.{Tree, Condition, Target, Expression}
use Rattle.cargo_platform.specs.Platforms.{IsTargetName, IsCfgOf, IsConditionText}
use Rattle.cargo_platform.specs.WellFormed.{IsWellFormedCondition}
use Rattle.cargo_platform.specs.Print.{print, print_condition}
use Rattle.cargo_platform.specs.Facts.{FactSet, truth}
use Rattle.cargo_platform.proofs.OneText.{one_tree_text}
use Rattle.cargo_platform.proofs.PrintedSpells.{printed_spells}
use Rattle.cargo_platform.proofs.WellFormedness.{spelled_well_formed}
use Rattle.cargo_platform.proofs.TargetNames.{name_is_bare}

-- one text is between `cfg(` and `)`
pub one_inner : (text i j : List ℕ) → IsCfgOf text i → IsCfgOf text j → i ≡ j
one_inner text i j p q =
    append_cancel_left (codes "cfg(") i j
    (append_cancel_right (codes "cfg(" ++ i) (codes "cfg(" ++ j) (codes ")") (sym p ∙ q))

pub one_expression : (text : List ℕ) (d e : Tree) → IsConditionText text (Expression d)
    → IsConditionText text (Expression e) → d ≡ e
one_expression text d e p q =
    one_tree_text p.0 d e p.2 (rw (← one_inner text q.0 p.0 q.1 p.1) q.2)

-- A text spells at most one condition.
pub one_condition : (text : List ℕ) (p q : Condition) → IsConditionText text p → IsConditionText text q → p ≡ q
one_condition text (Target m) (Target n) p q = ap Target (p.0 ∙ sym q.0)
one_condition text (Target m) (Expression e) p q = absurd (p.1 q.0 q.1)
one_condition text (Expression d) (Target n) p q = absurd (q.1 p.0 p.1)
one_condition text (Expression d) (Expression e) p q = ap Expression (one_expression text d e p q)

-- what one expression of a text is not, none is
pub none_true : (text : List ℕ) (facts : FactSet) (d : Tree) (b : Bool) → IsConditionText text (Expression d)
    → b ≡ truth facts d → b ≡ false → (e : Tree) → IsConditionText text (Expression e) → truth facts e ≡ false
none_true text facts d b p is no_truth e q = ap (truth facts) (one_expression text e d q p) ∙ sym is ∙ no_truth

-- A text spells only well-formed conditions.
pub spelled_well_formed_condition : (text : List ℕ) (p : Condition) → IsConditionText text p → IsWellFormedCondition p
spelled_well_formed_condition text (Target m) p = subst IsTargetName (sym p.0) p.2
spelled_well_formed_condition text (Expression e) p = spelled_well_formed p.0 e p.2

-- The printed text of a well-formed condition is accepted, with that condition.
pub printed_condition_spells : (p : Condition) → IsWellFormedCondition p → IsConditionText (print_condition p) p
printed_condition_spells (Target m) w = (refl, name_is_bare m w, w)
printed_condition_spells (Expression e) w = (print e, refl, printed_spells e w)
