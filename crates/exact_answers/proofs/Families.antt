-- The rule of families: its text is read, and over which sets it is true.
use Rattle.std.proofs.Common.{◌≡◌, ◌∙◌, refl, sym, ap, ℕ, Bool, true, false, not, ◌&&◌, ◌||◌, List, codes}
use Rattle.std.proofs.Common.{true≢false}
use Rattle.std.specs.Prelude.{◌↔◌}
use Rattle.std.specs.Char.{encode_utf8}
use Rattle.std.specs.Cmp.{first_so, second_so}
use Rattle.cargo_platform.specs.Trees.{Name, Alone, KeyPair, Tree, Not, All, Any, Value, none, tree}
use Rattle.cargo_platform.specs.Facts.{FactSet, truth}
use Rattle.cargo_platform.specs.Tokens.{IsIdentifierName, IsStringValue}
use Rattle.cargo_platform.specs.Spelling.{MayStand}
use Rattle.cargo_platform.specs.Print.{print}
use Rattle.cargo_platform.specs.WellFormed.{IsWellFormed}
use Rattle.exact_answers.specs.Families.{IsSetWithFamily, KeepsFamilyRule}
use Rattle.exact_answers.specs.declared.fact_constraints.TheConstants.{FAMILY_RULE}

abbrev plain : List ℕ → Name
plain text = record { raw = false; name = text }

-- both are true, or none
abbrev same_tree : Tree → Tree → Tree
same_tree a b =
    Any (tree (All (tree a (tree b none))) (tree (Not (Any (tree a (tree b none)))) none))

abbrev family_tree : List ℕ → Tree
family_tree family =
    same_tree (Value (Alone (plain family))) (Value (KeyPair (plain (codes "target_family")) family))

abbrev pub rule_tree : Tree
rule_tree = All (tree (family_tree (codes "unix")) (tree (family_tree (codes "windows")) none))

same_well_formed : (a b : Tree) → IsWellFormed a → IsWellFormed b → IsWellFormed (same_tree a b)
same_well_formed a b x y = ((x, (y, tt)), ((x, (y, tt)), tt))

family_well_formed : (family : List ℕ) → IsIdentifierName family → IsStringValue family
    → MayStand (Alone (plain family)) → IsWellFormed (family_tree family)
family_well_formed family name value may =
    same_well_formed (Value (Alone (plain family))) (Value (KeyPair (plain (codes "target_family")) family))
    (name, may) (((refl, refl), value), (refl, refl))

pub is_well_formed : IsWellFormed rule_tree
unfolding encode_utf8
is_well_formed = (
  family_well_formed (codes "unix") (refl, refl) ((codes "unix", (refl, refl)), refl) (refl, refl),
  (
    family_well_formed (codes "windows") (refl, refl) ((codes "windows", (refl, refl)), refl) (refl, refl),
    tt,
  ),
)

pub is_its_text : FAMILY_RULE.now ≡ print rule_tree
is_its_text = refl

same_truth : (a b : Bool) → ((a && (b && true)) || (not (a || (b || false)) || false)) ≡ true ↔ (a ≡ b)
same_truth true true = (λ h. refl, λ h. refl)
same_truth true false = (λ h. absurd (true≢false (sym h)), λ h. absurd (true≢false h))
same_truth false true = (λ h. absurd (true≢false (sym h)), λ h. absurd (true≢false (sym h)))
same_truth false false = (λ h. refl, λ h. refl)

both_true : (a b : Bool) → a ≡ true → b ≡ true → (a && (b && true)) ≡ true
both_true true b x y = ap (λ z. z && true) y
both_true false b x y = x

family_truth : (s : FactSet) (family : List ℕ) → (truth s (family_tree family) ≡ true) ↔ IsSetWithFamily s family
family_truth s family = same_truth _ _

pub rule_truth : (s : FactSet) (t : Tree) → t ≡ rule_tree → (truth s t ≡ true) ↔ KeepsFamilyRule s
rule_truth s t is = (
  λ h.
      let both = sym (ap (truth s) is) ∙ h in (
        (family_truth s (codes "unix")).0 (first_so _ _ both),
        (family_truth s (codes "windows")).0 (first_so _ _ (second_so _ _ both)),
      ),
  λ h.
      ap (truth s) is
      ∙ both_true _ _ ((family_truth s (codes "unix")).1 h.0) ((family_truth s (codes "windows")).1 h.1),
)
