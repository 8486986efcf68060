-- The laws of what texts spell, for each grammar of texts, and what follows from them for an answer to a text.
use Rattle.std.proofs.Common.{◌≡◌, ℕ, List, Result, Ok, Err}
use Rattle.std.specs.Prelude.{IfOk}
use Rattle.cargo_platform.specs.declared.error.ReadError.{ReadError}
use Rattle.cargo_platform.specs.declared.error.ReadError.TheVariants as errors
use Rattle.cargo_platform.specs.Trees.{CfgValue, Tree, Condition}
use Rattle.cargo_platform.specs.Spelling.{Values, Expressions, IsValueText, IsTreeText}
use Rattle.cargo_platform.specs.Faults.{Fault, IsRefused}
use Rattle.cargo_platform.specs.Platforms.{IsConditionText, IsRefusedCondition}
use Rattle.cargo_platform.specs.WellFormed.{IsWellFormedValue, IsWellFormed, IsWellFormedCondition}
use Rattle.cargo_platform.specs.Print.{print_value, print, print_condition}
use Rattle.cargo_platform.specs.Errors.{IfParse, orig_of, fault_in}
use Rattle.cargo_platform.proofs.OneText.{one_value_text, one_tree_text}
use Rattle.cargo_platform.proofs.WellFormedness.{spelled_well_formed_value, spelled_well_formed}
use Rattle.cargo_platform.proofs.PrintedSpells.{printed_value_spells, printed_spells}
use Rattle.cargo_platform.proofs.Refused.{refused_spells_no_value, refused_spells_none}
use Rattle.cargo_platform.proofs.Conditions.{one_condition, spelled_well_formed_condition, printed_condition_spells}
use Rattle.cargo_platform.proofs.ConditionFaults.{refused_spells_no_condition}

-- A grammar of texts has these laws. What is refused is determined by the text, the text that the fault is of, and the
-- fault.
pub record Laws (A : Type 0) (spells : List ℕ → A → Type 0) (formed : A → Type 0) (print : A → List ℕ)
    (refused : List ℕ → List ℕ → Fault → Type 0) : Type 0 where
  pub one : (text : List ℕ) (a b : A) → spells text a → spells text b → a ≡ b
  pub only : (text : List ℕ) (a : A) → spells text a → formed a
  pub printed : (a : A) → formed a → spells (print a) a
  pub none : (text orig : List ℕ) (fault : Fault) → refused text orig fault → (a : A) → spells text a → ⊥

pub value_laws : Laws CfgValue IsValueText IsWellFormedValue print_value (λ text orig f. IsRefused Values text f)
value_laws = record {
  one = one_value_text;
  only = spelled_well_formed_value;
  printed = printed_value_spells;
  none = λ text orig f r c s. refused_spells_no_value text f c r s;
}

pub tree_laws : Laws Tree IsTreeText IsWellFormed print (λ text orig f. IsRefused Expressions text f)
tree_laws = record {
  one = one_tree_text;
  only = spelled_well_formed;
  printed = printed_spells;
  none = λ text orig f r e s. refused_spells_none text f e r s;
}

pub condition_laws : Laws Condition IsConditionText IsWellFormedCondition print_condition IsRefusedCondition
condition_laws = record {
  one = one_condition;
  only = spelled_well_formed_condition;
  printed = printed_condition_spells;
  none = refused_spells_no_condition;
}

-- the printed text of what is well-formed is no text that may be refused
pub is_print : {A : Type 0} {spells : List ℕ → A → Type 0} {formed : A → Type 0} {print : A → List ℕ}
    {refused : List ℕ → List ℕ → Fault → Type 0} → Laws A spells formed print refused
    → (text : List ℕ) (a : A) → formed a → text ≡ print a → spells text a
is_print {A} {spells} l text a w h =
    rw h (l.printed a w)

-- what prints alike is the same
pub apart : {A : Type 0} {spells : List ℕ → A → Type 0} {formed : A → Type 0} {print : A → List ℕ}
    {refused : List ℕ → List ℕ → Fault → Type 0} → Laws A spells formed print refused
    → (a b : A) → formed a → formed b → print a ≡ print b → a ≡ b
apart {A} {spells} {formed} {print} l a b v w h = l.one (print a) a b (l.printed a v) (is_print l (print a) b w h)

-- ---- what follows from the clauses on what is read, and on the fault

pub formed_answer : {A : Type 0} {spells : List ℕ → A → Type 0} {formed : A → Type 0} {print : A → List ℕ}
    {refused : List ℕ → List ℕ → Fault → Type 0} → Laws A spells formed print refused
    → {B : Type 0} (meant : B → A) (text : List ℕ) (answer : Result B ReadError)
    → IfOk answer (λ b. spells text (meant b)) → IfOk answer (λ b. formed (meant b))
formed_answer l meant text (Ok b) s = l.only text (meant b) s
formed_answer l meant text (Err e) s = tt

pub refused_answer : {A : Type 0} {spells : List ℕ → A → Type 0} {formed : A → Type 0} {print : A → List ℕ}
    {refused : List ℕ → List ℕ → Fault → Type 0} → Laws A spells formed print refused
    → {B : Type 0} (text : List ℕ) (answer : Result B ReadError)
    → IfParse answer (λ e. refused text (orig_of e) (fault_in e))
    → IfParse answer (λ _. (a : A) → spells text a → ⊥)
refused_answer l text (Ok b) f = tt
refused_answer l text (Err (errors.Parse e)) f = l.none text (orig_of e) (fault_in e) f
refused_answer l text (Err (errors.Memory e)) f = tt

pub answer_back : {A : Type 0} {spells : List ℕ → A → Type 0} {formed : A → Type 0} {print : A → List ℕ}
    {refused : List ℕ → List ℕ → Fault → Type 0} → Laws A spells formed print refused
    → {B : Type 0} (meant : B → A) (text : List ℕ) (answer : Result B ReadError)
    → IfOk answer (λ b. spells text (meant b)) → IfParse answer (λ _. (a : A) → spells text a → ⊥)
    → (a : A) → formed a → text ≡ print a → IfOk answer (λ b. meant b ≡ a) × IfParse answer (λ _. ⊥)
answer_back l meant text (Ok b) s none a w h = (l.one text (meant b) a s (is_print l text a w h), tt)
answer_back l meant text (Err (errors.Parse e)) s none a w h = (tt, none a (is_print l text a w h))
answer_back l meant text (Err (errors.Memory e)) s none a w h = (tt, tt)
