-- The condition that `cfg(unix)` spells, and what it asks.
use Rattle.std.proofs.Common.{◌≡◌, refl, sym, subst, Bool, true, false, codes, Result, Ok, Err, inr, [], ◌∷◌}
use Rattle.cargo_platform.specs.declared.tokens.TokenFaultKind.TheVariants as lexical
use Rattle.std.specs.Prelude.{IsTrue, IfOk}
use Rattle.std.specs.Char.{encode_utf8}
use Rattle.std.specs.FinSet.{contains}
use Rattle.cargo_platform.specs.Trees.{Alone, Tree, Value, All, True, Trees, none, tree, Condition, Target, Expression}
use Rattle.cargo_platform.specs.Spelling.{Expressions, Values, IsTreeText}
use Rattle.cargo_platform.specs.Tokens.{Ident}
use Rattle.cargo_platform.specs.Faults.{UnexpectedToken, UnexpectedChar, UnterminatedExpression, IsRefused}
use Rattle.cargo_platform.specs.Platforms.{IsConditionText}
use Rattle.cargo_platform.specs.Facts.{FactSet, truth}
use Rattle.cargo_platform.specs.Holders.{name_fact}
use Rattle.cargo_platform.proofs.Conditions.{one_condition}
use Rattle.cargo_platform.proofs.OnLiterals.{tree_on_literal, spelling_on_literal, refused_on_literal}
use Rattle.cargo_platform.proofs.OnLiterals.{refused_on_broken_literal}

abbrev pub unix : Tree
unix = Value (Alone (record { raw = false; name = codes "unix" }))

-- the text spells this tree
pub spelled : IsConditionText (codes "cfg(unix)") (Expression unix)
spelled = (codes "unix", refl, tree_on_literal (codes "unix") unix refl refl ((refl, refl), (refl, refl)))

abbrev tree_in : Condition → Tree
tree_in (Target name) = True
tree_in (Expression e) = e

-- the answer by the tree that the key is said to spell is the answer by this one
pub answers : {E : Type 0} (facts : FactSet) (result : Result Bool E)
    → IfOk result (λ b. IsTrue b
    → (e : Tree) × IsConditionText (codes "cfg(unix)") (Expression e) × IsTrue (truth facts e))
    → IfOk result (λ b. b ≡ false
    → (e : Tree) → IsConditionText (codes "cfg(unix)") (Expression e) → truth facts e ≡ false)
    → IfOk result (λ b. b ≡ contains facts (name_fact (codes "unix")))
answers {E} facts (Ok true) met unmet =
    let read = met refl in
    let same = one_condition (codes "cfg(unix)") (Expression read.0) (Expression unix) read.1 spelled in
    sym (subst (λ p. IsTrue (truth facts (tree_in p))) same read.2)
answers {E} facts (Ok false) met unmet = sym (unmet refl unix spelled)
answers {E} facts (Err e) met unmet = tt

-- ---- more texts

-- spaces play no part
spaced : IsTreeText (codes " unix ") unix
spaced = tree_on_literal (codes " unix ") unix refl refl ((refl, refl), (refl, refl))

refused : IsRefused Expressions (codes "all(a b)") (UnexpectedToken (codes "`)`") (codes "an identifier"))
refused = refused_on_literal (codes "all(a b)") _ refl refl

-- a comma after the last member
all_unix : IsTreeText (codes "all(unix,)") (All (tree unix none))
all_unix = spelling_on_literal (codes "all(unix,)") (All (tree unix none)) refl
    (_, (Ident false (codes "unix") ∷ [], (refl, (refl, refl)), inr ([], refl, refl)), refl)

-- a character that begins no token
misplaced : IsRefused Expressions (codes "all(&)") (UnexpectedChar 0x26)
unfolding encode_utf8
misplaced = refused_on_broken_literal (codes "all(&)") (lexical.UnexpectedChar 0x26) _ refl
    (inr (codes ")", record { scalar = refl; parts = refl }, refl)) refl

-- a line of facts
no_fact : IsRefused Values (codes "a b") (UnterminatedExpression (codes "b"))
no_fact = refused_on_literal (codes "a b") _ refl refl
