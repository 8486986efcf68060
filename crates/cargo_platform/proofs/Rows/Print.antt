-- The exact printed texts of some names, expressions, conditions and faults.
use Rattle.std.proofs.Common.{◌≡◌, refl, ap, ℕ, true≢false, List, [], ◌∷◌, ◌++◌, codes, arith, length}
use Rattle.std.specs.Prelude.{bytes_eq}
use Rattle.std.specs.Char.{encode_utf8}
use Rattle.cargo_platform.specs.Trees.{Alone, KeyPair, Not, All, Any, Value, True, False, none, trees_of, Target}
use Rattle.cargo_platform.specs.Trees.{Expression}
use Rattle.cargo_platform.specs.Faults.{UnterminatedString, UnexpectedChar, UnexpectedToken, IncompleteExpr}
use Rattle.cargo_platform.specs.Faults.{UnterminatedExpression, InvalidTarget}
use Rattle.cargo_platform.specs.Print.{print_name, print_value, print, print_members, print_condition}
use Rattle.cargo_platform.specs.Print.{print_fault, print_error}
use Rattle.cargo_platform.proofs.Rows.Trees.{name, marked, a}

-- ---- names and pairs

name_printed : (print_name (name (codes "foo")) ≡ codes "foo") × (print_name (marked (codes "foo")) ≡ codes "r#foo")
name_printed = (refl, refl)

value_printed : (print_value (Alone (marked (codes "all"))) ≡ codes "r#all")
    × (print_value (KeyPair (name (codes "k")) (codes "1")) ≡ codes "k = \"1\"")
    × (print_value (KeyPair (marked (codes "k")) []) ≡ codes "r#k = \"\"")
value_printed = (refl, refl, refl)

-- the mark is printed
mark_is_seen : print_name (name (codes "foo")) ≡ print_name (marked (codes "foo")) → ⊥
mark_is_seen p = absurd (omega (arith, ap length p))

value_is_seen : print_value (Alone (name (codes "k"))) ≡ print_value (KeyPair (name (codes "k")) []) → ⊥
value_is_seen p = absurd (omega (arith, ap length p))

-- ---- expressions

empty_groups : (print (All none) ≡ codes "all()") × (print (Any none) ≡ codes "any()")
empty_groups = (refl, refl)

literals : (print True ≡ codes "true") × (print (Not False) ≡ codes "not(false)")
literals = (refl, refl)

group_printed : print
    (All (trees_of
    (a ∷ Not (Any (trees_of (Value (KeyPair (name (codes "k")) (codes "1")) ∷ []))) ∷ Value
    (Alone (marked (codes "all"))) ∷ []))) ≡ codes "all(a, not(any(k = \"1\")), r#all)"
group_printed = refl

members_printed : (print_members (trees_of (a ∷ True ∷ [])) ≡ codes "a, true")
    × (print_members (trees_of (a ∷ [])) ≡ codes "a") × (print_members none ≡ [])
members_printed = (refl, refl, refl)

word_is_seen : print (All none) ≡ print (Any none) → ⊥
word_is_seen p = true≢false (ap (λ (z : List ℕ). bytes_eq z (codes "all()")) p)

order_is_seen : print (Any (trees_of (True ∷ a ∷ []))) ≡ print (Any (trees_of (a ∷ True ∷ []))) → ⊥
order_is_seen p = true≢false (ap (λ (z : List ℕ). bytes_eq z (codes "any(true, a)")) p)

-- ---- conditions

condition_printed : (print_condition (Target (codes "x86_64")) ≡ codes "x86_64")
    × (print_condition (Expression a) ≡ codes "cfg(a)")
condition_printed = (refl, refl)

target_is_no_expression : print_condition (Target (codes "a")) ≡ print_condition (Expression a) → ⊥
target_is_no_expression p = absurd (omega (arith, ap length p))

-- ---- faults

string_fault : print_fault UnterminatedString ≡ codes "unterminated string in cfg"
string_fault = refl

char_fault : print_fault
    (UnexpectedChar 0x23)
    ≡ codes "unexpected character `#` in cfg, expected parens, a comma, an identifier, or a string"
unfolding encode_utf8
char_fault = refl

-- `é`, which is printed in two bytes
wide_char_fault : print_fault (UnexpectedChar 0xE9) ≡ codes "unexpected character `" ++
    (0xC3 ∷ 0xA9 ∷ codes "` in cfg, expected parens, a comma, an identifier, or a string")
unfolding encode_utf8
wide_char_fault = refl

token_fault : print_fault (UnexpectedToken (codes "a string") (codes "`,`")) ≡ codes "expected a string, found `,`"
token_fault = refl

end_fault : print_fault (IncompleteExpr (codes "a string")) ≡ codes "expected a string, but cfg expression ended"
end_fault = refl

surplus_fault : print_fault
    (UnterminatedExpression (codes "b \"")) ≡ codes "unexpected content `b \"` found after cfg expression"
surplus_fault = refl

target_fault : print_fault
    (InvalidTarget (codes "unexpected character ! in target name"))
    ≡ codes "invalid target specifier: unexpected character ! in target name"
target_fault = refl

expected_is_no_found : print_fault (UnexpectedToken (codes "`(`") (codes "`)`")) ≡ print_fault
    (UnexpectedToken (codes "`)`") (codes "`(`")) → ⊥
expected_is_no_found p = true≢false (ap (λ (z : List ℕ). bytes_eq z (codes "expected `(`, found `)`")) p)

-- ---- errors

error_printed : print_error (codes "a = ")
    (IncompleteExpr (codes "a string"))
    ≡ codes "failed to parse `a = ` as a cfg expression: expected a string, but cfg expression ended"
error_printed = refl

-- the text that was read is printed too
text_is_seen : print_error (codes "\"") UnterminatedString ≡ print_error (codes "a \"") UnterminatedString → ⊥
text_is_seen p = absurd (omega (arith, ap length p))
