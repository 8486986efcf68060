-- The faults of some texts read as names and pairs.
use Rattle.std.proofs.Common.{refl, false, [], ◌∷◌, ◌++◌, codes, inl, inr}
use Rattle.std.specs.Char.{encode_utf8}
use Rattle.cargo_platform.specs.declared.tokens.TokenFaultKind.TheVariants as lexical
use Rattle.cargo_platform.specs.Trees.{Alone}
use Rattle.cargo_platform.specs.Spelling.{Values}
use Rattle.cargo_platform.specs.Faults.{Fault, UnterminatedString, UnexpectedChar, UnexpectedToken, IncompleteExpr}
use Rattle.cargo_platform.specs.Faults.{UnterminatedExpression, IsRefused}
use Rattle.cargo_platform.proofs.Refused.{refused_spells_no_value}
use Rattle.cargo_platform.proofs.OnLiterals.{refused_on_literal, refused_on_broken_literal}
use Rattle.cargo_platform.proofs.Rows.Cut.{lone_a}

-- ---- nothing is read

pub empty : IsRefused Values [] (IncompleteExpr (codes "identifier"))
empty = refused_on_literal [] _ refl refl

one_space : IsRefused Values (codes " ") (IncompleteExpr (codes "identifier"))
one_space = refused_on_literal (codes " ") _ refl refl

tab : IsRefused Values (0x09 ∷ []) (UnexpectedChar 0x09)
unfolding encode_utf8
tab =
    refused_on_broken_literal (0x09 ∷ []) (lexical.UnexpectedChar 0x09) _ refl
    (inr ([], record { scalar = refl; parts = refl }, refl)) refl

digit : IsRefused Values (codes "7") (UnexpectedChar 0x37)
unfolding encode_utf8
digit =
    refused_on_broken_literal (codes "7") (lexical.UnexpectedChar 0x37) _ refl
    (inr ([], record { scalar = refl; parts = refl }, refl)) refl

equals : IsRefused Values (codes "=") (UnexpectedToken (codes "identifier") (codes "`=`"))
equals = refused_on_literal (codes "=") _ refl refl

comma : IsRefused Values (codes ",") (UnexpectedToken (codes "identifier") (codes "`,`"))
comma = refused_on_literal (codes ",") _ refl refl

paren : IsRefused Values (codes "(") (UnexpectedToken (codes "identifier") (codes "`(`"))
paren = refused_on_literal (codes "(") _ refl refl

-- `r# foo`
space_behind_mark : IsRefused Values (codes "r# foo") (UnexpectedChar 0x20)
unfolding encode_utf8
space_behind_mark =
    refused_on_broken_literal (codes "r# foo") (lexical.UnexpectedChar 0x20) _ refl
    (inl (codes " foo", codes "foo", refl, record { scalar = refl; parts = refl }, refl)) refl

-- `r#"foo"`
quote_behind_mark : IsRefused Values (codes "r#\"foo\"") (UnexpectedChar 0x22)
unfolding encode_utf8
quote_behind_mark =
    refused_on_broken_literal (codes "r#\"foo\"") (lexical.UnexpectedChar 0x22) _ refl
    (inl (codes "\"foo\"", codes "foo\"", refl, record { scalar = refl; parts = refl }, refl)) refl

-- ---- a name is read

paren_behind : IsRefused Values (codes "foo (") (UnterminatedExpression (codes "("))
paren_behind = refused_on_literal (codes "foo (") _ refl refl

comma_behind : IsRefused Values (codes "foo, bar") (UnterminatedExpression (codes ", bar"))
comma_behind = refused_on_literal (codes "foo, bar") _ refl refl

-- `r #foo`
number_sign_behind : IsRefused Values (codes "r #foo") (UnterminatedExpression (codes "#foo"))
unfolding encode_utf8
number_sign_behind =
    refused_on_broken_literal (codes "r #foo") (lexical.UnexpectedChar 0x23) _ refl
    (inr (codes "foo", record { scalar = refl; parts = refl }, refl)) refl

tab_behind : IsRefused Values (codes "foo" ++ (0x09 ∷ [])) (UnterminatedExpression (0x09 ∷ []))
unfolding encode_utf8
tab_behind =
    refused_on_broken_literal (codes "foo" ++ (0x09 ∷ [])) (lexical.UnexpectedChar 0x09) _ refl
    (inr ([], record { scalar = refl; parts = refl }, refl)) refl

-- ---- a name and `=` are read

value_missing : IsRefused Values (codes "bar =") (IncompleteExpr (codes "a string"))
value_missing = refused_on_literal (codes "bar =") _ refl refl

name_for_value : IsRefused Values (codes "bar = a") (UnexpectedToken (codes "a string") (codes "an identifier"))
name_for_value = refused_on_literal (codes "bar = a") _ refl refl

value_open : IsRefused Values (codes "bar = \"") UnterminatedString
unfolding encode_utf8
value_open =
    refused_on_broken_literal (codes "bar = \"") lexical.UnterminatedString _ refl
    ([], record { scalar = refl; parts = refl }, refl) refl

-- `foo = r#""`
marked_value : IsRefused Values (codes "foo = r#\"\"") (UnexpectedChar 0x22)
unfolding encode_utf8
marked_value =
    refused_on_broken_literal (codes "foo = r#\"\"") (lexical.UnexpectedChar 0x22) _ refl
    (inl (codes "\"\"", codes "\"", refl, record { scalar = refl; parts = refl }, refl)) refl

-- ---- a pair is read

string_behind : IsRefused Values (codes "a=\"1\"\"2\"") (UnterminatedExpression (codes "\"2\""))
string_behind = refused_on_literal (codes "a=\"1\"\"2\"") _ refl refl

-- a text that spells a name has no fault
whole_is_not_refused : (fault : Fault) → IsRefused Values (codes "a") fault → ⊥
whole_is_not_refused fault r =
    refused_spells_no_value (codes "a") fault (Alone (record { raw = false; name = codes "a" })) r (_, lone_a, refl)
