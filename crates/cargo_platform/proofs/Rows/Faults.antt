-- What can be completed, what is expected, and the faults of some texts read as expressions.
use Rattle.std.proofs.Common.{◌≡◌, refl, sym, ◌∙◌, ℕ, true, false, List, [], ◌∷◌, ◌++◌, Some, None}
use Rattle.std.proofs.Common.{codes, inl, inr, arith, drop}
use Rattle.std.specs.Char.{encode_utf8}
use Rattle.std.specs.List.{last_or}
use Rattle.cargo_platform.specs.declared.tokens.TokenFaultKind.TheVariants as lexical
use Rattle.cargo_platform.specs.Tokens.{Lexeme, LeftParen, RightParen, Ident, Comma, Equals, String, Placed}
use Rattle.cargo_platform.specs.Cut.{BeginsFault, lexemes}
use Rattle.cargo_platform.specs.Cut.{Item, Token, Lexical, Nothing, ComesBehind}
use Rattle.cargo_platform.specs.Trees.{Alone, Value}
use Rattle.cargo_platform.specs.Spelling.{Grammar, Values, Expressions}
use Rattle.cargo_platform.specs.Faults.{IsCompletable, IsFaultPrefix, Fault}
use Rattle.cargo_platform.specs.Faults.{UnterminatedString, UnexpectedChar, UnexpectedToken, IncompleteExpr}
use Rattle.cargo_platform.specs.Faults.{UnterminatedExpression, expected_after, lexical_fault, fault_of}
use Rattle.cargo_platform.specs.Faults.{IsRefused}
use Rattle.cargo_platform.specs.Walk.{Several, State, Named, Keyed, walk, is_whole}
use Rattle.cargo_platform.proofs.Walk.{none_some}
use Rattle.cargo_platform.proofs.Building.{completable_walks}
use Rattle.cargo_platform.proofs.Completing.{walked_completes}
use Rattle.cargo_platform.proofs.Paths.{next_before}
use Rattle.cargo_platform.proofs.OneCut.{IsTail}
use Rattle.cargo_platform.proofs.Prefixes.{goes_on, refused_walked}
use Rattle.cargo_platform.proofs.Refused.{refused_spells_none}
use Rattle.cargo_platform.proofs.OneFault.{one_fault}
use Rattle.cargo_platform.proofs.CutTests.{is_cut_from, comes_by, spaces, written_at}
use Rattle.cargo_platform.proofs.SomeCut.{last_at, no_token_at}
use Rattle.cargo_platform.proofs.Rows.Cut.{at, word, lone_a, something_comes}

-- ---- what can be completed

abbrev word_a : Lexeme
word_a = Ident false (codes "a")

-- `all(a`
open_group : IsCompletable Expressions (Ident false (codes "all") ∷ LeftParen ∷ word_a ∷ [])
open_group =
    walked_completes Expressions (Ident false (codes "all") ∷ LeftParen ∷ word_a ∷ []) (Named (Several ∷ [])) refl

-- `a =` can be completed by a string
key : IsCompletable Values (word_a ∷ Equals ∷ [])
key = walked_completes Values (word_a ∷ Equals ∷ []) (Keyed []) refl

unwalked : (g : Grammar) (ts : List Lexeme) → walk g ts ≡ None → IsCompletable g ts → ⊥
unwalked g ts h p = none_some (sym h ∙ (completable_walks g ts p).1)

two_names : IsCompletable Expressions (word_a ∷ Ident false (codes "b") ∷ []) → ⊥
two_names p = unwalked Expressions (word_a ∷ Ident false (codes "b") ∷ []) refl p

paren_first : IsCompletable Expressions (RightParen ∷ []) → ⊥
paren_first p = unwalked Expressions (RightParen ∷ []) refl p

-- `all(,`
comma_first : IsCompletable Expressions (Ident false (codes "all") ∷ LeftParen ∷ Comma ∷ []) → ⊥
comma_first p = unwalked Expressions (Ident false (codes "all") ∷ LeftParen ∷ Comma ∷ []) refl p

two_values : IsCompletable Values (word_a ∷ Ident false (codes "b") ∷ []) → ⊥
two_values p = unwalked Values (word_a ∷ Ident false (codes "b") ∷ []) refl p

-- `all(` is no prefix of a name or a pair
group_of_values : IsCompletable Values (Ident false (codes "all") ∷ LeftParen ∷ []) → ⊥
group_of_values p = unwalked Values (Ident false (codes "all") ∷ LeftParen ∷ []) refl p

-- ---- the fault prefix

abbrev all_a_b : List Placed
all_a_b = word (codes "all") 0 3 ∷ at LeftParen 3 4 ∷ word (codes "a") 4 5 ∷ word (codes "b") 6 7 ∷ []

-- a completable prefix that is not the longest
short_prefix : (after : List Placed) → IsFaultPrefix Expressions all_a_b (word (codes "all") 0 3 ∷ []) after → ⊥
short_prefix after p =
    absurd
    (omega (
      arith,
      p.longest (word (codes "all") 0 3 ∷ at LeftParen 3 4 ∷ word (codes "a") 4 5 ∷ [])
          (word (codes "b") 6 7 ∷ []) refl open_group,
    ))

long_prefix : (after : List Placed) → IsFaultPrefix Expressions all_a_b all_a_b after → ⊥
long_prefix after p = unwalked Expressions (lexemes all_a_b) refl p.completable

-- what comes after a prefix: a token, before the tail or the end
token_behind : ComesBehind (codes "a b \"") 0 (word (codes "a") 0 1 ∷ []) (Token (word (codes "b") 2 3)) 3
token_behind =
    let a = written_at (codes "a b \"") (word (codes "a") 0 1) refl in
    let b = written_at (codes "a b \"") (word (codes "b") 2 3) refl in
    ((spaces _ _ _ refl, a, (refl, refl), refl), (spaces _ _ _ refl, b, (refl, refl), refl))

token_before_end : (to : ℕ) → ComesBehind (codes "a") 0 [] Nothing to → ⊥
token_before_end to h = something_comes to h

-- ---- what is expected

expected_first : (expected_after Values None false ≡ codes "identifier")
    × (expected_after Expressions None false ≡ codes "identifier")
    × (expected_after Values None true ≡ codes "identifier")
    × (expected_after Expressions None true ≡ codes "start of a cfg expression")
expected_first = (refl, refl, refl, refl)

expected_member : (expected_after Expressions (Some LeftParen) false ≡ codes "identifier")
    × (expected_after Expressions (Some Comma) false ≡ codes "identifier")
    × (expected_after Expressions (Some LeftParen) true ≡ codes "start of a cfg expression")
    × (expected_after Expressions (Some Comma) true ≡ codes "start of a cfg expression")
expected_member = (refl, refl, refl, refl)

expected_value : (expected_after Values (Some Equals) false ≡ codes "a string")
    × (expected_after Expressions (Some Equals) false ≡ codes "a string")
    × (expected_after Values (Some Equals) true ≡ codes "a string")
    × (expected_after Expressions (Some Equals) true ≡ codes "a string")
expected_value = (refl, refl, refl, refl)

expected_group : (expected_after Expressions (Some (Ident false (codes "not"))) false ≡ codes "`(`")
    × (expected_after Expressions (Some (Ident false (codes "any"))) true ≡ codes "`(`")
    × (expected_after Expressions (Some (Ident true (codes "any"))) true ≡ codes "`)`")
expected_group = (refl, refl, refl)

expected_close : (expected_after Expressions (Some word_a) false ≡ codes "`)`")
    × (expected_after Expressions (Some (String [])) false ≡ codes "`)`")
    × (expected_after Expressions (Some RightParen) true ≡ codes "`)`")
expected_close = (refl, refl, refl)

lexical_faults : (lexical_fault lexical.UnterminatedString ≡ UnterminatedString)
    × (lexical_fault (lexical.UnexpectedChar 0x23) ≡ UnexpectedChar 0x23)
    × (lexical_fault lexical.MissingIdentifier ≡ IncompleteExpr (codes "identifier"))
lexical_faults = (refl, refl, refl)

accepted_at_end : fault_of Expressions (codes "a") true (Some word_a) Nothing ≡ None
accepted_at_end = refl

-- ---- refused texts

-- a text, by its fault prefix and the tokens after it
row : (text : List ℕ) (prefix behind : List Placed) (tail : ℕ) (s : State) (next : Item) (fault : Fault)
    → is_cut_from text 0 (prefix ++ behind) tail ≡ true → (rest : IsTail (drop tail text))
    → walk Expressions (lexemes prefix) ≡ Some s
    → goes_on Expressions s behind ≡ None → next_before (last_at text tail rest) behind ≡ next
    → fault_of Expressions text (is_whole s) (last_or None (lexemes prefix)) next ≡ Some fault
    → IsRefused Expressions text fault
row text prefix behind tail s next fault cut rest walked stops follows table =
    refused_walked Expressions text prefix behind (last_at text tail rest) tail s fault (no_token_at text tail rest)
    (comes_by text (prefix ++ behind) tail cut rest) walked stops (rw follows table)

one_space : IsRefused Expressions (codes " ") (IncompleteExpr (codes "start of a cfg expression"))
one_space = row _ [] [] 1 _ Nothing _ refl (inl refl) refl refl refl refl

word_alone : IsRefused Expressions (codes " all") (IncompleteExpr (codes "`(`"))
word_alone = row _ (word (codes "all") 1 4 ∷ []) [] 4 _ Nothing _ refl (inl refl) refl refl refl refl

group_not_closed : IsRefused Expressions (codes "not(a") (IncompleteExpr (codes "`)`"))
group_not_closed =
    row _ (word (codes "not") 0 3 ∷ at LeftParen 3 4 ∷ word (codes "a") 4 5 ∷ []) [] 5 _ Nothing _ refl
    (inl refl) refl refl refl refl

group_just_open : IsRefused Expressions (codes "all(") (IncompleteExpr (codes "start of a cfg expression"))
group_just_open =
    row _ (word (codes "all") 0 3 ∷ at LeftParen 3 4 ∷ []) [] 4 _ Nothing _ refl (inl refl) refl refl refl refl

value_missing : IsRefused Expressions (codes "a = ") (IncompleteExpr (codes "a string"))
value_missing = row _ (word (codes "a") 0 1 ∷ at Equals 2 3 ∷ []) [] 4 _ Nothing _ refl (inl refl) refl refl refl refl

-- one pair, and no comma, is in `not(..)`
comma_behind_pair : IsRefused Expressions (codes "not(a = \"1\",") (UnexpectedToken (codes "`)`") (codes "`,`"))
comma_behind_pair =
    row _ (word (codes "not") 0 3 ∷ at LeftParen 3 4 ∷ word (codes "a") 4 5 ∷ at Equals 6 7 ∷ at
    (String (codes "1")) 8 11 ∷ []) (at Comma 11 12 ∷ []) 12 _ _ _ refl (inl refl) refl refl refl refl

-- after a comma a member may come
member_missing : IsRefused Expressions (codes "any(a,") (IncompleteExpr (codes "start of a cfg expression"))
member_missing =
    row _ (word (codes "any") 0 3 ∷ at LeftParen 3 4 ∷ word (codes "a") 4 5 ∷ at Comma 5 6 ∷ []) [] 6 _ Nothing _ refl
    (inl refl) refl refl refl refl

-- nothing is read before the `)`
pub lone_parenthesis : IsRefused Expressions (codes ")") (UnexpectedToken (codes "identifier") (codes "`)`"))
lone_parenthesis = row _ [] (at RightParen 0 1 ∷ []) 1 _ _ _ refl (inl refl) refl refl refl refl

paren_for_value : IsRefused Expressions (codes "a = )") (UnexpectedToken (codes "a string") (codes "`)`"))
paren_for_value =
    row _ (word (codes "a") 0 1 ∷ at Equals 2 3 ∷ []) (at RightParen 4 5 ∷ []) 5 _ _ _ refl
    (inl refl) refl refl refl refl

empty_negation : IsRefused Expressions (codes "all(not())") (UnexpectedToken (codes "identifier") (codes "`)`"))
empty_negation =
    row _ (word (codes "all") 0 3 ∷ at LeftParen 3 4 ∷ word (codes "not") 4 7 ∷ at LeftParen 7 8 ∷ [])
    (at RightParen 8 9 ∷ at RightParen 9 10 ∷ []) 10 _ _ _ refl (inl refl) refl refl refl refl

lone_comma : IsRefused Expressions (codes "all(,)") (UnexpectedToken (codes "identifier") (codes "`,`"))
lone_comma =
    row _ (word (codes "all") 0 3 ∷ at LeftParen 3 4 ∷ []) (at Comma 4 5 ∷ at RightParen 5 6 ∷ []) 6 _ _ _ refl
    (inl refl) refl refl refl refl

comma_in_negation : IsRefused Expressions (codes "not(a,)") (UnexpectedToken (codes "`)`") (codes "`,`"))
comma_in_negation =
    row _ (word (codes "not") 0 3 ∷ at LeftParen 3 4 ∷ word (codes "a") 4 5 ∷ [])
    (at Comma 5 6 ∷ at RightParen 6 7 ∷ []) 7 _ _ _ refl (inl refl) refl refl refl refl

equals_for_paren : IsRefused Expressions (codes "all = \"x\"") (UnexpectedToken (codes "`(`") (codes "`=`"))
equals_for_paren =
    row _ (word (codes "all") 0 3 ∷ []) (at Equals 4 5 ∷ at (String (codes "x")) 6 9 ∷ []) 9 _ _ _ refl
    (inl refl) refl refl refl refl

-- a whole expression, and more
more_than_name : IsRefused Expressions (codes "foo(a)") (UnterminatedExpression (codes "(a)"))
more_than_name =
    row _ (word (codes "foo") 0 3 ∷ []) (at LeftParen 3 4 ∷ word (codes "a") 4 5 ∷ at RightParen 5 6 ∷ []) 6 _ _ _ refl
    (inl refl) refl refl refl refl

more_than_marked : IsRefused Expressions (codes "r#all()") (UnterminatedExpression (codes "()"))
more_than_marked =
    row _ (at (Ident true (codes "all")) 0 5 ∷ []) (at LeftParen 5 6 ∷ at RightParen 6 7 ∷ []) 7 _ _ _ refl
    (inl refl) refl refl refl refl

-- `all(true`
abbrev true_in_all : List Placed
true_in_all = word (codes "all") 0 3 ∷ at LeftParen 3 4 ∷ word (codes "true") 4 8 ∷ []

-- `not(true`, and ` = "x")`
abbrev true_in_not : List Placed
true_in_not = word (codes "not") 0 3 ∷ at LeftParen 3 4 ∷ word (codes "true") 4 8 ∷ []

abbrev pair_goes_on : List Placed
pair_goes_on = at Equals 9 10 ∷ at (String (codes "x")) 11 14 ∷ at RightParen 14 15 ∷ []

-- a literal is no key: `true` is a whole expression, and what follows it is surplus, or wants the `)` of its group
literal_as_key : IsRefused Expressions (codes "true =") (UnterminatedExpression (codes "="))
literal_as_key = row _ (word (codes "true") 0 4 ∷ []) (at Equals 5 6 ∷ []) 6 _ _ _ refl (inl refl) refl refl refl refl

literal_as_key_in_group : IsRefused Expressions (codes "all(true =") (UnexpectedToken (codes "`)`") (codes "`=`"))
literal_as_key_in_group = row _ true_in_all (at Equals 9 10 ∷ []) 10 _ _ _ refl (inl refl) refl refl refl refl

literal_in_open_group : IsRefused Expressions (codes "all(true") (IncompleteExpr (codes "`)`"))
literal_in_open_group = row _ true_in_all [] 8 _ Nothing _ refl (inl refl) refl refl refl refl

literal_as_key_in_negation : IsRefused Expressions (codes "not(true = \"x\")")
    (UnexpectedToken (codes "`)`") (codes "`=`"))
literal_as_key_in_negation = row _ true_in_not pair_goes_on 15 _ _ _ refl (inl refl) refl refl refl refl

-- a bad token before a string that does not end, in a group and after an expression
token_before_string : IsRefused Expressions (codes "all(a b \"") (UnexpectedToken (codes "`)`") (codes "an identifier"))
unfolding encode_utf8
token_before_string =
    row _ (word (codes "all") 0 3 ∷ at LeftParen 3 4 ∷ word (codes "a") 4 5 ∷ [])
    (word (codes "b") 6 7 ∷ []) 8 _ _ _ refl
    (inr (lexical.UnterminatedString, ([], record { scalar = refl; parts = refl }, refl))) refl refl refl refl

more_before_string : IsRefused Expressions (codes "a b \"") (UnterminatedExpression (codes "b \""))
unfolding encode_utf8
more_before_string =
    row _ (word (codes "a") 0 1 ∷ []) (word (codes "b") 2 3 ∷ []) 4 _ _ _ refl
    (inr (lexical.UnterminatedString, ([], record { scalar = refl; parts = refl }, refl))) refl refl refl refl

-- a lexical fault in a group is the fault, and after an expression it is not
string_in_group : IsRefused Expressions (codes "all(a \"") UnterminatedString
unfolding encode_utf8
string_in_group =
    let begins : BeginsFault (codes "\"") lexical.UnterminatedString =
    ([], record { scalar = refl; parts = refl }, refl) in
    row _ (word (codes "all") 0 3 ∷ at LeftParen 3 4 ∷ word (codes "a") 4 5 ∷ []) [] 6 _
    (Lexical lexical.UnterminatedString 6) _ refl (inr (lexical.UnterminatedString, begins)) refl refl
    refl refl

string_behind : IsRefused Expressions (codes "a \"") (UnterminatedExpression (codes "\""))
unfolding encode_utf8
string_behind =
    let begins : BeginsFault (codes "\"") lexical.UnterminatedString =
    ([], record { scalar = refl; parts = refl }, refl) in
    row _ (word (codes "a") 0 1 ∷ []) [] 2 _ (Lexical lexical.UnterminatedString 2) _ refl
    (inr (lexical.UnterminatedString, begins)) refl refl refl refl

-- a mark with no name is called a missing identifier, also where none may come
mark_behind_word : IsRefused Expressions (codes "all r#") (IncompleteExpr (codes "identifier"))
mark_behind_word =
    row _ (word (codes "all") 0 3 ∷ []) [] 4 _ (Lexical lexical.MissingIdentifier 4) _ refl
    (inr (lexical.MissingIdentifier, refl)) refl refl refl refl

mark_behind_name : IsRefused Expressions (codes "a r#") (UnterminatedExpression (codes "r#"))
mark_behind_name =
    row _ (word (codes "a") 0 1 ∷ []) [] 2 _ (Lexical lexical.MissingIdentifier 2) _ refl
    (inr (lexical.MissingIdentifier, refl)) refl refl refl refl

-- a text has no second fault
no_other_fault : (rest : List ℕ) → IsRefused Expressions (codes "all(a b \"") (UnterminatedExpression rest) → ⊥
no_other_fault rest r = let same = one_fault Expressions _ _ _ token_before_string r in absurd cc

-- a text that spells a tree has no fault
pub whole_is_not_refused : (fault : Fault) → IsRefused Expressions (codes "a") fault → ⊥
whole_is_not_refused fault r =
    refused_spells_none (codes "a") fault (Value (Alone (record { raw = false; name = codes "a" }))) r
    (_, lone_a, (refl, (refl, refl)))
