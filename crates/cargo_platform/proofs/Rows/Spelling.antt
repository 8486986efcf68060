-- What some lists of tokens and some texts spell, and that others spell nothing.
use Rattle.std.proofs.Common.{◌≡◌, refl, sym, ap, Bool, true, false, true≢false, List, [], ◌∷◌, ◌++◌, None, codes, inl}
use Rattle.std.proofs.Common.{inr, append-nil, arith, length}
use Rattle.std.specs.Prelude.{IsTrue, IsFalse}
use Rattle.cargo_platform.specs.Tokens.{Lexeme, LeftParen, RightParen, Ident, Comma, Equals, String}
use Rattle.cargo_platform.specs.Trees.{CfgValue, Alone, KeyPair, Not, All, Any, Value, True, False, none, tree}
use Rattle.cargo_platform.specs.Trees.{trees_of}
use Rattle.cargo_platform.specs.Spelling.{value_spelling, is_group_word, is_literal_word, MayStand, group}
use Rattle.cargo_platform.specs.Spelling.{Spells, SpellMembers, Values, Expressions, IsAccepted, IsValueText}
use Rattle.cargo_platform.specs.Spelling.{IsTreeText}
use Rattle.cargo_platform.specs.Walk.{walk}
use Rattle.cargo_platform.proofs.OneCut.{one_cut_from}
use Rattle.cargo_platform.proofs.Building.{stopped}
use Rattle.cargo_platform.proofs.Completing.{accepted_whole}
use Rattle.cargo_platform.proofs.Rows.Trees.{name, marked, a}
use Rattle.cargo_platform.proofs.Rows.Cut.{late_mark, comma_behind, lone_a}

abbrev word_a : Lexeme
word_a = Ident false (codes "a")

-- ---- names and pairs

raw_spelled : value_spelling (Alone (marked (codes "a"))) ≡ Ident true (codes "a") ∷ []
raw_spelled = refl

pair_spelled : value_spelling (KeyPair (name (codes "all")) (codes "x"))
    ≡ Ident false (codes "all") ∷ Equals ∷ String (codes "x") ∷ []
pair_spelled = refl

is_raw : List Lexeme → Bool
is_raw (Ident raw name ∷ ts) = raw
is_raw ts = false

-- the mark is a part of the name
mark_kept : value_spelling (Alone (marked (codes "a"))) ≡ Ident false (codes "a") ∷ [] → ⊥
unfolding is_raw
mark_kept p = true≢false (ap is_raw p)

two_names : IsAccepted Values (word_a ∷ Ident false (codes "b") ∷ []) → ⊥
two_names (Alone n, p) = absurd (omega (arith, ap length p))
two_names (KeyPair k v, p) = absurd (omega (arith, ap length p))

group_words : IsTrue (is_group_word (name (codes "all"))) × IsTrue (is_group_word (name (codes "any")))
    × IsTrue (is_group_word (name (codes "not")))
group_words = (refl, refl, refl)

no_group_words : IsFalse (is_group_word (marked (codes "all"))) × IsFalse (is_group_word (name (codes "al")))
    × IsFalse (is_group_word (name (codes "true")))
no_group_words = (refl, refl, refl)

literal_words : IsTrue (is_literal_word (name (codes "true"))) × IsFalse (is_literal_word (marked (codes "false")))
    × IsFalse (is_literal_word (name (codes "True")))
literal_words = (refl, refl, refl)

may_stand : MayStand (Alone (marked (codes "any"))) × MayStand (Alone (marked (codes "true")))
    × MayStand (KeyPair (marked (codes "true")) [])
may_stand = ((refl, refl), (refl, refl), (refl, refl))

no_word_alone : MayStand (Alone (name (codes "any"))) → ⊥
no_word_alone p = true≢false p.0

no_literal_alone : MayStand (Alone (name (codes "true"))) → ⊥
no_literal_alone p = true≢false p.1

no_word_as_key : MayStand (KeyPair (name (codes "not")) (codes "x")) → ⊥
no_word_as_key p = true≢false p.0

no_literal_as_key : MayStand (KeyPair (name (codes "true")) (codes "x")) → ⊥
no_literal_as_key p = true≢false p.1

-- ---- expressions

a_spelled : Spells a (word_a ∷ [])
a_spelled = (refl, (refl, refl))

-- `all()`
none_spelled : Spells (All none) (group (codes "all") [])
none_spelled = ([], refl, refl)

-- `all(a, )`
all_a_spelled : Spells (All (tree a none)) (Ident false (codes "all") ∷ LeftParen ∷ word_a ∷ Comma ∷ RightParen ∷ [])
all_a_spelled = (word_a ∷ Comma ∷ [], (word_a ∷ [], a_spelled, inr ([], refl, refl)), refl)

-- `any(a, not(true), b = "1")`
any_spelled : Spells (Any (trees_of (a ∷ Not True ∷ Value (KeyPair (name (codes "b")) (codes "1")) ∷ [])))
    (Ident false (codes "any") ∷ LeftParen ∷ word_a ∷ Comma ∷ Ident false (codes "not") ∷ LeftParen ∷ Ident false
    (codes "true") ∷ RightParen ∷ Comma ∷ Ident false (codes "b") ∷ Equals ∷ String (codes "1") ∷ RightParen ∷ [])
any_spelled =
    let truth : List Lexeme = Ident false (codes "true") ∷ [] in
    let pair : List Lexeme = Ident false (codes "b") ∷ Equals ∷ String (codes "1") ∷ [] in
    let last : SpellMembers (tree (Value (KeyPair (name (codes "b")) (codes "1"))) none) pair =
    (pair, (refl, (refl, refl)), inl (refl, refl)) in
    let two : SpellMembers (tree (Not True) (tree (Value (KeyPair (name (codes "b")) (codes "1"))) none))
    (group (codes "not") truth ++ Comma ∷ pair) =
    (group (codes "not") truth, (truth, refl, refl), inr (pair, refl, last)) in
    (_, (word_a ∷ [], a_spelled, inr (_, refl, two)), refl)

false_spelled : Spells False (Ident false (codes "false") ∷ [])
false_spelled = refl

-- `r#true`
marked_spelled : Spells (Value (Alone (marked (codes "true")))) (Ident true (codes "true") ∷ [])
marked_spelled = (refl, (refl, refl))

marked_is_no_literal : Spells True (Ident true (codes "true") ∷ []) → ⊥
unfolding is_raw
marked_is_no_literal p = true≢false (ap is_raw p)

-- a literal is no value
literal_is_no_value : Spells (Value (Alone (name (codes "true")))) (Ident false (codes "true") ∷ []) → ⊥
literal_is_no_value p = true≢false p.1.1

-- one comma after the last member, and none after no members
comma_at_end : SpellMembers (tree a none) (word_a ∷ Comma ∷ [])
comma_at_end = (word_a ∷ [], a_spelled, inr ([], refl, refl))

comma_of_none : SpellMembers none (Comma ∷ []) → ⊥
comma_of_none p = absurd (omega (arith, ap length p))

-- where no walk is, nothing is spelled
unwalked : (ts : List Lexeme) → walk Expressions ts ≡ None → IsAccepted Expressions ts → ⊥
unwalked ts h p = stopped Expressions ts [] h (rw (append-nil ts) p)

no_tokens : IsAccepted Expressions [] → ⊥
no_tokens p = true≢false (sym (accepted_whole Expressions _ [] refl p))

-- `all(,)`
lone_comma : IsAccepted Expressions (group (codes "all") (Comma ∷ [])) → ⊥
lone_comma p = unwalked _ refl p

-- `all(a,,)`
comma_twice : IsAccepted Expressions (group (codes "all") (word_a ∷ Comma ∷ Comma ∷ [])) → ⊥
comma_twice p = unwalked _ refl p

-- `all(a b)`
no_comma : IsAccepted Expressions (group (codes "all") (word_a ∷ Ident false (codes "b") ∷ [])) → ⊥
no_comma p = unwalked _ refl p

-- `not()`
empty_negation : IsAccepted Expressions (group (codes "not") []) → ⊥
empty_negation p = unwalked _ refl p

-- `not(a,)`
comma_in_negation : IsAccepted Expressions (group (codes "not") (word_a ∷ Comma ∷ [])) → ⊥
comma_in_negation p = unwalked _ refl p

-- `r#all()`
marked_group : IsAccepted Expressions (Ident true (codes "all") ∷ LeftParen ∷ RightParen ∷ []) → ⊥
marked_group p = unwalked _ refl p

-- `all = "x"`, which is a pair of the other grammar
word_as_key : IsAccepted Expressions (Ident false (codes "all") ∷ Equals ∷ String (codes "x") ∷ []) → ⊥
word_as_key p = unwalked _ refl p

-- `true = "x"`, which is a pair of the other grammar
literal_as_key : IsAccepted Expressions (Ident false (codes "true") ∷ Equals ∷ String (codes "x") ∷ []) → ⊥
literal_as_key p = unwalked _ refl p

-- `all(a`
open_group : IsAccepted Expressions (Ident false (codes "all") ∷ LeftParen ∷ word_a ∷ []) → ⊥
open_group p = true≢false (sym (accepted_whole Expressions _ _ refl p))

-- `a =`
key_alone : IsAccepted Expressions (word_a ∷ Equals ∷ []) → ⊥
key_alone p = true≢false (sym (accepted_whole Expressions _ _ refl p))

-- ---- texts

text_of_name : IsValueText (codes "a") (Alone (name (codes "a")))
text_of_name = (_, lone_a, refl)

text_of_group : IsTreeText (codes "all(a, )") (All (tree a none))
text_of_group = (_, comma_behind, all_a_spelled)

-- a text whose tail is not empty spells nothing, whatever is before it
text_with_tail : (c : CfgValue) → IsValueText (codes "ar#") c → ⊥
text_with_tail c p = absurd (omega (arith, (one_cut_from (codes "ar#") _ _ 0 3 2 p.1 late_mark).1))
