-- Which values, expressions and conditions are well-formed, and which are not.
use Rattle.std.proofs.Common.{refl, sym, true≢false, [], ◌∷◌, codes}
use Rattle.std.specs.Char.{encode_utf8}
use Rattle.cargo_platform.specs.Trees.{Alone, KeyPair, Not, All, Any, Value, True, False, none, trees_of, Target}
use Rattle.cargo_platform.specs.Trees.{Expression}
use Rattle.cargo_platform.specs.WellFormed.{IsWellFormedValue, IsWellFormed, AreWellFormed, IsWellFormedCondition}
use Rattle.cargo_platform.proofs.TargetNames.{refused_is_no_name}
use Rattle.cargo_platform.proofs.Rows.Trees.{name, marked, a}
use Rattle.cargo_platform.proofs.Rows.Conditions.{target_name, space_refused, mark_refused}

-- ---- names and pairs

name_is_well_formed : IsWellFormedValue (Alone (name (codes "foo")))
name_is_well_formed = (refl, refl)

-- also a name that may not be in an expression
word_is_well_formed : IsWellFormedValue (Alone (name (codes "all"))) × IsWellFormedValue (Alone (marked (codes "true")))
word_is_well_formed = ((refl, refl), (refl, refl))

-- `k = "1"`
pair_is_well_formed : IsWellFormedValue (KeyPair (name (codes "k")) (codes "1"))
unfolding encode_utf8
pair_is_well_formed = ((refl, refl), ((codes "1", (refl, refl)), refl))

no_empty_name : IsWellFormedValue (Alone (name [])) → ⊥
no_empty_name p = p

no_space_inside : IsWellFormedValue (Alone (name (codes "a b"))) → ⊥
no_space_inside p = true≢false (sym p.1)

no_quote_in_value : IsWellFormedValue (KeyPair (name (codes "k")) (codes "a\"b")) → ⊥
no_quote_in_value p = true≢false (sym p.1.1)

no_digit_first_in_key : IsWellFormedValue (KeyPair (marked (codes "1k")) (codes "1")) → ⊥
no_digit_first_in_key p = true≢false (sym p.0.0)

-- ---- expressions

-- `all(a, r#all)`
marked_word : IsWellFormed (All (trees_of (a ∷ Value (Alone (marked (codes "all"))) ∷ [])))
marked_word = (((refl, refl), (refl, refl)), (((refl, refl), (refl, refl)), tt))

literals : IsWellFormed (Any (trees_of (True ∷ Not False ∷ [])))
literals = (tt, (tt, tt))

-- `r#true = ""`
marked_literal_as_key : IsWellFormed (Value (KeyPair (marked (codes "true")) []))
unfolding encode_utf8
marked_literal_as_key = (((refl, refl), (([], (refl, refl)), refl)), (refl, refl))

no_literal_as_key : IsWellFormed (Value (KeyPair (name (codes "true")) [])) → ⊥
no_literal_as_key p = true≢false p.1.1

marked_literal_word : IsWellFormed (Value (Alone (marked (codes "true"))))
marked_literal_word = ((refl, refl), (refl, refl))

no_unmarked_word : IsWellFormed (Value (Alone (name (codes "all")))) → ⊥
no_unmarked_word p = true≢false p.1.0

no_word_as_key : IsWellFormed (Value (KeyPair (name (codes "any")) (codes "1"))) → ⊥
no_word_as_key p = true≢false p.1.0

-- `true` alone is the literal, and `r#true` is a name
no_literal_as_value : IsWellFormed (Value (Alone (name (codes "true")))) → ⊥
no_literal_as_value p = true≢false p.1.1

-- each member has to be so, at any depth
no_word_inside : IsWellFormed (Not (Any (trees_of (a ∷ Value (Alone (name (codes "not"))) ∷ [])))) → ⊥
no_word_inside p = true≢false p.1.0.1.0

no_members : AreWellFormed none
no_members = tt

no_space_in_member : AreWellFormed (trees_of (a ∷ Value (Alone (name (codes "a b"))) ∷ [])) → ⊥
no_space_in_member p = true≢false (sym p.1.0.0.1)

-- ---- conditions

target_is_well_formed : IsWellFormedCondition (Target (codes "x86_64-a.b"))
target_is_well_formed = target_name

expression_is_well_formed : IsWellFormedCondition (Expression a)
expression_is_well_formed = ((refl, refl), (refl, refl))

no_space_in_target : IsWellFormedCondition (Target (codes "a b")) → ⊥
no_space_in_target p = refused_is_no_name (codes "a b") 0x20 space_refused p

no_mark_in_target : IsWellFormedCondition (Target (codes "!foo")) → ⊥
no_mark_in_target p = refused_is_no_name (codes "!foo") 0x21 mark_refused p

no_word_in_condition : IsWellFormedCondition (Expression (Value (Alone (name (codes "not"))))) → ⊥
no_word_in_condition p = true≢false p.1.0
