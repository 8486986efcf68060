-- A list of tokens, and a text, spells at most one value, and at most one tree.
use Rattle.std.proofs.Common.{◌≡◌, refl, sym, ap, ◌∙◌, ℕ, false, List, [], ◌∷◌, length}
use Rattle.cargo_platform.specs.Tokens.{Lexeme, Ident, Equals, String}
use Rattle.cargo_platform.specs.Cut.{lexemes}
use Rattle.cargo_platform.specs.Trees.{CfgValue, Alone, KeyPair, Tree}
use Rattle.cargo_platform.specs.Spelling.{value_spelling, Spells, TextSpells, IsValueText, IsTreeText}
use Rattle.cargo_platform.proofs.OneCut.{one_cut_from}
use Rattle.cargo_platform.proofs.Building.{one_built}

-- the value that these tokens spell, or any other
value_in : List Lexeme → CfgValue
value_in (Ident raw name ∷ Equals ∷ String value ∷ ts) = KeyPair (record { raw = raw; name = name }) value
value_in (Ident raw name ∷ ts) = Alone (record { raw = raw; name = name })
value_in ts = Alone (record { raw = false; name = [] })

told : (c : CfgValue) → value_in (value_spelling c) ≡ c
unfolding value_in
told (Alone n) = refl
told (KeyPair k v) = refl

-- A list of tokens spells at most one value.
pub one_value : (c d : CfgValue) (ts : List Lexeme) → ts ≡ value_spelling c → ts ≡ value_spelling d → c ≡ d
one_value c d ts p q = sym (told c) ∙ ap value_in (sym p ∙ q) ∙ told d

-- A list of tokens spells at most one tree: that which it builds.
pub one_tree : (d e : Tree) (ts : List Lexeme) → Spells d ts → Spells e ts → d ≡ e
one_tree d e ts p q = one_built false d e ts p q

one_text : {A : Type 0} (spells : A → List Lexeme → Type 0)
    → ((a b : A) (ts : List Lexeme) → spells a ts → spells b ts → a ≡ b) → (text : List ℕ) (a b : A)
    → TextSpells spells text a → TextSpells spells text b → a ≡ b
one_text spells one text a b p q =
    let same : p.0 ≡ q.0 = (one_cut_from text p.0 q.0 0 (length text) (length text) p.1 q.1).0 in
    one a b (lexemes p.0) p.2 (rw same q.2)

pub one_value_text : (text : List ℕ) (c d : CfgValue) → IsValueText text c → IsValueText text d → c ≡ d
one_value_text text c d p q = one_text (λ c ts. ts ≡ value_spelling c) one_value text c d p q

pub one_tree_text : (text : List ℕ) (d e : Tree) → IsTreeText text d → IsTreeText text e → d ≡ e
one_tree_text text d e p q = one_text Spells one_tree text d e p q
