-- Earlier grammars of expressions, under their own names, so that each change is a statement about two grammars.
use Rattle.std.specs.Prelude.{◌≡◌, ℕ, Bool, ◌&&◌, ◌||◌, if◌then◌else◌, List, [], ◌∷◌, codes, IsFalse, bytes_eq}
use Rattle.cargo_platform.specs.Tokens.{Lexeme, Ident}
use Rattle.cargo_platform.specs.Trees.{Name, CfgValue, Alone, KeyPair, Tree, Not, All, Any, Value, True, False, Trees}
use Rattle.cargo_platform.specs.Trees.{none, tree, Condition}
use Rattle.cargo_platform.specs.Spelling.{is_group_word, is_literal_word, SpellsLiteral, SpellsBy, SpellMembersBy}
use Rattle.cargo_platform.specs.Spelling.{TextSpells}
use Rattle.cargo_platform.specs.WellFormed.{IsWellFormedBy}
use Rattle.cargo_platform.specs.Platforms.{IsConditionTextBy}

-- ---- released, as the Rust crate 0.3.3 has it: `true` and `false` alone are the literals, marked or not

-- the name is `true` or `false`, marked or not
abbrev pub is_literal_name : Name → Bool
is_literal_name n = bytes_eq n.name (codes "true") || bytes_eq n.name (codes "false")

abbrev pub MayStandReleased : CfgValue → Type 0
MayStandReleased (Alone n) = IsFalse (is_group_word n) × IsFalse (is_literal_name n)
MayStandReleased (KeyPair k v) = IsFalse (is_group_word k)

abbrev pub SpellsReleasedLiteral : List ℕ → List Lexeme → Type 0
SpellsReleasedLiteral word ts = (raw : Bool) × (ts ≡ Ident raw word ∷ [])

abbrev pub SpellsReleased : Tree → List Lexeme → Type 0
SpellsReleased = SpellsBy MayStandReleased SpellsReleasedLiteral

abbrev pub IsReleasedTreeText : List ℕ → Tree → Type 0
IsReleasedTreeText text e = TextSpells SpellsReleased text e

abbrev pub IsReleasedConditionText : List ℕ → Condition → Type 0
IsReleasedConditionText = IsConditionTextBy IsReleasedTreeText

abbrev pub IsWellFormedReleased : Tree → Type 0
IsWellFormedReleased = IsWellFormedBy MayStandReleased

-- the tree with the literals in place of marked `true` and `false` alone
abbrev mutual
  pub released : Tree → Tree
  released (Not e) = Not (released e)
  released (All es) = All (released_members es)
  released (Any es) = Any (released_members es)
  released (Value (Alone n)) =
      if n.raw && bytes_eq n.name (codes "true") then True
      else (if n.raw && bytes_eq n.name (codes "false") then False else Value (Alone n))
  released (Value (KeyPair k v)) = Value (KeyPair k v)
  released True = True
  released False = False

  pub released_members : Trees → Trees
  released_members none = none
  released_members (tree e es) = tree (released e) (released_members es)

-- ---- transitional: marked `true` and `false` alone are names, and unmarked ones may still be keys

abbrev pub MayStandTransitional : CfgValue → Type 0
MayStandTransitional (Alone n) = IsFalse (is_group_word n) × IsFalse (is_literal_word n)
MayStandTransitional (KeyPair k v) = IsFalse (is_group_word k)

abbrev pub SpellsTransitional : Tree → List Lexeme → Type 0
SpellsTransitional = SpellsBy MayStandTransitional SpellsLiteral

abbrev pub SpellMembersTransitional : Trees → List Lexeme → Type 0
SpellMembersTransitional = SpellMembersBy MayStandTransitional SpellsLiteral

abbrev pub IsTransitionalTreeText : List ℕ → Tree → Type 0
IsTransitionalTreeText text e = TextSpells SpellsTransitional text e

abbrev pub IsTransitionalConditionText : List ℕ → Condition → Type 0
IsTransitionalConditionText = IsConditionTextBy IsTransitionalTreeText

abbrev pub IsWellFormedTransitional : Tree → Type 0
IsWellFormedTransitional = IsWellFormedBy MayStandTransitional

-- ---- what the two accept

abbrev pub IsAcceptedReleased : List Lexeme → Type 0
IsAcceptedReleased ts = (e : Tree) × SpellsReleased e ts

abbrev pub IsAcceptedTransitional : List Lexeme → Type 0
IsAcceptedTransitional ts = (e : Tree) × SpellsTransitional e ts
