-- What well-written tokens spell is well-formed.
use Rattle.std.proofs.Common.{◌≡◌, ℕ, subst, List, [], ◌∷◌, ◌++◌, codes, inl, inr, length}
use Rattle.std.specs.List.{AllByRecursion}
use Rattle.cargo_platform.specs.Tokens.{Lexeme, RightParen, Comma, Placed, IsWellWritten}
use Rattle.cargo_platform.specs.Cut.{Item, ComesBehind, lexemes}
use Rattle.cargo_platform.specs.Trees.{CfgValue, Alone, KeyPair, Tree, Not, All, Any, Value, True, False, Trees, none}
use Rattle.cargo_platform.specs.Trees.{tree}
use Rattle.cargo_platform.specs.Spelling.{value_spelling, group, Spells, SpellMembers, IsValueText}
use Rattle.cargo_platform.specs.Spelling.{IsTreeText}
use Rattle.cargo_platform.specs.WellFormed.{IsWellFormedValue, IsWellFormed, AreWellFormed}

abbrev AreWellWritten : List Lexeme → Type 0
AreWellWritten ts = AllByRecursion IsWellWritten ts

prefix_written : (s t : List Lexeme) → AreWellWritten (s ++ t) → AreWellWritten s
prefix_written [] t w = tt
prefix_written (x ∷ s) t w = (w.0, prefix_written s t w.1)

back_written : (s t : List Lexeme) → AreWellWritten (s ++ t) → AreWellWritten t
back_written [] t w = w
back_written (x ∷ s) t w = back_written s t w.1

-- what is between the parentheses of a group
inside_written : (word : List ℕ) (inner : List Lexeme) → AreWellWritten (group word inner) → AreWellWritten inner
inside_written word inner w = prefix_written inner (RightParen ∷ []) w.1.1

-- A list of well-written tokens spells only well-formed values.
pub well_formed_value : (c : CfgValue) (ts : List Lexeme) → AllByRecursion IsWellWritten ts → ts ≡ value_spelling c
    → IsWellFormedValue c
well_formed_value (Alone n) ts w p = (subst AreWellWritten p w).0
well_formed_value (KeyPair k v) ts w p =
    let all = subst AreWellWritten p w in
    (all.0, all.1.1.0)

mutual
  -- A list of well-written tokens spells only well-formed trees.
  pub well_formed : (e : Tree) (ts : List Lexeme) → AllByRecursion IsWellWritten ts → Spells e ts → IsWellFormed e
  well_formed (Not e) ts w p = well_formed e p.0 (inside_written (codes "not") p.0 (subst AreWellWritten p.2 w)) p.1
  well_formed (All es) ts w p =
      well_formed_members es p.0 (inside_written (codes "all") p.0 (subst AreWellWritten p.2 w)) p.1
  well_formed (Any es) ts w p =
      well_formed_members es p.0 (inside_written (codes "any") p.0 (subst AreWellWritten p.2 w)) p.1
  well_formed (Value c) ts w p = (well_formed_value c ts w p.0, p.1)
  well_formed True ts w p = tt
  well_formed False ts w p = tt

  well_formed_members : (es : Trees) (ts : List Lexeme) → AreWellWritten ts → SpellMembers es ts → AreWellFormed es
  well_formed_members none ts w p = tt
  well_formed_members (tree e es) ts w (first, p, inl (last, is)) =
      (well_formed e first (subst AreWellWritten is w) p, rw last tt)
  well_formed_members (tree e es) ts w (first, p, inr (others, is, q)) =
      let v = subst AreWellWritten is w in (
        well_formed e first (prefix_written first (Comma ∷ others) v) p,
        well_formed_members es others (back_written first (Comma ∷ others) v).1 q,
      )

-- the tokens of a cut are well written
cut_written : (text : List ℕ) (from tail : ℕ) (ts : List Placed) (last : Item) → ComesBehind text from ts last tail
    → AreWellWritten (lexemes ts)
cut_written text from tail [] last c = tt
cut_written text from tail (t ∷ ts) last c = (c.0.1.0, cut_written text t.end tail ts last c.1)

-- A text spells only well-formed values.
pub spelled_well_formed_value : (text : List ℕ) (c : CfgValue) → IsValueText text c → IsWellFormedValue c
spelled_well_formed_value text c p =
    well_formed_value c (lexemes p.0) (cut_written text 0 (length text) p.0 p.1.last p.1.comes) p.2

-- A text spells only well-formed trees.
pub spelled_well_formed : (text : List ℕ) (e : Tree) → IsTreeText text e → IsWellFormed e
spelled_well_formed text e p =
    well_formed e (lexemes p.0) (cut_written text 0 (length text) p.0 p.1.last p.1.comes) p.2
