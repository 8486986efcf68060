-- An expression that is evaluated while it is read: the groups that are open, in words of bits, and what they come to.
use Rattle.std.specs.Prelude.{◌≡◌, ℕ, zero, suc, ◌+◌, ◌/◌, ◌%◌, Bool, true, false, not, ◌||◌, IsTrue, if◌then◌else◌}
use Rattle.std.specs.Prelude.{List, [], ◌∷◌, reverse, Option, Some, None}
use Rattle.std.specs.FinSet.{contains}
use Rattle.cargo_platform.specs.declared.matching.Kind.{Kind}
use Rattle.cargo_platform.specs.declared.matching.Kind.TheVariants as kinds
use Rattle.cargo_platform.specs.declared.matching.Levels.{Levels}
use Rattle.cargo_platform.specs.Trees.{CfgValue, Tree, Value, True, False, trees_of}
use Rattle.cargo_platform.specs.Spelling.{Grammar, Expressions}
use Rattle.cargo_platform.specs.Cut.{Nothing}
use Rattle.cargo_platform.specs.Facts.{FactSet, pair_of, truth, all_true, any_true}
use Rattle.cargo_platform.specs.Walk.{Opening, Negated, Listed, Position, Wanting, WithTree}
use Rattle.cargo_platform.specs.Inside.Ahead.{Ahead, NextIs}
use Rattle.cargo_platform.specs.Inside.Parsing.{is_all, at_lone_name, Reads, IsClear}

-- ---- open groups

-- a group of this kind, without members
abbrev pub fresh : Kind → Opening
fresh kinds.Not = Negated
fresh (kinds.List word) = Listed (is_all word) []

-- a group of this kind
abbrev pub IsOfKind : Kind → Opening → Type 0
IsOfKind kinds.Not g = g ≡ Negated
IsOfKind (kinds.List word) g = (es : List Tree) × (g ≡ Listed (is_all word) es)

-- the innermost group is of this kind
abbrev pub IsIn : Kind → List Opening → Type 0
IsIn kind gs = (g : Opening) × (hs : List Opening) × (gs ≡ g ∷ hs) × IsOfKind kind g

-- whether a member decides the group: a false one in `all`, a true one in `any`
abbrev pub is_decided : FactSet → Opening → Bool
is_decided fs Negated = false
is_decided fs (Listed true es) = not (all_true fs (trees_of es))
is_decided fs (Listed false es) = any_true fs (trees_of es)

-- whether a member decides one of the groups, so that nothing further in the innermost one matters
abbrev pub is_settled : FactSet → List Opening → Bool
is_settled fs [] = false
is_settled fs (g ∷ gs) = is_settled fs gs || is_decided fs g

-- the answer for an expression in these groups, if it matters
abbrev pub IsAnswer : FactSet → List Opening → Bool → Tree → Type 0
IsAnswer fs gs answer e = is_settled fs gs ≡ false → answer ≡ truth fs e

-- ---- their bits

abbrev pub code_of : Opening → ℕ
code_of Negated = 1
code_of (Listed true es) = 2
code_of (Listed false es) = 3

-- the three bits of the innermost group
abbrev pub level : FactSet → Opening → List Opening → ℕ
level fs g gs = code_of g + (if is_settled fs (g ∷ gs) then 4 else 0)

-- the bits of the innermost groups, and the full words around them, the innermost first
pub record Words : Type 0 where
  pub inner : ℕ
  pub outer : List ℕ

abbrev pub words : Levels → Words
words levels = record { inner = levels.bits; outer = reverse levels.outer.items }

-- without the innermost group
abbrev pub around_by : ℕ → List ℕ → Words
around_by zero [] = record { inner = 0; outer = [] }
around_by zero (w ∷ ws) = record { inner = w; outer = ws }
around_by (suc n) ws = record { inner = suc n; outer = ws }

abbrev pub around : Words → Words
around w = around_by (w.inner / 8) w.outer

-- the words are those of these groups
abbrev pub Hold : FactSet → Words → List Opening → Type 0
Hold fs w [] = (w.inner ≡ 0) × (w.outer ≡ [])
Hold fs w (g ∷ gs) = (w.inner % 8 ≡ level fs g gs) × Hold fs (around w) gs

-- ---- what was read

-- after tokens from a position on an expression has to follow
pub record Wants (fs : FactSet) (old new : Ahead) (from : Position) (w : Words) : Type 0 where
  pub gs : List Opening
  pub hold : Hold fs w gs
  pub reads : Reads Expressions old new from (Wanting gs)

-- after tokens from a position on an expression has ended, and this is the answer for it
pub record Ends (fs : FactSet) (old new : Ahead) (from : Position) (w : Words) (answer : Bool) : Type 0 where
  pub gs : List Opening
  pub hold : Hold fs w gs
  pub e : Tree
  pub reads : Reads Expressions old new from (WithTree e gs)
  pub clear : IsClear e new
  pub is : IsAnswer fs gs answer e

-- after the word of a group, or after a name
pub record Named (fs : FactSet) (old new : Ahead) (from : Position) (w : Words) (at : List Opening → Position)
    : Type 0 where
  pub gs : List Opening
  pub hold : Hold fs w gs
  pub reads : Reads Expressions old new from (at gs)

abbrev pub Begins : FactSet → Ahead → Ahead → Position → Words → Option Bool → Type 0
Begins fs old new from w None = Wants fs old new from w
Begins fs old new from w (Some answer) = Ends fs old new from w answer

-- after tokens from a position on the whole expression has ended, and this is the answer for it
pub record Answers (fs : FactSet) (old new : Ahead) (from : Position) (answer : Bool) : Type 0 where
  pub e : Tree
  pub reads : Reads Expressions old new from (WithTree e [])
  pub is : answer ≡ truth fs e
  pub ended : NextIs new Nothing

abbrev pub GoesOn : FactSet → Ahead → Ahead → Position → Words → Option Bool → Type 0
GoesOn fs old new from w None = Wants fs old new from w
GoesOn fs old new from w (Some answer) = Answers fs old new from answer

abbrev pub literal : Bool → Tree
literal true = True
literal false = False

-- a name or a pair was read, and this is the answer for it if it is asked for
pub record ReadsValue (fs : FactSet) (old new : Ahead) (raw : Bool) (name : List ℕ) (asked answer : Bool) : Type 0 where
  pub c : CfgValue
  pub reads : (g : Grammar) (gs : List Opening) → Reads g old new (at_lone_name raw name gs) (WithTree (Value c) gs)
  pub clear : IsClear (Value c) new
  pub is : IsTrue asked → answer ≡ contains fs (pair_of c)
