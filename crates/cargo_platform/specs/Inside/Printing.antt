-- How an expression is written: first everything but the parentheses that end it, and then these.
use Rattle.std.specs.Prelude.{◌≡◌, ℕ, zero, suc, Bool, true, false, List, [], ◌∷◌, ◌++◌, codes, replicate}
use Rattle.std.specs.declared.fmt.Formatter.{Formatter}
use Rattle.std.specs.Fmt.{HasWritten}
use Rattle.cargo_platform.specs.declared.cfg.CfgExpr.{CfgExpr}
use Rattle.cargo_platform.specs.Trees.{Tree, Not, All, Any, Value, True, False, Trees, none, tree}
use Rattle.cargo_platform.specs.Print.{print, print_value}

-- not a name, a pair, `true` or `false`
abbrev pub is_group : Tree → Bool
is_group (Not e) = true
is_group (All es) = true
is_group (Any es) = true
is_group (Value c) = false
is_group True = false
is_group False = false

-- what is before the members of a group, or the whole of an expression that is no group
abbrev pub word : Tree → List ℕ
word (Not e) = codes "not("
word (All es) = codes "all("
word (Any es) = codes "any("
word (Value c) = print_value c
word True = codes "true"
word False = codes "false"

abbrev mutual
  -- an expression without the parentheses that end it
  pub begun : Tree → List ℕ
  begun (Not e) = codes "not(" ++ begun e
  begun (All es) = codes "all(" ++ begun_members es
  begun (Any es) = codes "any(" ++ begun_members es
  begun (Value c) = print_value c
  begun True = codes "true"
  begun False = codes "false"

  -- members, joined by a comma and one space, without the parentheses that end the last one
  pub begun_members : Trees → List ℕ
  begun_members none = []
  begun_members (tree e none) = begun e
  begun_members (tree e (tree d es)) = print e ++ codes ", " ++ begun_members (tree d es)

-- what is between a member and the others after it
abbrev pub between : List CfgExpr → List ℕ
between [] = []
between (e ∷ es) = codes ", "

abbrev mutual
  -- the number of groups that end where the expression ends, including itself if it is a group
  pub ending : Tree → ℕ
  ending (Not e) = suc (ending e)
  ending (All es) = suc (ending_last es)
  ending (Any es) = suc (ending_last es)
  ending (Value c) = zero
  ending True = zero
  ending False = zero

  pub ending_last : Trees → ℕ
  ending_last none = zero
  ending_last (tree e none) = ending e
  ending_last (tree e (tree d es)) = ending_last (tree d es)

-- the parentheses that end this many groups
abbrev pub closed : ℕ → List ℕ
closed n = replicate n 41

-- g is f after writing a text except for what is left of it
pub record HasWrittenBut {W : Type 0} (took : W → List ℕ → W → Type 0) (f : Formatter W) (text left : List ℕ)
    (g : Formatter W) : Type 0 where
  pub done : List ℕ
  pub wrote : HasWritten took f done g
  pub whole : done ++ left ≡ text
