-- The effect of a token at its position in the text of a declaration.
use Rattle.std.specs.Prelude.{◌≡◌, ℕ, Bool, true, false, List, [], ◌∷◌, ◌++◌, cond, codes, bytes_eq, Option, Some, None}
use Rattle.std.specs.Borrow.{Bor}
use Rattle.cargo_platform.specs.Tokens.{Lexeme, LeftParen, RightParen, Ident}
use Rattle.manifests.specs.Declarations.{DeclaredValues, DeclaredEntry, declared_values, is_close, values_from}
use Rattle.manifests.specs.Declarations.{names_from}
use Rattle.manifests.specs.declared.declared.Stage.{Stage}
use Rattle.manifests.specs.declared.declared.Stage.TheVariants as stage
use Rattle.manifests.specs.declared.declared.Step.{Step}
use Rattle.manifests.specs.declared.declared.Step.TheVariants as step
use Rattle.manifests.specs.declared.declared.Turn.{Turn}
use Rattle.manifests.specs.declared.declared.Turn.TheVariants as turn

-- the values at a stage, given the remaining tokens
abbrev pub values_at_stage : Stage → List (List ℕ) → (any none : Bool) → List Lexeme → Option DeclaredValues
values_at_stage stage.Value texts any none ls = values_from true texts any none ls
values_at_stage (stage.Parens word) texts any none ls = values_from true texts any none (Ident false word.now ∷ ls)
values_at_stage (stage.Paren word) texts any none ls =
    values_from true texts any none (Ident false word.now ∷ LeftParen ∷ ls)
values_at_stage stage.Behind texts any none ls = values_from false texts any none ls

-- the values after a token with this effect
abbrev pub values_after : Step → List (List ℕ) → (any none : Bool) → List Lexeme → Option DeclaredValues
values_after (step.To next) texts any none ls = values_at_stage next texts any none ls
values_after (step.Text text) texts any none ls = values_from false (texts ++ text.now ∷ []) any none ls
values_after (step.Word word) texts any none ls =
    cond (bytes_eq word.now (codes "any")) (values_from false texts true none ls)
    (cond (bytes_eq word.now (codes "none")) (values_from false texts any true ls) None)
values_after step.Close texts any none ls = cond (is_close ls) (Some (declared_values texts any none)) None
values_after step.Fault texts any none ls = None

abbrev pub Steps : Stage → Lexeme → Step → Type 0
Steps at l does =
    (texts : List (List ℕ)) (any none : Bool) (ls : List Lexeme)
    → values_at_stage at texts any none (l ∷ ls) ≡ values_after does texts any none ls

-- a word, and the remaining tokens
abbrev pub behind : Option (Bool × Bor (List ℕ)) → List Lexeme → List Lexeme
behind None ls = ls
behind (Some w) ls = Ident w.0 w.1.now ∷ ls

abbrev pub names_after : Turn → List (List ℕ) → List Lexeme → Option DeclaredEntry
names_after (turn.Word raw name) names ls = names_from names (Ident raw name.now ∷ ls)
names_after (turn.Next name) names ls = names_from (names ++ name.now ∷ []) ls
names_after (turn.Last name) names ls = names_from names (Ident false name.now ∷ RightParen ∷ ls)
names_after (turn.Values raw name) names ls = names_from names (Ident raw name.now ∷ LeftParen ∷ ls)
names_after turn.Fault names ls = None

abbrev pub Turns : Option (Bool × Bor (List ℕ)) → Lexeme → Turn → Type 0
Turns word l does =
    (names : List (List ℕ)) (ls : List Lexeme) → names_from names (behind word (l ∷ ls)) ≡ names_after does names ls
