-- Laws of completion and of the fault prefix.
use Rattle.std.specs.Prelude.{◌≡◌, ◌⊎◌, ◌↔◌, ◌≤◌, ◌+◌, ◌++◌, ℕ, Bool, true, false, List, [], ◌∷◌, Some, None, codes}
use Rattle.std.specs.Prelude.{length, drop}
use Rattle.std.specs.Str.{IsCharBoundary}
use Rattle.std.specs.declared.ops.Range.{Range}
use Rattle.std.specs.List.{AllByRecursion, count_by, last_or}
use Rattle.cargo_platform.specs.Tokens.{Lexeme, LeftParen, RightParen, Ident, Comma, Equals, String, Placed}
use Rattle.cargo_platform.specs.Tokens.{IsWellWritten}
use Rattle.cargo_platform.specs.Cut.{lexemes, Nothing}
use Rattle.cargo_platform.specs.Spelling.{Grammar, Expressions, IsAccepted}
use Rattle.cargo_platform.specs.Faults.{IsCompletable, IsFaultPrefix, Fault, UnexpectedToken, IncompleteExpr}
use Rattle.cargo_platform.specs.Faults.{expected_after, UnterminatedExpression, IsRefused, IsRefusedAt}
use Rattle.cargo_platform.specs.Faults.{span_of}
use Rattle.cargo_platform.specs.Walk.{State, after, walk}

-- the walk of a list shows whether it can be completed
abbrev pub IsWalkedIffCompletable : Grammar → List Lexeme → Type 0
IsWalkedIffCompletable g ts = IsCompletable g ts ↔ ((s : State) × (walk g ts ≡ Some s))

-- a prefix of a completable list is completable
abbrev pub PrefixesAreCompletable : Grammar → List Lexeme → List Lexeme → Type 0
PrefixesAreCompletable g prefix after =
    AllByRecursion IsWellWritten (prefix ++ after) → IsCompletable g (prefix ++ after) → IsCompletable g prefix

-- the state to which the walk of a list leads shows after which tokens it can still be completed
abbrev pub IsKeptByWalk : Grammar → List Lexeme → Lexeme → Type 0
IsKeptByWalk g ts t = (s : State) → walk g ts ≡ Some s
    → (IsCompletable g (ts ++ t ∷ []) ↔ ((next : State) × (after g s t ≡ Some next)))

abbrev pub is_left_paren : Lexeme → Bool
is_left_paren LeftParen = true
is_left_paren t = false

-- an expression is completed by at most three tokens more than the list has `(`
abbrev pub IsCompletedShortly : List Lexeme → Type 0
IsCompletedShortly ts = IsCompletable Expressions ts
    → (more : List Lexeme) × AllByRecursion IsWellWritten more × IsAccepted Expressions (ts ++ more)
    × (length more ≤ count_by is_left_paren ts + 3)

-- the token is one of those that faults name so
abbrev pub IsOfClass : List ℕ → Lexeme → Type 0
IsOfClass class (Ident raw name) = (class ≡ codes "identifier") ⊎ (class ≡ codes "start of a cfg expression")
IsOfClass class (String value) = class ≡ codes "a string"
IsOfClass class LeftParen = class ≡ codes "`(`"
IsOfClass class RightParen = class ≡ codes "`)`"
IsOfClass class Comma = ⊥
IsOfClass class Equals = ⊥

-- with some token of the class added, the list can be completed
abbrev pub CanFollow : Grammar → List Lexeme → List ℕ → Type 0
CanFollow g ts class = (t : Lexeme) × IsOfClass class t × IsWellWritten t × IsCompletable g (ts ++ t ∷ [])

-- the fault prefix can be completed
abbrev pub IsPrefixCompletable : Grammar → List Placed → List Placed → List Placed → Type 0
IsPrefixCompletable g ts prefix after = IsFaultPrefix g ts prefix after → IsCompletable g (lexemes prefix)

-- the fault prefix with the next token can't be completed
abbrev pub IsStoppedByNext : Grammar → List Placed → List Placed → List Placed → Type 0
IsStoppedByNext g ts prefix after = IsFaultPrefix g ts prefix after → (next : Placed) (others : List Placed)
    → after ≡ next ∷ others → IsCompletable g (lexemes (prefix ++ next ∷ [])) → ⊥

-- what is expected after a fault prefix that is not accepted is allowed there
abbrev pub IsExpectedToFollow : Grammar → List Placed → List Placed → List Placed → Type 0
IsExpectedToFollow g ts prefix after =
    IsFaultPrefix g ts prefix after → (IsAccepted g (lexemes prefix) → ⊥) →
    CanFollow g (lexemes prefix) (expected_after g (last_or None (lexemes prefix)) false)
    × CanFollow g (lexemes prefix) (expected_after g (last_or None (lexemes prefix)) true)

-- the fault names the class as expected, at a token or at the end
abbrev pub Names : {g : Grammar} {text : List ℕ} {fault : Fault} → IsRefused g text fault → List ℕ → Type 0
Names {fault = fault} r class =
    ((found : List ℕ) × (fault ≡ UnexpectedToken class found)) ⊎ ((fault ≡ IncompleteExpr class) × (r.next ≡ Nothing))

-- what the fault of a refused text names as expected is allowed after its fault prefix
abbrev pub NamesWhatCanFollow : Grammar → List ℕ → Fault → Type 0
NamesWhatCanFollow g text fault = (r : IsRefused g text fault) (class : List ℕ) → Names r class
    → CanFollow g (lexemes r.prefix) class

-- a span within the text, whose start is not after its end, and which begins and ends between characters
abbrev pub IsSpanIn : List ℕ → Range ℕ → Type 0
IsSpanIn text span = (span.start ≤ span.end) × IsCharBoundary text span.start × IsCharBoundary text span.end

-- the fault of a text is within it
abbrev pub IsPlacedWithin : Grammar → List ℕ → Fault → Range ℕ → Type 0
IsPlacedWithin g text fault span = IsRefusedAt g text fault (Some span) → IsSpanIn text span

-- the span of what is left after a whole value or expression ends at the end of the text
abbrev pub IsSurplusAt : Grammar → List ℕ → List ℕ → Type 0
IsSurplusAt g text rest = (r : IsRefused g text (UnterminatedExpression rest))
    → (drop (span_of text r.accepted r.next).start text ≡ rest)
    × ((span_of text r.accepted r.next).end ≡ length text)

-- the tokens of the fault prefix are before the span, and the next token, if there is one, begins where the span begins
abbrev pub IsBehindPrefix : {g : Grammar} {text : List ℕ} {fault : Fault} → IsRefused g text fault → Type 0
IsBehindPrefix {text = text} r =
    AllByRecursion (λ t. t.end ≤ (span_of text r.accepted r.next).start) r.prefix
    × ((t : Placed) (others : List Placed) → r.after ≡ t ∷ others
    → (span_of text r.accepted r.next).start ≡ t.start)
