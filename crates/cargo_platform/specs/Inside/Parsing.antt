-- What a reader takes and refuses: its tokens lead from one position of the automaton to another.
use Rattle.std.specs.Prelude.{◌≡◌, ℕ, Bool, true, false, List, [], ◌∷◌, ◌++◌, map, reverse, codes, Option, Some, None}
use Rattle.std.specs.Prelude.{length}
use Rattle.std.specs.Prelude.{Result, Ok, Err, IfSome}
use Rattle.std.specs.List.{last_or}
use Rattle.std.specs.declared.ops.Range.{Range}
use Rattle.cargo_platform.specs.declared.tokens.Spanned.{Spanned}
use Rattle.cargo_platform.specs.declared.reader.Rest.{Rest}
use Rattle.cargo_platform.specs.declared.tokens.TokenFaultKind.{TokenFaultKind}
use Rattle.cargo_platform.specs.declared.cfg.CfgExpr.{CfgExpr}
use Rattle.cargo_platform.specs.declared.refusal.Refusal.{Refusal}
use Rattle.cargo_platform.specs.declared.parser.Listing.{Listing}
use Rattle.cargo_platform.specs.declared.parser.Listing.TheVariants as listing
use Rattle.cargo_platform.specs.declared.reader.Punctuation.{Punctuation}
use Rattle.cargo_platform.specs.declared.reader.Punctuation.TheVariants as punctuation
use Rattle.cargo_platform.specs.declared.parser.Group.{Group}
use Rattle.cargo_platform.specs.declared.parser.Opened.{Opened}
use Rattle.cargo_platform.specs.declared.parser.OpenGroups.{OpenGroups}
use Rattle.cargo_platform.specs.declared.parser.Group.TheVariants as groups
use Rattle.cargo_platform.specs.Tokens.{Lexeme, LeftParen, RightParen, Ident, Comma, Equals, String, Placed}
use Rattle.cargo_platform.specs.Tokens.{placed}
use Rattle.cargo_platform.specs.Cut.{lexemes}
use Rattle.cargo_platform.specs.Cut.{Item, Nothing}
use Rattle.cargo_platform.specs.Inside.Ahead.{Ahead, NextIs, GoesPast, Path, Standing, IsSeenTo}
use Rattle.cargo_platform.specs.Cut as cut
use Rattle.cargo_platform.specs.Trees.{Name, Alone, Tree, Value, tree_of}
use Rattle.cargo_platform.specs.Spelling.{Grammar, role}
use Rattle.cargo_platform.specs.Faults.{UnterminatedExpression, expected_after, span_of, looked_to}
use Rattle.cargo_platform.specs.Walk.{Opening, Negated, Listed, Position, Wanting, WithTree, start, at_role, step}
use Rattle.cargo_platform.specs.Walk.{steps}
use Rattle.cargo_platform.specs.Walk.{Word, Several, is_whole, state_of}
use Rattle.cargo_platform.specs.Inside.Refusals.{FaultAt, fault_at_of, refused_at}

-- after tokens that are accepted this text is surplus, and it has this span
abbrev pub IsSurplus : List ℕ → Item → List ℕ → Range ℕ → Type 0
IsSurplus text next rest span =
    (g : Grammar) (last : Option Lexeme)
    → fault_at_of g text true last next ≡ Some (record { fault = UnterminatedExpression rest; span = span })

-- the text from the next item on, which is the surplus after accepted tokens, or nothing at the end
abbrev pub SeesRest : Ahead → Option Rest → Type 0
SeesRest l None = NextIs l Nothing
SeesRest l (Some rest) = (next : Item) × NextIs l next × IsSurplus l.text next rest.text.text.now rest.span

abbrev pub lexeme_of : Punctuation → Lexeme
lexeme_of punctuation.LeftParen = LeftParen
lexeme_of punctuation.RightParen = RightParen
lexeme_of punctuation.Comma = Comma
lexeme_of punctuation.Equals = Equals

-- the next token is taken, and it is this one
abbrev pub TakesToken : Ahead → Ahead → Lexeme → Type 0
TakesToken old new t = (first : Placed) × (first.token ≡ t) × GoesPast old new first

-- what comes next is taken, if it is a token
abbrev pub Takes : Ahead → Ahead → Option (Result Spanned TokenFaultKind) → Type 0
Takes old new None = (new ≡ old) × NextIs old Nothing
Takes old new (Some (Ok t)) = GoesPast old new (placed t)
Takes old new (Some (Err kind)) = (new ≡ old) × NextIs old (cut.Lexical kind old.place)

-- the text was looked at up to the end of the span of a token or a lexical fault, or else to its end
abbrev pub SeesTaken : Standing → Option (Result Spanned TokenFaultKind) → Type 0
SeesTaken new None = IsSeenTo new (length new.ahead.text)
SeesTaken new (Some (Ok t)) = IsSeenTo new t.end
SeesTaken new (Some (Err kind)) =
    IsSeenTo new (span_of new.ahead.text false (cut.Lexical kind new.ahead.place)).end

-- the token is an identifier
abbrev pub IsIdentifier : Lexeme → Type 0
IsIdentifier t = (raw : Bool) × (name : List ℕ) × (t ≡ Ident raw name)

-- the token is a string
abbrev pub IsString : Lexeme → Type 0
IsString t = (value : List ℕ) × (t ≡ String value)

-- the next item is not a token with this property
abbrev pub Lacks : (Lexeme → Type 0) → Ahead → Type 0
Lacks P l = (first : Placed) → NextIs l (cut.Token first) → P first.token → ⊥

abbrev pub LacksPunctuation : Ahead → Punctuation → Type 0
LacksPunctuation l p = Lacks (λ t. t ≡ lexeme_of p) l

abbrev pub LacksName : Ahead → Type 0
LacksName l = Lacks IsIdentifier l

abbrev pub LacksString : Ahead → Type 0
LacksString l = Lacks IsString l

-- ---- open groups

abbrev pub list_word : Bool → List ℕ
list_word true = codes "all"
list_word false = codes "any"

abbrev pub opening_word : Opening → List ℕ
opening_word Negated = codes "not"
opening_word (Listed all members) = list_word all

abbrev pub IsFresh : Opening → Type 0
IsFresh Negated = Unit {0}
IsFresh (Listed all members) = members ≡ []

-- the innermost group is a list
abbrev pub is_list : List Word → Bool
is_list (Several ∷ ws) = true
is_list ws = false

abbrev pub is_all : Listing → Bool
is_all listing.All = true
is_all listing.Any = false

-- the opening that a group of the program means
abbrev pub opening : Group → Opening
opening groups.Not = Negated
opening (groups.List word members) = Listed (is_all word) (map tree_of members.items)

-- open groups, the innermost first
abbrev pub openings : Opened → List Opening
openings o = opening o.innermost ∷ reverse (map opening o.outer.items)

-- the groups that are open, if any are, the innermost first
abbrev pub stack_of : Option Opened → List Opening
stack_of None = []
stack_of (Some o) = openings o

abbrev pub stack : OpenGroups → List Opening
stack o = stack_of o.opened

-- with one more member in the innermost group
abbrev pub with_last : List Opening → Tree → List Opening
with_last (Listed all es ∷ gs) e = Listed all (es ++ e ∷ []) ∷ gs
with_last gs e = gs

-- ---- positions

-- after an identifier of an expression
abbrev pub at_name : Bool → List ℕ → List Opening → Position
at_name raw name gs = let n : Name = record { raw = raw; name = name } in at_role (role n) n gs

-- after a name alone
abbrev pub at_lone_name : Bool → List ℕ → List Opening → Position
at_lone_name raw name gs = WithTree (Value (Alone (record { raw = raw; name = name }))) gs

-- after an expression, or before one that has to follow
abbrev pub at_done : List Opening → Option CfgExpr → Position
at_done gs None = Wanting gs
at_done gs (Some e) = WithTree (tree_of e) gs

-- Some tokens were read between the two states, and they lead from one position to another.
pub record Reads (g : Grammar) (old new : Ahead) (p q : Position) : Type 0 where
  pub us : List Placed
  pub path : Path old us new
  pub leads : steps g (Some p) (lexemes us) ≡ Some q

-- what comes next does not continue the expression
abbrev pub IsClear : Tree → Ahead → Type 0
IsClear (Value (Alone n)) l = LacksPunctuation l punctuation.Equals
IsClear e l = Unit {0}

abbrev pub IsClearAfter : Option CfgExpr → Ahead → Type 0
IsClearAfter done l = IfSome done (λ e. IsClear (tree_of e) l)

-- ---- refusals

-- no step takes the next token
abbrev pub IsStop : Grammar → Position → Item → Type 0
IsStop g p (cut.Token t) = step g p t.token ≡ None
IsStop g p (cut.Lexical kind at) = Unit {0}
IsStop g p Nothing = Unit {0}

-- a statement about the fault of a refusal that is not an allocation failure
abbrev pub IfFault : Refusal → (FaultAt → Type 0) → Type 0
IfFault r P = IfSome (refused_at r) P

-- the text was looked at as far as its fault needs
abbrev pub HasLooked : Standing → Refusal → Type 0
HasLooked s r = IfFault r (λ fault. IsSeenTo s (looked_to fault.fault fault.span))

-- Some tokens were read, and no step takes what comes next. The fault is that of all tokens that lead there.
pub record StopsAt (g : Grammar) (l : Ahead) (p : Position) (fault : FaultAt) : Type 0 where
  pub us : List Placed
  pub stop : Ahead
  pub path : Path l us stop
  pub q : Position
  pub leads : steps g (Some p) (lexemes us) ≡ Some q
  pub next : Item
  pub comes : NextIs stop next
  pub stops : IsStop g q next
  pub is :
      (ts : List Lexeme) → steps g (Some start) ts ≡ Some q
      → fault_at_of g stop.text (is_whole (state_of q)) (last_or None ts) next ≡ Some fault

abbrev pub Stops : Grammar → Ahead → Position → Refusal → Type 0
Stops g l p r = IfFault r (StopsAt g l p)

-- the next item is refused, after tokens that are not accepted, and these are the words for what is expected after them
abbrev pub RefusesNext : Ahead → List ℕ → List ℕ → Refusal → Type 0
RefusesNext l expected at_end r =
    (next : Item) × NextIs l next
    × ((g : Grammar) (last : Option Lexeme) → expected_after g last false ≡ expected
    → expected_after g last true ≡ at_end
    → IfFault r (λ fault. fault_at_of g l.text false last next ≡ Some fault))

-- the next item is refused, after tokens that are accepted
abbrev pub RefusesMore : Ahead → Refusal → Type 0
RefusesMore l r =
    (next : Item) × NextIs l next
    × ((g : Grammar) (last : Option Lexeme) → IfFault r (λ fault. fault_at_of g l.text true last next ≡ Some fault))
