-- The last token of a list that is walked tells what is expected after it, and so does the state.
use Rattle.std.proofs.Common.{◌≡◌, refl, ℕ, Bool, true, false, List, [], ◌∷◌, Option}
use Rattle.std.proofs.Common.{Some, None, codes}
use Rattle.std.specs.Prelude.{if◌then◌else◌}
use Rattle.std.specs.List.{last_or}
use Rattle.std.proofs.lemmas.Option.{same_Some}
use Rattle.cargo_platform.specs.Tokens.{Lexeme, LeftParen, RightParen, Ident, Comma, Equals, String}
use Rattle.cargo_platform.specs.Trees.{Name}
use Rattle.cargo_platform.specs.Spelling.{Grammar, Values, Expressions, is_group_word, is_literal_word, GroupWord}
use Rattle.cargo_platform.specs.Spelling.{LiteralWord, PlainName}
use Rattle.cargo_platform.specs.Faults.{expected_after}
use Rattle.cargo_platform.specs.Walk.{Word, Several, Negation, State, Wanted, Member, Behind, Named, Keyed, Ended}
use Rattle.cargo_platform.specs.Walk.{after, after_role, after_name, after_expression, walk_from, walk}
use Rattle.cargo_platform.proofs.Walk.{none_some}

-- a last token, or none, that leads to a state like this one
abbrev pub like : State → Option Lexeme
like (Wanted []) = None
like (Wanted (w ∷ ws)) = Some LeftParen
like (Member ws) = Some LeftParen
like (Behind w ws) = Some (Ident false (codes "not"))
like (Named ws) = Some RightParen
like (Keyed ws) = Some Equals
like (Ended ws) = Some RightParen

-- after the last token the same is expected as in the state
abbrev pub Matches : Grammar → Option Lexeme → State → Type 0
Matches g o s =
    (at_end : Bool) → expected_after g o at_end ≡ expected_after g (like s) at_end

-- an expression is expected after a comma as it is after `(`
separates : (g : Grammar) → Matches g (Some Comma) (Member [])
separates g false = refl
separates Values true = refl
separates Expressions true = refl

picks : (group literal : Bool) (name : List ℕ) (ws : List Word) (at_end : Bool)
    → let s = after_role (if group then GroupWord else (if literal then LiteralWord else PlainName)) name ws in
    (if group then codes "`(`" else codes "`)`") ≡ expected_after Expressions (like s) at_end
picks true literal name ws at_end = refl
picks false true name ws at_end = refl
picks false false name ws at_end = refl

named_matches : (g : Grammar) (raw : Bool) (name : List ℕ) (ws : List Word)
    → Matches g (Some (Ident raw name)) (after_name g raw name ws)
named_matches Values raw name ws = λ at_end. refl
named_matches Expressions raw name ws =
    let n : Name = record { raw = raw; name = name } in
    λ at_end. picks (is_group_word n) (is_literal_word n) name ws at_end

moved : (g : Grammar) (o : Option Lexeme) (s t : State) → Some s ≡ Some t → Matches g o s → Matches g o t
moved g o s t h m = λ at_end. rw (← same_Some _ _ h) (m at_end)

ended_matches : (g : Grammar) (ws : List Word) (t : Lexeme) (st : State) → after_expression ws t ≡ Some st
    → Matches g (Some t) st
ended_matches g (w ∷ ws) RightParen st h = moved g (Some RightParen) (Ended ws) st h (λ _. refl)
ended_matches g (Several ∷ ws) Comma st h = moved g (Some Comma) (Member ws) st h (separates g)
ended_matches g ws t st h = none_some h

after_matches : (g : Grammar) (s : State) (t : Lexeme) (st : State) → after g s t ≡ Some st → Matches g (Some t) st
after_matches g (Wanted ws) (Ident raw name) st h =
    moved g (Some (Ident raw name)) (after_name g raw name ws) st h (named_matches g raw name ws)
after_matches g (Member ws) (Ident raw name) st h =
    moved g (Some (Ident raw name)) (after_name g raw name (Several ∷ ws)) st h
    (named_matches g raw name (Several ∷ ws))
after_matches g (Member ws) RightParen st h = moved g (Some RightParen) (Ended ws) st h (λ _. refl)
after_matches g (Behind Negation ws) LeftParen st h =
    moved g (Some LeftParen) (Wanted (Negation ∷ ws)) st h (λ _. refl)
after_matches g (Behind Several ws) LeftParen st h = moved g (Some LeftParen) (Member ws) st h (λ _. refl)
after_matches g (Named ws) Equals st h = moved g (Some Equals) (Keyed ws) st h (λ _. refl)
after_matches g (Keyed ws) (String value) st h = moved g (Some (String value)) (Ended ws) st h (λ _. refl)
after_matches g (Named ws) t st h = ended_matches g ws t st h
after_matches g (Ended ws) t st h = ended_matches g ws t st h
after_matches g s t st h = none_some h

from_matches : (g : Grammar) (ts : List Lexeme) (s : State) (o : Option Lexeme) (st : State) → Matches g o s
    → walk_from g (Some s) ts ≡ Some st → Matches g (last_or o ts) st
from_matches g [] s o st m h = moved g o s st h m
from_matches g (t ∷ ts) s o st m h =
    elim (after g s t) as (λ z. after g s t ≡ z → walk_from g z ts ≡ Some st → Matches g (last_or (Some t) ts) st) [
      | None ↦ λ _ stops. none_some stops
      | Some u ↦ λ is goes. from_matches g ts u (Some t) st (after_matches g s t u is) goes
    ] refl h

pub walk_matches : (g : Grammar) (ts : List Lexeme) (s : State) → walk g ts ≡ Some s → Matches g (last_or None ts) s
walk_matches g ts s h = from_matches g ts (Wanted []) None s (λ _. refl) h
