-- Lists of tokens that can be completed: their prefixes, how many tokens complete them, and what can follow them.
use Rattle.std.proofs.Common.{◌≡◌, refl, sym, ap, ◌∙◌, ℕ, ◌+◌, ◌≤◌, suc, arith, Bool, true, false}
use Rattle.std.proofs.Common.{true≢false, List, [], ◌∷◌, ◌++◌, Option, Some, None, codes, inl, inr, ◌⊎◌}
use Rattle.std.proofs.Common.{append_assoc, length, length-append, cond}
use Rattle.std.proofs.lemmas.Bool.{false_from_ne_true}
use Rattle.std.specs.Prelude.{◌↔◌}
use Rattle.std.specs.List.{AllByRecursion, count_by, last_or}
use Rattle.std.proofs.lemmas.List.Sums.{sum_by-cons}
use Rattle.std.proofs.lemmas.Option.{same_Some}
use Rattle.cargo_platform.specs.declared.tokens.TokenFaultKind.TheVariants as lexical
use Rattle.cargo_platform.specs.Tokens.{Lexeme, LeftParen, RightParen, Ident, Comma, Equals, String, Placed}
use Rattle.cargo_platform.specs.Tokens.{IsWellWritten}
use Rattle.cargo_platform.specs.Cut.{lexemes}
use Rattle.cargo_platform.specs.Cut.{Item, Token, Lexical, Nothing}
use Rattle.cargo_platform.specs.Trees.{Alone, KeyPair}
use Rattle.cargo_platform.specs.Spelling.{Grammar, Values, Expressions, IsAccepted, Role, GroupWord, LiteralWord}
use Rattle.cargo_platform.specs.Spelling.{PlainName, role}
use Rattle.cargo_platform.specs.Faults.{IsCompletable, IsFaultPrefix, Fault, UnexpectedToken}
use Rattle.cargo_platform.specs.Faults.{IncompleteExpr, expected_after, fault_of}
use Rattle.cargo_platform.specs.Faults.{IsRefused}
use Rattle.cargo_platform.specs.Walk.{Word, Several, Negation, State, Wanted, Member, Behind, Named, Keyed, Ended}
use Rattle.cargo_platform.specs.Walk.{after_role, after_name, after_expression, after, walk_from, walk, is_whole}
use Rattle.cargo_platform.specs.FaultLaws.{is_left_paren, IsCompletedShortly, IsOfClass, CanFollow, Names}
use Rattle.cargo_platform.proofs.Walk.{none_some, walk_next}
use Rattle.cargo_platform.proofs.Building.{completable_walks}
use Rattle.cargo_platform.proofs.Completing.{needed, walked_completes_within, walked_completes, whole_accepted}
use Rattle.cargo_platform.proofs.Expecting.{like, walk_matches}

abbrev AreWellWritten : List Lexeme → Type 0
AreWellWritten ts = AllByRecursion IsWellWritten ts

-- ---- prefixes

well_behind : (prefix after more : List Lexeme) → AreWellWritten (prefix ++ after) → AreWellWritten more
    → AreWellWritten (after ++ more)
well_behind [] [] more a b = b
well_behind [] (t ∷ after) more a b = (a.0, well_behind [] after more a.1 b)
well_behind (t ∷ prefix) after more a b = well_behind prefix after more a.1 b

-- a prefix of a completable list is completable
pub prefix_completable : (g : Grammar) (prefix after : List Lexeme) → AreWellWritten (prefix ++ after)
    → IsCompletable g (prefix ++ after) → IsCompletable g prefix
prefix_completable g prefix after well p =
    (after ++ p.0, well_behind prefix after p.0 well p.1, rw (← append_assoc prefix after p.0) p.2)

-- the empty list is completable
pub none_completable : (g : Grammar) → IsCompletable g []
none_completable g = walked_completes g [] (Wanted []) refl

-- ---- how many tokens complete a list

-- how many groups are open
depth : State → ℕ
depth (Wanted ws) = length ws
depth (Member ws) = suc (length ws)
depth (Behind w ws) = length ws
depth (Named ws) = length ws
depth (Keyed ws) = length ws
depth (Ended ws) = length ws

opened : Lexeme → ℕ
opened t = cond (is_left_paren t) 1 0

needed_depth : (s : State) → needed s ≤ depth s + 3
unfolding depth
needed_depth (Wanted ws) = omega arith
needed_depth (Member ws) = omega arith
needed_depth (Behind Negation ws) = omega arith
needed_depth (Behind Several ws) = omega arith
needed_depth (Named ws) = omega arith
needed_depth (Keyed ws) = omega arith
needed_depth (Ended ws) = omega arith

role_depth : (r : Role) (name : List ℕ) (ws : List Word) → depth (after_role r name ws) ≡ length ws
unfolding depth
role_depth GroupWord name ws = refl
role_depth LiteralWord name ws = refl
role_depth PlainName name ws = refl

name_depth : (raw : Bool) (name : List ℕ) (ws : List Word) → depth (after_name Expressions raw name ws) ≡ length ws
name_depth raw name ws = role_depth (role (record { raw = raw; name = name })) name ws

-- a token opens at most what it is counted for
abbrev Opens : State → Lexeme → State → Type 0
Opens s t st = depth st ≤ depth s + opened t

moved : (s u : State) (t : Lexeme) (st : State) → Some u ≡ Some st → Opens s t u → Opens s t st
moved s u t st h o = rw (← same_Some _ _ h) o

ended_opens : (s : State) (ws : List Word) (t : Lexeme) (st : State) → depth s ≡ length ws
    → after_expression ws t ≡ Some st → Opens s t st
unfolding depth opened
ended_opens s (w ∷ ws) RightParen st d h = moved s (Ended ws) RightParen st h (omega arith)
ended_opens s (Several ∷ ws) Comma st d h = moved s (Member ws) Comma st h (omega arith)
ended_opens s ws t st d h = none_some h

after_opens : (s : State) (t : Lexeme) (st : State) → after Expressions s t ≡ Some st → Opens s t st
unfolding depth opened
after_opens (Wanted ws) (Ident raw name) st h =
    moved (Wanted ws) (after_name Expressions raw name ws) (Ident raw name) st h (omega (arith, name_depth raw name ws))
after_opens (Member ws) (Ident raw name) st h =
    moved (Member ws) (after_name Expressions raw name (Several ∷ ws)) (Ident raw name) st h
    (omega (arith, name_depth raw name (Several ∷ ws)))
after_opens (Member ws) RightParen st h = moved (Member ws) (Ended ws) RightParen st h (omega arith)
after_opens (Behind Negation ws) LeftParen st h =
    moved (Behind Negation ws) (Wanted (Negation ∷ ws)) LeftParen st h (omega arith)
after_opens (Behind Several ws) LeftParen st h = moved (Behind Several ws) (Member ws) LeftParen st h (omega arith)
after_opens (Named ws) Equals st h = moved (Named ws) (Keyed ws) Equals st h (omega arith)
after_opens (Keyed ws) (String value) st h = moved (Keyed ws) (Ended ws) (String value) st h (omega arith)
after_opens (Named ws) t st h = ended_opens (Named ws) ws t st refl h
after_opens (Ended ws) t st h = ended_opens (Ended ws) ws t st refl h
after_opens s t st h = none_some h

counted : (t : Lexeme) (ts : List Lexeme) → count_by is_left_paren (t ∷ ts) ≡ opened t + count_by is_left_paren ts
unfolding opened
counted t ts = sum_by-cons (λ x. cond (is_left_paren x) 1 0) t ts

walk_opens : (ts : List Lexeme) (s st : State) → walk_from Expressions (Some s) ts ≡ Some st
    → depth st ≤ depth s + count_by is_left_paren ts
walk_opens [] s st h = omega (arith, ap depth (same_Some _ _ h))
walk_opens (t ∷ ts) s st h =
    elim (after Expressions s t) as
    (λ z. after Expressions s t ≡ z → walk_from Expressions z ts ≡ Some st
    → depth st ≤ depth s + count_by is_left_paren (t ∷ ts)) [
      | None ↦ λ _ stops. none_some stops
      | Some u ↦ λ is goes.
          let first = after_opens s t u is in
          let others = walk_opens ts u st goes in
          let count : count_by is_left_paren (t ∷ ts) ≡ opened t + count_by is_left_paren ts = counted t ts in
          omega (arith, first, others, count)
    ] refl h

-- at most three tokens more than the list has `(` complete it
pub completed_shortly : (ts : List Lexeme) → IsCompletedShortly ts
unfolding depth
completed_shortly ts p =
    let s = completable_walks Expressions ts p in
    let c = walked_completes_within ts s.0 s.1 in
    let opens = walk_opens ts (Wanted []) s.0 s.1 in
    (c.0, c.1, c.2, omega (arith, needed_depth s.0, opens, c.3))

-- ---- what can follow a list

-- which tokens keep a list completable
pub kept_by_walk : (g : Grammar) (ts : List Lexeme) (t : Lexeme) (s : State) → walk g ts ≡ Some s
    → IsCompletable g (ts ++ t ∷ []) ↔ ((next : State) × (after g s t ≡ Some next))
kept_by_walk g ts t s h = (
  λ p. let w = completable_walks g (ts ++ t ∷ []) p in (w.0, sym (walk_next g ts t s h) ∙ w.1),
  λ n. walked_completes g (ts ++ t ∷ []) n.0 (walk_next g ts t s h ∙ n.1),
)

-- a token that leads on can follow
leads_on : (g : Grammar) (ts : List Lexeme) (s next : State) (t : Lexeme) (class : List ℕ) → walk g ts ≡ Some s
    → IsOfClass class t → IsWellWritten t → after g s t ≡ Some next → CanFollow g ts class
leads_on g ts s next t class h is well on = (t, is, well, (kept_by_walk g ts t s h).1 (next, on))

abbrev an_a : Lexeme
an_a = Ident false (codes "a")

-- what is expected after the last token can follow, at a token and at the end
abbrev Follow : Grammar → List Lexeme → Option Lexeme → Type 0
Follow g ts last = (at_end : Bool) → CanFollow g ts (expected_after g last at_end)

-- where an expression is to begin, a name is expected
begins_so : (at_end : Bool) → IsOfClass (expected_after Expressions None at_end) an_a
begins_so true = inr refl
begins_so false = inl refl

begins_in_group : (at_end : Bool) → IsOfClass (expected_after Expressions (Some LeftParen) at_end) an_a
begins_in_group true = inr refl
begins_in_group false = inl refl

begins_value : (at_end : Bool) → IsOfClass (expected_after Values None at_end) an_a
begins_value true = inl refl
begins_value false = inl refl

state_followed : (ts : List Lexeme) (s : State) → walk Expressions ts ≡ Some s → is_whole s ≡ false
    → Follow Expressions ts (like s)
state_followed ts (Wanted []) h w =
    λ b. leads_on Expressions ts (Wanted []) (Named []) an_a _ h (begins_so b) (refl, refl) refl
state_followed ts (Wanted (v ∷ ws)) h w =
    λ b. leads_on Expressions ts (Wanted (v ∷ ws)) (Named (v ∷ ws)) an_a _ h (begins_in_group b) (refl, refl) refl
state_followed ts (Member ws) h w =
    λ b. leads_on Expressions ts (Member ws) (Named (Several ∷ ws)) an_a _ h (begins_in_group b) (refl, refl) refl
state_followed ts (Behind Negation ws) h w =
    λ b. leads_on Expressions ts (Behind Negation ws) (Wanted (Negation ∷ ws)) LeftParen (codes "`(`") h refl tt refl
state_followed ts (Behind Several ws) h w =
    λ b. leads_on Expressions ts (Behind Several ws) (Member ws) LeftParen (codes "`(`") h refl tt refl
state_followed ts (Named (v ∷ ws)) h w =
    λ b. leads_on Expressions ts (Named (v ∷ ws)) (Ended ws) RightParen (codes "`)`") h refl tt refl
state_followed ts (Keyed ws) h w =
    λ b. leads_on Expressions ts (Keyed ws) (Ended ws) (String []) (codes "a string") h refl
    (([], (refl, refl)), refl) refl
state_followed ts (Ended (v ∷ ws)) h w =
    λ b. leads_on Expressions ts (Ended (v ∷ ws)) (Ended ws) RightParen (codes "`)`") h refl tt refl
state_followed ts (Named []) h w = absurd (true≢false w)
state_followed ts (Ended []) h w = absurd (true≢false w)

followed : (g : Grammar) (ts : List Lexeme) (s : State) → walk g ts ≡ Some s → (IsAccepted g ts → ⊥)
    → Follow g ts (last_or None ts)
followed Expressions ts s h refused = λ b.
    let unfinished : is_whole s ≡ false =
    false_from_ne_true (is_whole s) (λ w. refused (whole_accepted Expressions s ts w h)) in
    rw (walk_matches Expressions ts s h b) (state_followed ts s h unfinished b)
followed Values [] s h refused =
    λ b. leads_on Values [] (Wanted []) (Named []) an_a _ refl (begins_value b) (refl, refl) refl
followed Values (Ident raw name ∷ []) s h refused =
    absurd (refused (Alone (record { raw = raw; name = name }), refl))
followed Values (Ident raw name ∷ Equals ∷ []) s h refused =
    λ b. leads_on Values (Ident raw name ∷ Equals ∷ []) (Keyed []) (Ended []) (String []) (codes "a string") refl
    refl (([], (refl, refl)), refl) refl
followed Values (Ident raw name ∷ Equals ∷ String value ∷ []) s h refused =
    absurd (refused (KeyPair (record { raw = raw; name = name }) value, refl))
followed Values ts s h refused = none_some h

-- what is expected after a list that is completable and not accepted can follow it
pub expected_follows : (g : Grammar) (ts : List Lexeme) → IsCompletable g ts → (IsAccepted g ts → ⊥)
    → CanFollow g ts (expected_after g (last_or None ts) false)
    × CanFollow g ts (expected_after g (last_or None ts) true)
expected_follows g ts p refused =
    let s = completable_walks g ts p in
    let f = followed g ts s.0 s.1 refused in
    (f false, f true)

-- ---- the fault prefix

-- the fault prefix with the next token is not completable
pub stopped_by_next : (g : Grammar) (ts prefix after others : List Placed) (next : Placed)
    → IsFaultPrefix g ts prefix after → after ≡ next ∷ others → IsCompletable g (lexemes (prefix ++ next ∷ [])) → ⊥
stopped_by_next g ts prefix after others next f h p =
    let parts : ts ≡ (prefix ++ next ∷ []) ++ others = f.parts ∙ ap (λ (z : List Placed). prefix ++ z) h
    ∙ sym (append_assoc prefix (next ∷ []) others) in
    omega (arith, f.longest (prefix ++ next ∷ []) others parts p, length-append prefix (next ∷ []))

-- the class that a fault names is what is expected
named : (g : Grammar) (text : List ℕ) (accepted : Bool) (last : Option Lexeme) (next : Item) (fault : Fault)
    (class : List ℕ) → fault_of g text accepted last next ≡ Some fault
    → ((found : List ℕ) × (fault ≡ UnexpectedToken class found)) ⊎ ((fault ≡ IncompleteExpr class) × (next ≡ Nothing))
    → (accepted ≡ false) × ((expected_after g last false ≡ class) ⊎ (expected_after g last true ≡ class))
named g text true last (Token t) fault class h (inl n) = absurd (let e = n.1 in cc)
named g text true last (Token t) fault class h (inr n) = absurd (let e = n.1 in cc)
named g text true last (Lexical k at) fault class h (inl n) = absurd (let e = n.1 in cc)
named g text true last (Lexical k at) fault class h (inr n) = absurd (let e = n.1 in cc)
named g text true last Nothing fault class h n = absurd cc
named g text false last (Token t) fault class h (inl n) = (refl, inl (let e = n.1 in cc))
named g text false last (Token t) fault class h (inr n) = absurd (let e = n.1 in cc)
named g text false last (Lexical lexical.UnterminatedString at) fault class h (inl n) = absurd (let e = n.1 in cc)
named g text false last (Lexical (lexical.UnexpectedChar c) at) fault class h (inl n) = absurd (let e = n.1 in cc)
named g text false last (Lexical lexical.MissingIdentifier at) fault class h (inl n) = absurd (let e = n.1 in cc)
named g text false last (Lexical k at) fault class h (inr n) = absurd (let e = n.1 in cc)
named g text false last Nothing fault class h (inl n) = absurd (let e = n.1 in cc)
named g text false last Nothing fault class h (inr n) = (refl, inr (let e = n.0 in cc))

-- what the fault of a refused text names as expected can follow its fault prefix
pub named_follows : (g : Grammar) (text : List ℕ) (fault : Fault) (r : IsRefused g text fault) (class : List ℕ)
    → Names r class → CanFollow g (lexemes r.prefix) class
named_follows g text fault r class n =
    let is = named g text r.accepted (last_or None (lexemes r.prefix)) r.next fault class r.is_fault n in
    let f = expected_follows g (lexemes r.prefix) r.is_prefix.completable
    (λ p. true≢false (sym (r.is_accepted.1 p) ∙ is.0)) in
    elim is.1 [ inl e ↦ rw (← e) f.0 | inr e ↦ rw (← e) f.1 ]
