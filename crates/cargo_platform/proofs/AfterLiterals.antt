-- Where today's fault is, and what the Rust crate's grammar has there: the same fault, or `true` or `false` as a key.
use Rattle.std.proofs.Common.{◌≡◌, refl, sym, ap, ◌∙◌, ℕ, ◌≤◌, arith, Bool, true, false, true≢false, List, [], ◌∷◌}
use Rattle.std.proofs.Common.{◌++◌, Some, None, codes, inl, inr, ◌⊎◌, append_assoc, length, length-append, drop}
use Rattle.std.proofs.lemmas.Bool.{false_from_ne_true}
use Rattle.std.proofs.lemmas.Option.{same_Some}
use Rattle.std.specs.Prelude.{bytes_eq, if◌then◌else◌, IsTrue, IsFalse}
use Rattle.std.specs.List.{last_or}
use Rattle.cargo_platform.specs.Tokens.{Lexeme, LeftParen, RightParen, Ident, Comma, Equals, String, Placed, called}
use Rattle.cargo_platform.specs.Cut.{lexemes, Item, Token, is_token}
use Rattle.cargo_platform.specs.Trees.{Name, Alone, KeyPair, Tree, Not, All, Any, Value, True, False}
use Rattle.cargo_platform.specs.Spelling.{Expressions, is_group_word, is_literal_word, Role}
use Rattle.cargo_platform.specs.Spelling.{GroupWord, LiteralWord, PlainName, role}
use Rattle.cargo_platform.specs.Faults.{Fault, UnexpectedToken, UnterminatedExpression, IsCompletable, IsCompletableBy}
use Rattle.cargo_platform.specs.Faults.{fault_of, expected_after, IsRefused}
use Rattle.cargo_platform.specs.Walk.{role_in, Opening, Negated, Listed, list_tree, Position, Wanting, WithWord}
use Rattle.cargo_platform.specs.Walk.{WithKey, WithTree, start, at_role, at_key, after_tree}
use Rattle.cargo_platform.specs.Walk.{Word, walk, kind, kinds, ends, is_lone, state_of}
use Rattle.cargo_platform.specs.Earlier.{IsAcceptedReleased}
use Rattle.cargo_platform.specs.ChangeLaws.{WasThere, IsAtLiteralKey, WasThereOrIsAtKey, CameLaterAtKey}
use Rattle.cargo_platform.specs.ChangeLaws.{IsAtKeyWhereRead}
use Rattle.cargo_platform.proofs.OneCut.{one_cut_from}
use Rattle.cargo_platform.proofs.Paths.{next_before, behind_is}
use Rattle.cargo_platform.proofs.Building.{key_by, lead, lead_from, steps_on, whole_leads, led_state, walked_led}
use Rattle.cargo_platform.proofs.Building.{completable_walks}
use Rattle.cargo_platform.proofs.Positions.{led_spelled}
use Rattle.cargo_platform.proofs.Completing.{leads_within, walked_completes, ends_whole, whole_accepted, accepted_whole}
use Rattle.cargo_platform.proofs.Completing.{open_not_whole}
use Rattle.cargo_platform.proofs.Expecting.{like, walk_matches}
use Rattle.cargo_platform.proofs.Completable.{stopped_by_next}
use Rattle.cargo_platform.proofs.Prefixes.{lexemes-append, longer_or, none_longer}
use Rattle.cargo_platform.proofs.Refused.{refused_accepts_none}
use Rattle.cargo_platform.proofs.Changes.{accepted_as_released}
use Rattle.cargo_platform.proofs.ToToday.{nowhere, steps_kept, was_accepted, was_completable, still_accepted}

-- ---- where lists of tokens lead. The flag says that literals are keys.

on_from : (keys : Bool) (ts us : List Lexeme) (p : Position) → lead_from keys (Some start) ts ≡ Some p
    → lead_from keys (Some start) (ts ++ us) ≡ lead_from keys (Some p) us
on_from keys ts us p led =
    steps_on (role_in Expressions) (key_by keys) (Some start) ts us ∙ ap (λ o. lead_from keys o us) led

next_led : (keys : Bool) (ts : List Lexeme) (t : Lexeme) (p q : Position) → lead_from keys (Some start) ts ≡ Some p
    → lead keys p t ≡ Some q → lead_from keys (Some start) (ts ++ t ∷ []) ≡ Some q
next_led keys ts t p q led is = on_from keys ts (t ∷ []) p led ∙ ap (λ o. lead_from keys o []) is

next_stops : (keys : Bool) (ts us : List Lexeme) (t : Lexeme) (p : Position) → lead_from keys (Some start) ts ≡ Some p
    → lead keys p t ≡ None → lead_from keys (Some start) (ts ++ t ∷ us) ≡ None
next_stops keys ts us t p led stops = on_from keys ts (t ∷ us) p led ∙ ap (λ o. lead_from keys o us) stops

-- what leads on where literals are keys could be completed
led_completes : (ts : List Lexeme) (p : Position) → lead_from true (Some start) ts ≡ Some p
    → IsCompletableBy IsAcceptedReleased ts
led_completes ts p led =
    let (more, well, e, leads, few) = leads_within p in (
      more,
      well,
      (accepted_as_released (ts ++ more)).0 (
        e,
        led_spelled true e (ts ++ more) (on_from true ts more p led ∙ steps_kept p more (WithTree e []) leads),
      ),
    )

-- and what leads nowhere could not
stopped_then : (ts more : List Lexeme) → lead_from true (Some start) ts ≡ None → IsAcceptedReleased (ts ++ more) → ⊥
stopped_then ts more stops a =
    let t = (accepted_as_released (ts ++ more)).1 a in
    nowhere (WithTree t.0 [])
    (sym (steps_on (role_in Expressions) (key_by true) (Some start) ts more ∙ ap (λ o. lead_from true o more) stops)
    ∙ whole_leads true t.0 (ts ++ more) t.1)

-- ---- the last step

abbrev IsLiteral : Tree → Type 0
IsLiteral True = Unit {0}
IsLiteral False = Unit {0}
IsLiteral e = ⊥

-- the token was unmarked `true` or `false`, where an expression is wanted
abbrev IsFromLiteral : Position → Lexeme → List Opening → Type 0
IsFromLiteral p t gs = (n : Name) × IsTrue (is_literal_word n) × (t ≡ Ident n.raw n.name) × (p ≡ Wanting gs)

-- what is known of a step by where it leads: never back to the start, and to a literal by its word alone
abbrev Came : Position → Lexeme → Position → Type 0
Came p t (Wanting []) = ⊥
Came p t (WithTree True gs) = IsFromLiteral p t gs
Came p t (WithTree False gs) = IsFromLiteral p t gs
Came p t q = Unit {0}

from_literal : (p : Position) (t : Lexeme) (e : Tree) (gs : List Opening) → IsLiteral e → Came p t (WithTree e gs)
    → IsFromLiteral p t gs
from_literal p t True gs is c = c
from_literal p t False gs is c = c
from_literal p t e gs is c = absurd is

moved : (p : Position) (t : Lexeme) (q r : Position) → Some q ≡ Some r → Came p t q → Came p t r
moved p t q r h c = rw (← same_Some _ _ h) c

came_list : (p : Position) (t : Lexeme) (all : Bool) (es : List Tree) (gs : List Opening)
    → Came p t (WithTree (list_tree all es) gs)
came_list p t true es gs = tt
came_list p t false es gs = tt

literal_role : (g l : Bool) → (if g then GroupWord else (if l then LiteralWord else PlainName)) ≡ LiteralWord → l ≡ true
literal_role true l h = absurd cc
literal_role false true h = refl
literal_role false false h = absurd cc

came_name : (gs : List Opening) (n : Name) (r : Role) → role n ≡ r
    → Came (Wanting gs) (Ident n.raw n.name) (at_role r n gs)
came_name gs n GroupWord h = tt
came_name gs n PlainName h = tt
came_name gs n LiteralWord h =
    let is = literal_role (is_group_word n) (is_literal_word n) h in
    elim (bytes_eq n.name (codes "true")) as
    (λ b. Came (Wanting gs) (Ident n.raw n.name) (WithTree (if b then True else False) gs)) [
      | true ↦ (n, is, refl, refl)
      | false ↦ (n, is, refl, refl)
    ]

came_key : (p : Position) (e : Tree) (gs : List Opening) (q : Position) → at_key (key_by false e) gs ≡ Some q
    → Came p Equals q
came_key p (Value (Alone n)) gs q h = moved p Equals (WithKey n gs) q h tt
came_key p e gs q h = absurd (nowhere q h)

came_tree : (p : Position) (e : Tree) (gs : List Opening) (t : Lexeme) (q : Position) → after_tree e gs t ≡ Some q
    → Came p t q
came_tree p e (Negated ∷ gs) RightParen q h = moved p RightParen (WithTree (Not e) gs) q h tt
came_tree p e (Listed all es ∷ gs) RightParen q h =
    moved p RightParen (WithTree (list_tree all (es ++ e ∷ [])) gs) q h (came_list p RightParen all (es ++ e ∷ []) gs)
came_tree p e (Listed all es ∷ gs) Comma q h = moved p Comma (Wanting (Listed all (es ++ e ∷ []) ∷ gs)) q h tt
came_tree p e gs t q h = absurd (nowhere q h)

came : (p : Position) (t : Lexeme) (q : Position) → lead false p t ≡ Some q → Came p t q
came (Wanting gs) (Ident raw name) q h =
    let n : Name = record { raw = raw; name = name } in
    moved (Wanting gs) (Ident raw name) (at_role (role n) n gs) q h (came_name gs n (role n) refl)
came (Wanting (Listed all es ∷ gs)) RightParen q h =
    moved (Wanting (Listed all es ∷ gs)) RightParen (WithTree (list_tree all es) gs) q h
    (came_list (Wanting (Listed all es ∷ gs)) RightParen all es gs)
came (WithWord o gs) LeftParen q h = moved (WithWord o gs) LeftParen (Wanting (o ∷ gs)) q h tt
came (WithKey n gs) (String v) q h = moved (WithKey n gs) (String v) (WithTree (Value (KeyPair n v)) gs) q h tt
came (WithTree e gs) Equals q h = came_key (WithTree e gs) e gs q h
came (WithTree e gs) t q h = came_tree (WithTree e gs) e gs t q h
came p t q h = absurd (nowhere q h)

-- tokens that lead from one position to another have a last one
record LastStep (p : Position) (ts : List Lexeme) (q : Position) : Type 0 where
  before : List Lexeme
  t : Lexeme
  at : Position
  is : ts ≡ before ++ t ∷ []
  led : lead_from false (Some p) before ≡ Some at
  steps : lead false at t ≡ Some q

last_step : (p : Position) (ts : List Lexeme) (q : Position) → lead_from false (Some p) ts ≡ Some q
    → ((ts ≡ []) × (p ≡ q)) ⊎ LastStep p ts q
last_step p [] q h = inl (refl, same_Some _ _ h)
last_step p (t ∷ ts) q h =
    elim (lead false p t) as
    (λ o. lead false p t ≡ o → lead_from false o ts ≡ Some q → ((t ∷ ts ≡ []) × (p ≡ q)) ⊎ LastStep p (t ∷ ts) q) [
      | None ↦ λ _ stops. absurd (nowhere q stops)
      | Some r ↦ λ is goes.
          elim (last_step r ts q goes) [
            | inl none ↦ inr (record {
              before = [];
              t = t;
              at = p;
              is = ap (λ (z : List Lexeme). t ∷ z) none.0;
              led = refl;
              steps = is ∙ ap Some none.1;
            })
            | inr last ↦ inr (record {
              before = t ∷ last.before;
              t = last.t;
              at = last.at;
              is = ap (λ (z : List Lexeme). t ∷ z) last.is;
              led = ap (λ o. lead_from false o last.before) is ∙ last.led;
              steps = last.steps;
            })
          ]
    ] refl h

-- nothing leads to where nothing is open and an expression is wanted, but no tokens
none_read : (ts : List Lexeme) → lead_from false (Some start) ts ≡ Some (Wanting []) → ts ≡ []
none_read ts h =
    elim (last_step start ts (Wanting []) h) [
      | inl none ↦ none.0
      | inr last ↦ absurd (came last.at last.t (Wanting []) last.steps)
    ]

-- what leads to a literal ends with its word
record EndsWithLiteral (ts : List Lexeme) (gs : List Opening) : Type 0 where
  before : List Lexeme
  n : Name
  literal : IsTrue (is_literal_word n)
  is : ts ≡ before ++ Ident n.raw n.name ∷ []
  led : lead_from false (Some start) before ≡ Some (Wanting gs)

ends_with_literal : (ts : List Lexeme) (e : Tree) (gs : List Opening) → IsLiteral e
    → lead_from false (Some start) ts ≡ Some (WithTree e gs) → EndsWithLiteral ts gs
ends_with_literal ts e gs literal h =
    elim (last_step start ts (WithTree e gs) h) [
      | inl none ↦ absurd (let same = none.1 in cc)
      | inr last ↦
          let f = from_literal last.at last.t e gs literal (came last.at last.t (WithTree e gs) last.steps) in
          record {
            before = last.before;
            n = f.0;
            literal = f.1;
            is = last.is ∙ ap (λ z. last.before ++ z ∷ []) f.2;
            led = last.led ∙ ap Some f.3;
          }
    ]

-- ---- the step that is taken only where literals are keys

abbrev IsKeyStep : Position → Lexeme → Type 0
IsKeyStep p t = (e : Tree) × (gs : List Opening) × IsLiteral e × (p ≡ WithTree e gs) × (t ≡ Equals)

key_differs : (e : Tree) (gs : List Opening) (q : Position) → at_key (key_by false e) gs ≡ None
    → at_key (key_by true e) gs ≡ Some q → IsLiteral e
key_differs (Value (Alone n)) gs q stops h = absurd (nowhere q (sym stops ∙ h))
key_differs (Value (KeyPair k v)) gs q stops h = absurd (nowhere q h)
key_differs (Not e) gs q stops h = absurd (nowhere q h)
key_differs (All es) gs q stops h = absurd (nowhere q h)
key_differs (Any es) gs q stops h = absurd (nowhere q h)
key_differs True gs q stops h = tt
key_differs False gs q stops h = tt

differs : (p : Position) (t : Lexeme) (q : Position) → lead false p t ≡ None → lead true p t ≡ Some q → IsKeyStep p t
differs (Wanting gs) (Ident raw name) q stops h = absurd (nowhere q (sym stops ∙ h))
differs (Wanting (Listed all es ∷ gs)) RightParen q stops h = absurd (nowhere q (sym stops ∙ h))
differs (Wanting (Listed all es ∷ gs)) t q stops h = absurd (nowhere q (sym stops ∙ h))
differs (Wanting (Negated ∷ gs)) t q stops h = absurd (nowhere q (sym stops ∙ h))
differs (Wanting []) t q stops h = absurd (nowhere q (sym stops ∙ h))
differs (WithWord o gs) LeftParen q stops h = absurd (nowhere q (sym stops ∙ h))
differs (WithWord o gs) t q stops h = absurd (nowhere q (sym stops ∙ h))
differs (WithKey n gs) (String v) q stops h = absurd (nowhere q (sym stops ∙ h))
differs (WithKey n gs) t q stops h = absurd (nowhere q (sym stops ∙ h))
differs (WithTree e gs) Equals q stops h = (e, gs, key_differs e gs q stops h, refl, refl)
differs (WithTree e gs) t q stops h = absurd (nowhere q (sym stops ∙ h))

-- ---- the fault

-- no longer list of the text's tokens could be completed
abbrev NoLonger : {text : List ℕ} {fault : Fault} → IsRefused Expressions text fault → Type 0
NoLonger q =
    (longer others : List Placed) → q.ts ≡ longer ++ others → IsCompletableBy IsAcceptedReleased (lexemes longer)
    → length longer ≤ length q.prefix

was_there : (text : List ℕ) (fault : Fault) (q : IsRefused Expressions text fault) → NoLonger q → WasThere q
was_there text fault q longest =
    let now = q.is_prefix.completable in (
      record {
        ts = q.ts;
        tail = q.tail;
        cut = q.cut;
        prefix = q.prefix;
        after = q.after;
        is_prefix = record {
          parts = q.is_prefix.parts;
          completable = was_completable (lexemes q.prefix) now;
          longest = longest;
        };
        next = q.next;
        place = q.place;
        follows = q.follows;
        accepted = q.accepted;
        is_accepted = (
          λ a. was_accepted (lexemes q.prefix) (q.is_accepted.0 a),
          λ a. q.is_accepted.1 (still_accepted (lexemes q.prefix) a now),
        );
        is_fault = q.is_fault;
      },
      refl,
      refl,
    )

-- what comes after the prefix is what the cut has there
next_is : (text : List ℕ) (fault : Fault) (q : IsRefused Expressions text fault)
    → q.next ≡ next_before q.cut.last q.after
next_is text fault q =
    behind_is text 0 q.place q.tail q.prefix q.after q.cut.last q.next (rw (← q.is_prefix.parts) q.cut.comes) q.follows

-- after a whole expression nothing is expected
after_whole : (text : List ℕ) (fault : Fault) (q : IsRefused Expressions text fault) (e : Tree) (t : Placed)
    → lead_from false (Some start) (lexemes q.prefix) ≡ Some (WithTree e []) → q.next ≡ Token t
    → fault ≡ UnterminatedExpression (drop t.start text)
after_whole text fault q e t led next =
    let ts = lexemes q.prefix in
    let walked = led_state Expressions ts (WithTree e []) led in
    let yes : q.accepted ≡ true =
    q.is_accepted.1 (whole_accepted Expressions (state_of (WithTree e [])) ts (ends_whole (is_lone e)) walked) in
    same_Some _ _ (sym q.is_fault ∙ λ i. fault_of Expressions text (yes i) (last_or None ts) (next i))

like_end : (n : Bool) (ws : List Word) → like (ends n ws) ≡ Some RightParen
like_end true ws = refl
like_end false ws = refl

-- after an expression in a group `)` is
after_member : (text : List ℕ) (fault : Fault) (q : IsRefused Expressions text fault) (e : Tree) (g : Opening)
    (gs : List Opening) (t : Placed) → lead_from false (Some start) (lexemes q.prefix) ≡ Some (WithTree e (g ∷ gs))
    → q.next ≡ Token t → fault ≡ UnexpectedToken (codes "`)`") (called t.token)
after_member text fault q e g gs t led next =
    let ts = lexemes q.prefix in
    let s = state_of (WithTree e (g ∷ gs)) in
    let walked : walk Expressions ts ≡ Some s = led_state Expressions ts (WithTree e (g ∷ gs)) led in
    let no : q.accepted ≡ false =
    false_from_ne_true q.accepted (λ a. true≢false
    (sym (accepted_whole Expressions s ts walked (q.is_accepted.0 a))
    ∙ open_not_whole (is_lone e) (kind g) (kinds gs))) in
    let expected : expected_after Expressions (last_or None ts) false ≡ codes "`)`" =
    walk_matches Expressions ts s walked false
    ∙ ap (λ last. expected_after Expressions last false) (like_end (is_lone e) (kinds (g ∷ gs))) in
    same_Some _ _
    (sym q.is_fault ∙ (λ i. fault_of Expressions text (no i) (last_or None ts) (next i))
    ∙ ap (λ (z : List ℕ). Some (UnexpectedToken z (called t.token))) expected)

-- the fault at `=`, by whether tokens are before the literal
literal_fault : (text : List ℕ) (fault : Fault) (q : IsRefused Expressions text fault) (e : Tree) (gs : List Opening)
    (t : Placed) (before : List Lexeme) → lead_from false (Some start) (lexemes q.prefix) ≡ Some (WithTree e gs)
    → q.next ≡ Token t → t.token ≡ Equals → lead_from false (Some start) before ≡ Some (Wanting gs)
    → (before ≡ [] → fault ≡ UnterminatedExpression (drop t.start text))
    × ((before ≡ [] → ⊥) → fault ≡ UnexpectedToken (codes "`)`") (codes "`=`"))
literal_fault text fault q e [] t before led next is first =
    (λ _. after_whole text fault q e t led next, λ some. absurd (some (none_read before first)))
literal_fault text fault q e (g ∷ gs) t before led next is first = (
  λ none.
      let same : Some start ≡ Some (Wanting (g ∷ gs)) = ap (lead_from false (Some start)) (sym none) ∙ first in
      absurd cc,
  λ _. after_member text fault q e g gs t led next ∙ ap (λ z. UnexpectedToken (codes "`)`") (called z)) is,
)

at_equals : (text : List ℕ) (fault : Fault) (q : IsRefused Expressions text fault) (p r : Position) (t : Placed)
    (others : List Placed) → q.after ≡ t ∷ others → lead_from false (Some start) (lexemes q.prefix) ≡ Some p
    → lead true p t.token ≡ Some r → IsKeyStep p t.token → IsAtLiteralKey text fault q
at_equals text fault q p r t others h led goes (e, gs, literal, at, is) =
    let ts = lexemes q.prefix in
    let here : lead_from false (Some start) ts ≡ Some (WithTree e gs) = led ∙ ap Some at in
    let last = ends_with_literal ts e gs literal here in
    let next : q.next ≡ Token t = next_is text fault q ∙ ap (next_before q.cut.last) h in
    let went = led_completes (ts ++ t.token ∷ []) r (next_led true ts t.token p r (steps_kept start ts p led) goes) in
    let f = literal_fault text fault q e gs t last.before here next is last.led in
    record {
      before = last.before;
      key = last.n;
      equals = t;
      literal = last.literal;
      prefix = last.is;
      next = next;
      is_equals = is;
      went_on = rw (← is) went;
      at_start = f.0;
      in_group = f.1;
    }

-- where the next token leads nowhere even where literals are keys, no longer list could be completed
no_longer : (prefix rest longer others : List Placed) (t : Placed) (p : Position)
    → lead_from true (Some start) (lexemes prefix) ≡ Some p → lead true p t.token ≡ None
    → prefix ++ (t ∷ rest) ≡ longer ++ others → IsCompletableBy IsAcceptedReleased (lexemes longer)
    → length longer ≤ length prefix
no_longer prefix rest longer others t p led stops h c =
    elim (longer_or prefix others longer rest t h) [
      | inl le ↦ le
      | inr m ↦
          let is : lexemes longer ≡ lexemes prefix ++ t.token ∷ lexemes m.0 =
          ap lexemes m.1 ∙ lexemes-append prefix (t ∷ m.0) in
          absurd (stopped_then (lexemes longer) c.0
          (ap (lead_from true (Some start)) is
          ∙ next_stops true (lexemes prefix) (lexemes m.0) t.token p led stops) c.2)
    ]

-- today's grammar does not take the token after the fault prefix
stuck : (text : List ℕ) (fault : Fault) (q : IsRefused Expressions text fault) (p : Position) (t : Placed)
    (others : List Placed) → q.after ≡ t ∷ others → lead_from false (Some start) (lexemes q.prefix) ≡ Some p
    → lead false p t.token ≡ None
stuck text fault q p t others h led =
    elim (lead false p t.token) as (λ o. lead false p t.token ≡ o → lead false p t.token ≡ None) [
      | None ↦ λ is. is
      | Some r ↦ λ is.
          let on = lexemes q.prefix ++ t.token ∷ [] in
          let goes : IsCompletable Expressions on = walked_completes Expressions on (state_of r)
          (led_state Expressions on r (next_led false (lexemes q.prefix) t.token p r led is)) in
          absurd (stopped_by_next Expressions q.ts q.prefix q.after others t q.is_prefix h
          (rw (lexemes-append q.prefix (t ∷ [])) goes))
    ] refl

at_token : (text : List ℕ) (fault : Fault) (q : IsRefused Expressions text fault) (p : Position) (t : Placed)
    (others : List Placed) → q.after ≡ t ∷ others → lead_from false (Some start) (lexemes q.prefix) ≡ Some p
    → WasThere q ⊎ IsAtLiteralKey text fault q
at_token text fault q p t others h led =
    elim (lead true p t.token) as (λ o. lead true p t.token ≡ o → WasThere q ⊎ IsAtLiteralKey text fault q) [
      | None ↦ λ stops.
          let parts : q.ts ≡ q.prefix ++ (t ∷ others) = q.is_prefix.parts ∙ ap (λ (z : List Placed). q.prefix ++ z) h in
          inl (was_there text fault q (λ longer rest is c. no_longer q.prefix others longer rest t p
          (steps_kept start (lexemes q.prefix) p led) stops (sym parts ∙ is) c))
      | Some r ↦ λ goes.
          inr (at_equals text fault q p r t others h led goes
          (differs p t.token r (stuck text fault q p t others h led) goes))
    ] refl

pub there_or_key : (text : List ℕ) (fault : Fault) → WasThereOrIsAtKey text fault
there_or_key text fault q =
    let s = completable_walks Expressions (lexemes q.prefix) q.is_prefix.completable in
    let (p, is, led) = walked_led (lexemes q.prefix) s.0 s.1 in
    elim (q.after) as (λ z. q.after ≡ z → WasThere q ⊎ IsAtLiteralKey text fault q) [
      | [] ↦ λ h.
          let parts : q.ts ≡ q.prefix ++ [] = q.is_prefix.parts ∙ ap (λ (z : List Placed). q.prefix ++ z) h in
          inl (was_there text fault q (λ longer others is c. none_longer q.prefix longer others (sym parts ∙ is)))
      | t ∷ others ↦ λ h. at_token text fault q p t others h led
    ] refl

token_is : {a b : Placed} → Token a ≡ Token b → b ≡ a
token_is h = cc

-- a token that comes after a prefix is the first after it
token_after : (last : Item) (after : List Placed) (t : Placed) → IsFalse (is_token last)
    → Token t ≡ next_before last after → (others : List Placed) × (after ≡ t ∷ others)
token_after last [] t none h = absurd (true≢false (ap is_token h ∙ none))
token_after last (u ∷ us) t none h = (us, λ i. token_is h i ∷ us)

pub later_at_key : (text : List ℕ) (before now : Fault) → CameLaterAtKey text before now
later_at_key text before now r q k =
    let same : q.ts ≡ r.ts = (one_cut_from text q.ts r.ts 0 q.tail r.tail q.cut r.cut).0 in
    let first = token_after q.cut.last q.after k.equals q.cut.no_token (sym k.next ∙ next_is text now q) in
    let longer = q.prefix ++ k.equals ∷ [] in
    let parts : r.ts ≡ longer ++ first.0 = sym same ∙ q.is_prefix.parts
    ∙ ap (λ (z : List Placed). q.prefix ++ z) first.1 ∙ sym (append_assoc q.prefix (k.equals ∷ []) first.0) in
    let went : IsCompletableBy IsAcceptedReleased (lexemes longer) =
    rw (lexemes-append q.prefix (k.equals ∷ [])) (rw k.is_equals k.went_on) in
    omega (arith, r.is_prefix.longest longer first.0 parts went, length-append q.prefix (k.equals ∷ []))

pub read_at_key : (text : List ℕ) (now : Fault) → IsAtKeyWhereRead text now
read_at_key text now d q p =
    elim (there_or_key text now q) [
      | inl was ↦ absurd (refused_accepts_none IsAcceptedReleased Expressions text now p.0 was.0 p.1 (d, p.2))
      | inr k ↦ k
    ]
