-- A reader of names, pairs and expressions, step by step.
use Rattle.std.proofs.Common.{◌≡◌, refl, sym, ap, subst, ◌∙◌, ℕ, ◌≤◌, ◌<◌, Bool, true, false, List, []}
use Rattle.std.proofs.Common.{◌∷◌, ◌++◌, Option, Some, None, codes, length}
use Rattle.std.proofs.Common.{true≢false, arith}
use Rattle.std.specs.Prelude.{IfSome}
use Rattle.std.specs.List.{last_or}
use Rattle.std.proofs.lemmas.Option.{IfSome_then}
use Rattle.std.specs.declared.ops.Range.{Range}
use Rattle.std.proofs.lemmas.Option.{same_Some}
use Rattle.cargo_platform.specs.declared.refusal.Refusal.{Refusal}
use Rattle.cargo_platform.specs.declared.refusal.Refusal.TheVariants as refusal
use Rattle.cargo_platform.specs.declared.reader.Punctuation.TheVariants as punctuation
use Rattle.cargo_platform.specs.Tokens.{Lexeme, LeftParen, RightParen, Ident, Comma, Equals, String, Placed}
use Rattle.cargo_platform.specs.Tokens.{written}
use Rattle.cargo_platform.specs.Cut.{lexemes, Item, Nothing}
use Rattle.cargo_platform.specs.Trees.{Name, CfgValue, Alone, KeyPair, Tree, Value}
use Rattle.cargo_platform.specs.Spelling.{Grammar, Values, Expressions, MayStand, Spells, value_spelling}
use Rattle.cargo_platform.specs.Faults.{Fault, expected_after}
use Rattle.cargo_platform.specs.Walk.{role_in, Opening, Negated, Listed, list_tree, Position, Wanting, WithWord}
use Rattle.cargo_platform.specs.Walk.{WithKey}
use Rattle.cargo_platform.specs.Walk.{WithTree, start, at_role, key_of, after_tree, step, steps}
use Rattle.cargo_platform.specs.Walk.{Word, State, is_whole, kind, kinds, ends, is_lone, state_of}
use Rattle.cargo_platform.specs.Inside.Ahead.{Ahead, NextIs, GoesPast, Path, bytes_left}
use Rattle.cargo_platform.specs.Cut as cut
use Rattle.cargo_platform.specs.Inside.Refusals.{FaultAt, fault_at_of, refused_fault, refused_span, refused_at}
use Rattle.cargo_platform.specs.Inside.Parsing.{is_list, with_last, opening_word, IsFresh, at_name, at_lone_name}
use Rattle.cargo_platform.specs.Inside.Parsing.{Reads, IsClear, TakesToken, LacksPunctuation, LacksName, LacksString}
use Rattle.cargo_platform.specs.Inside.Parsing.{IsStop, IfFault, StopsAt, Stops, RefusesNext, RefusesMore}
use Rattle.cargo_platform.proofs.Roles.{plain_name}
use Rattle.cargo_platform.proofs.Building.{steps_on, tree_leads, led_state}
use Rattle.cargo_platform.proofs.Completing.{ends_whole}
use Rattle.cargo_platform.proofs.Expecting.{like, walk_matches}
use Rattle.cargo_platform.proofs.Prefixes.{lexemes-append}
use Rattle.cargo_platform.proofs.OneCut.{piece_end}
use Rattle.cargo_platform.proofs.SomeCut.{written_length}

-- ---- reading

path_join : (l m n : Ahead) (us vs : List Placed) → Path l us m → Path m vs n → Path l (us ++ vs) n
path_join l m n [] vs p q = rw (← p) q
path_join l m n (t ∷ us) vs p q = (p.0, p.1, path_join p.0 m n us vs p.2 q)

leads_then : (g : Grammar) (p q r : Position) (us vs : List Placed) → steps g (Some p) (lexemes us) ≡ Some q
    → steps g (Some q) (lexemes vs) ≡ Some r → steps g (Some p) (lexemes (us ++ vs)) ≡ Some r
leads_then g p q r us vs a b =
    ap (steps g (Some p)) (lexemes-append us vs) ∙ steps_on (role_in g) key_of (Some p) (lexemes us) (lexemes vs)
    ∙ ap (λ o. steps g o (lexemes vs)) a ∙ b

pub reads_same : (g : Grammar) (l : Ahead) (p q : Position) → p ≡ q → Reads g l l p q
reads_same g l p q h = record { us = []; path = refl; leads = ap Some h }

pub reads_taken : (g : Grammar) (l m : Ahead) (t : Lexeme) (p q : Position) → TakesToken l m t → step g p t ≡ Some q
    → Reads g l m p q
reads_taken g l m t p q h is = record {
  us = h.0 ∷ [];
  path = (m, h.2, refl);
  leads = ap (λ z. steps g (step g p z) []) h.1 ∙ ap (λ o. steps g o []) is;
}

pub reads_then : (g : Grammar) (l m n : Ahead) (p q r : Position) → Reads g l m p q → Reads g m n q r → Reads g l n p r
reads_then g l m n p q r a b = record {
  us = a.us ++ b.us;
  path = path_join l m n a.us b.us a.path b.path;
  leads = leads_then g p q r a.us b.us a.leads b.leads;
}

-- ---- fewer bytes are left

past_shorter : (l m : Ahead) (t : Placed) → GoesPast l m t → bytes_left m < bytes_left l
past_shorter l m t h =
    omega (
      arith,
      ap length h.same_text,
      h.comes.0.1.ordered,
      piece_end l.text t.start t.end (written t.token) h.comes.1.1,
      written_length t.token h.comes.1.0,
      h.comes.1.1.inside,
      h.spaces.1.ordered,
    )

pub taken_shorter : (l m : Ahead) (t : Lexeme) → TakesToken l m t → bytes_left m < bytes_left l
taken_shorter l m t h = past_shorter l m h.0 h.2

path_shorter : (l m : Ahead) (us : List Placed) → Path l us m → bytes_left m ≤ bytes_left l
path_shorter l m [] p = omega (arith, ap bytes_left p)
path_shorter l m (t ∷ us) p = omega (arith, past_shorter l p.0 t p.1, path_shorter p.0 m us p.2)

pub reads_shorter : (g : Grammar) (l m : Ahead) (p q : Position) → Reads g l m p q → bytes_left m ≤ bytes_left l
reads_shorter g l m p q a = path_shorter l m a.us a.path

-- ---- refusing

pub if_fault : (r : Refusal) (P Q : FaultAt → Type 0) → ((f : FaultAt) → P f → Q f) → IfFault r P → IfFault r Q
if_fault r P Q f p = IfSome_then (refused_at r) p f

-- a statement about the fault, if there is one
fault_is : (r : Refusal) (f : FaultAt) (P : FaultAt → Type 0) → refused_at r ≡ Some f → IfFault r P → P f
fault_is r f P h p = subst (λ (o : Option FaultAt). IfSome o P) h p

-- a fault and its span, each by itself
moved : (a f : Fault) (x : Range ℕ) (s : Option (Range ℕ)) (P : Fault → Option (Range ℕ) → Type 0) → Some a ≡ Some f
    → Some x ≡ s → P a (Some x) → P f s
moved a f x s P h k p =
    rw (← k) (rw (← same_Some _ _ h) p)

-- a statement about the fault of a refusal, and about its span
pub fault_and_span : (r : Refusal) (f : Fault) (s : Option (Range ℕ)) (P : Fault → Option (Range ℕ) → Type 0)
    → refused_fault r ≡ Some f → refused_span r ≡ s → IfFault r (λ x. P x.fault (Some x.span)) → P f s
fault_and_span (refusal.Unexpected expected found x) f s P h k p = moved _ f x s P h k p
fault_and_span (refusal.Incomplete expected x) f s P h k p = moved _ f x s P h k p
fault_and_span (refusal.Lexical kind x) f s P h k p = moved _ f x s P h k p
fault_and_span (refusal.Unterminated rest x) f s P h k p = moved _ f x s P h k p
fault_and_span (refusal.Memory e) f s P h k p = absurd cc

each_fault : (o : Option FaultAt) (P : FaultAt → Type 0) → ((f : FaultAt) → o ≡ Some f → P f) → IfSome o P
each_fault (Some f) P p = p f refl
each_fault None P p = tt

pub stops_then : (g : Grammar) (l m : Ahead) (p q : Position) (r : Refusal) → Reads g l m p q → Stops g m q r
    → Stops g l p r
stops_then g l m p q r a s = if_fault r (StopsAt g m q) (StopsAt g l p) (λ f b. record {
  us = a.us ++ b.us;
  stop = b.stop;
  path = path_join l m b.stop a.us b.us a.path b.path;
  q = b.q;
  leads = leads_then g p q b.q a.us b.us a.leads b.leads;
  next = b.next;
  comes = b.comes;
  stops = b.stops;
  is = b.is;
}) s

-- no step from the position takes the next token
abbrev Unfit : Grammar → Ahead → Position → Type 0
Unfit g l p = (t : Placed) → NextIs l (cut.Token t) → step g p t.token ≡ None

stop_is : (g : Grammar) (l : Ahead) (i : Item) (p : Position) → NextIs l i → Unfit g l p → IsStop g p i
stop_is g l (cut.Token t) p is unfit = unfit t is
stop_is g l (cut.Lexical kind at) p is unfit = tt
stop_is g l Nothing p is unfit = tt

-- what comes next is refused here
refused_here : (g : Grammar) (l : Ahead) (next : Item) (p : Position) (r : Refusal) → NextIs l next → Unfit g l p
    → ((ts : List Lexeme) → steps g (Some start) ts ≡ Some p
    → IfFault r (λ f. fault_at_of g l.text (is_whole (state_of p)) (last_or None ts) next ≡ Some f))
    → Stops g l p r
refused_here g l next p r comes unfit h = each_fault (refused_at r) (StopsAt g l p) (λ f is. record {
  us = [];
  stop = l;
  path = refl;
  q = p;
  leads = refl;
  next = next;
  comes = comes;
  stops = stop_is g l next p comes unfit;
  is = λ ts led. fault_is r f _ is (h ts led);
})

-- the state is no end, and this is expected there
abbrev Expects : Grammar → State → List ℕ → List ℕ → Type 0
Expects g s expected at_end = (is_whole s ≡ false) × (expected_after g (like s) false ≡ expected)
    × (expected_after g (like s) true ≡ at_end)

stops_here : (g : Grammar) (l m : Ahead) (p : Position) (r : Refusal) (expected at_end : List ℕ) → m ≡ l
    → RefusesNext m expected at_end r → Expects g (state_of p) expected at_end → Unfit g l p → Stops g l p r
stops_here g l m p r expected at_end e h x unfit =
    let n : RefusesNext l expected at_end r = rw (← e) h in
    refused_here g l n.0 p r n.1 unfit (λ ts led.
    let m = walk_matches g ts (state_of p) (led_state g ts p led) in
    rw x.0 (n.2 g (last_or None ts) (m false ∙ x.1) (m true ∙ x.2)))

-- ---- names and pairs

after_key : (g : Grammar) (n : Name) (gs : List Opening) (t : Lexeme) → ((v : List ℕ) → t ≡ String v → ⊥)
    → step g (WithKey n gs) t ≡ None
after_key g n gs (String v) h = absurd (h v refl)
after_key g n gs t h = refl

-- after a key and `=` no string comes
pub key_stops : (g : Grammar) (l m : Ahead) (n : Name) (gs : List Opening) (r : Refusal) → m ≡ l → LacksString l
    → RefusesNext m (codes "a string") (codes "a string") r → Stops g l (WithKey n gs) r
key_stops g l m n gs r e lacks h =
    stops_here g l m (WithKey n gs) r _ _ e h (refl, refl, refl)
    (λ t is. after_key g n gs t.token (λ v x. lacks t is (v, x)))

-- no `=` goes on with a name that is last
clear_of : (e : Tree) (l : Ahead) (t : Placed) → IsClear e l → NextIs l (cut.Token t) → is_lone e ≡ true
    → t.token ≡ Equals → ⊥
clear_of (Value (Alone n)) l t clear is h = clear t is
clear_of e l t clear is h = absurd (true≢false (sym h))

tree_takes_none : (g : Grammar) (e : Tree) (gs : List Opening) (t : Lexeme)
    → (is_lone e ≡ true → t ≡ Equals → ⊥) → after_tree e gs t ≡ None → step g (WithTree e gs) t ≡ None
tree_takes_none g (Value (Alone n)) gs Equals h k = absurd (h refl refl)
tree_takes_none g e gs Equals h k = refl
tree_takes_none g e gs t h k = k

-- after a whole value or expression something is left
pub whole_stops : (g : Grammar) (l : Ahead) (e : Tree) (r : Refusal) → IsClear e l → RefusesMore l r
    → Stops g l (WithTree e []) r
whole_stops g l e r clear h =
    refused_here g l h.0 (WithTree e []) r h.1
    (λ t is. tree_takes_none g e [] t.token (clear_of e l t clear is) refl)
    (λ ts led. rw (ends_whole (is_lone e)) (h.2 g (last_or None ts)))

after_start : (t : Lexeme) → ((raw : Bool) (name : List ℕ) → t ≡ Ident raw name → ⊥) → step Values start t ≡ None
after_start (Ident raw name) h = absurd (h raw name refl)
after_start t h = refl

-- at the start no name comes
pub start_stops : (l m : Ahead) (r : Refusal) → m ≡ l → LacksName l
    → RefusesNext m (codes "identifier") (codes "identifier") r → Stops Values l start r
start_stops l m r e lacks h =
    stops_here Values l m start r _ _ e h (refl, refl, refl)
    (λ t is. after_start t.token (λ raw name x. lacks t is (raw, name, x)))

no_position : {A : Type 0} {p : Position} → None ≡ Some p → A
no_position h = absurd cc

-- what leads to a value spells it
pub value_spelled : (c : CfgValue) (ts : List Lexeme) → steps Values (Some start) ts ≡ Some (WithTree (Value c) [])
    → ts ≡ value_spelling c
value_spelled c [] h = absurd cc
value_spelled c (Ident raw name ∷ []) h =
    let n : Name = record { raw = raw; name = name } in
    let same : Alone n ≡ c = cc in
    ap value_spelling same
value_spelled c (Ident raw name ∷ Equals ∷ []) h = absurd cc
value_spelled c (Ident raw name ∷ Equals ∷ String v ∷ []) h =
    let n : Name = record { raw = raw; name = name } in
    let same : KeyPair n v ≡ c = cc in
    ap value_spelling same
value_spelled c (Ident raw name ∷ Equals ∷ String v ∷ Equals ∷ ts) h = no_position h
value_spelled c ts h = no_position h

-- ---- expressions

-- a name that is a group's word
pub at_word : (o : Opening) (raw : Bool) (name : List ℕ) (gs : List Opening) → raw ≡ false → name ≡ opening_word o
    → IsFresh o → at_name raw name gs ≡ WithWord o gs
at_word Negated raw name gs plain word fresh = λ i. at_name (plain i) (word i) gs
at_word (Listed true es) raw name gs plain word fresh =
    (λ i. at_name (plain i) (word i) gs) ∙ ap (λ (z : List Tree). WithWord (Listed true z) gs) (sym fresh)
at_word (Listed false es) raw name gs plain word fresh =
    (λ i. at_name (plain i) (word i) gs) ∙ ap (λ (z : List Tree). WithWord (Listed false z) gs) (sym fresh)

-- a name that is a literal
pub at_literal : (e : Tree) (raw : Bool) (name : List ℕ) (gs : List Opening) → Spells e (Ident raw name ∷ [])
    → at_name raw name gs ≡ WithTree e gs
at_literal e raw name gs spells = same_Some _ _ (tree_leads false e (Ident raw name ∷ []) gs [] spells)

-- a name that is no word of the language
pub at_plain : (raw : Bool) (name : List ℕ) (gs : List Opening) → MayStand (Alone (record { raw = raw; name = name }))
    → at_name raw name gs ≡ at_lone_name raw name gs
at_plain raw name gs may =
    let n : Name = record { raw = raw; name = name } in ap (λ r. at_role r n gs) (plain_name n may)

pub list_clear : (all : Bool) (es : List Tree) (l : Ahead) → IsClear (list_tree all es) l
list_clear true es l = tt
list_clear false es l = tt

pub comma_step : (e : Tree) (gs : List Opening) → is_list (kinds gs) ≡ true
    → step Expressions (WithTree e gs) Comma ≡ Some (Wanting (with_last gs e))
comma_step e [] is = absurd (true≢false (sym is))
comma_step e (Negated ∷ gs) is = absurd (true≢false (sym is))
comma_step e (Listed all es ∷ gs) is = refl

after_wanting : (gs : List Opening) (t : Lexeme) → ((raw : Bool) (name : List ℕ) → t ≡ Ident raw name → ⊥)
    → (is_list (kinds gs) ≡ true → t ≡ RightParen → ⊥) → step Expressions (Wanting gs) t ≡ None
after_wanting gs (Ident raw name) n r = absurd (n raw name refl)
after_wanting [] t n r = refl
after_wanting (Negated ∷ gs) t n r = refl
after_wanting (Listed all es ∷ gs) RightParen n r = absurd (r refl refl)
after_wanting (Listed all es ∷ gs) t n r = refl

begun : (gs : List Opening)
    → Expects Expressions (state_of (Wanting gs)) (codes "identifier") (codes "start of a cfg expression")
begun [] = (refl, refl, refl)
begun (Negated ∷ gs) = (refl, refl, refl)
begun (Listed all es ∷ gs) = (refl, refl, refl)

-- where an expression is wanted none begins
pub wanting_stops : (l m : Ahead) (gs : List Opening) (r : Refusal) → m ≡ l → LacksName l
    → (is_list (kinds gs) ≡ true → LacksPunctuation l punctuation.RightParen)
    → RefusesNext m (codes "identifier") (codes "start of a cfg expression") r → Stops Expressions l (Wanting gs) r
wanting_stops l m gs r e lacks unclosed_list h =
    stops_here Expressions l m (Wanting gs) r _ _ e h (begun gs)
    (λ t is. after_wanting gs t.token (λ raw name x. lacks t is (raw, name, x)) (λ y x. unclosed_list y t is x))

after_word : (o : Opening) (gs : List Opening) (t : Lexeme) → (t ≡ LeftParen → ⊥)
    → step Expressions (WithWord o gs) t ≡ None
after_word o gs LeftParen h = absurd (h refl)
after_word o gs t h = refl

-- after a group's word no `(` comes
pub word_stops : (l m : Ahead) (o : Opening) (gs : List Opening) (r : Refusal) → m ≡ l
    → LacksPunctuation l punctuation.LeftParen → RefusesNext m (codes "`(`") (codes "`(`") r
    → Stops Expressions l (WithWord o gs) r
word_stops l m o gs r e lacks h =
    stops_here Expressions l m (WithWord o gs) r _ _ e h (refl, refl, refl)
    (λ t is. after_word o gs t.token (lacks t is))

unclosed : (n : Bool) (w : Word) (ws : List Word) → Expects Expressions (ends n (w ∷ ws)) (codes "`)`") (codes "`)`")
unclosed true w ws = (refl, refl, refl)
unclosed false w ws = (refl, refl, refl)

after_member : (e : Tree) (o : Opening) (gs : List Opening) (t : Lexeme) → (t ≡ RightParen → ⊥)
    → (is_list (kinds (o ∷ [])) ≡ true → t ≡ Comma → ⊥) → after_tree e (o ∷ gs) t ≡ None
after_member e o gs RightParen h k = absurd (h refl)
after_member e (Listed all es) gs Comma h k = absurd (k refl refl)
after_member e (Listed all es) gs t h k = refl
after_member e Negated gs t h k = refl

-- after an expression in a group nothing closes it or goes on with it
pub group_stops : (l m : Ahead) (o : Opening) (gs : List Opening) (e : Tree) (r : Refusal) → m ≡ l
    → LacksPunctuation l punctuation.RightParen
    → (is_list (kinds (o ∷ [])) ≡ true → LacksPunctuation l punctuation.Comma) → IsClear e l
    → RefusesNext m (codes "`)`") (codes "`)`") r → Stops Expressions l (WithTree e (o ∷ gs)) r
group_stops l m o gs e r is lacks comma clear h =
    stops_here Expressions l m (WithTree e (o ∷ gs)) r _ _ is h (unclosed (is_lone e) (kind o) (kinds gs))
    (λ t next. tree_takes_none Expressions e (o ∷ gs) t.token (clear_of e l t clear next)
    (after_member e o gs t.token (lacks t next) (λ y. comma y t next)))
