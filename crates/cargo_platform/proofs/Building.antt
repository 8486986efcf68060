-- What spells a tree leads to that tree, and to no other.
use Rattle.std.proofs.Common.{◌≡◌, refl, sym, ap, subst, ◌∙◌, ℕ, Bool, true, false, true≢false, List, [], ◌∷◌, ◌++◌}
use Rattle.std.proofs.Common.{Option, Some, None, codes, inl, inr, append_assoc, append-nil}
use Rattle.std.specs.Prelude.{IsFalse, bytes_eq, if◌then◌else◌}
use Rattle.std.proofs.lemmas.Option.{same_Some}
use Rattle.cargo_platform.specs.Tokens.{Lexeme, LeftParen, RightParen, Ident, Comma, Equals, String}
use Rattle.cargo_platform.specs.Trees.{Name, CfgValue, Alone, KeyPair, Tree, Not, All, Any, Value, True, False, Trees}
use Rattle.cargo_platform.specs.Trees.{none, tree, trees_of}
use Rattle.cargo_platform.specs.Spelling.{Role, GroupWord, LiteralWord, PlainName, role, is_group_word, MayStand}
use Rattle.cargo_platform.specs.Spelling.{SpellsLiteral, SpellsBy, SpellMembersBy, Grammar, Values}
use Rattle.cargo_platform.specs.Spelling.{Expressions, IsAccepted}
use Rattle.cargo_platform.specs.Faults.{IsCompletable}
use Rattle.cargo_platform.specs.Earlier.{MayStandTransitional}
use Rattle.cargo_platform.specs.Walk.{role_in, Opening, Negated, Listed, list_tree, Position, Wanting, WithWord}
use Rattle.cargo_platform.specs.Walk.{WithKey}
use Rattle.cargo_platform.specs.Walk.{WithTree, start, at_role, key_of, after_tree, step_by, steps_by, step, steps}
use Rattle.cargo_platform.specs.Walk.{Word, Several, Negation, State, Wanted, Behind, Ended, after, after_role}
use Rattle.cargo_platform.specs.Walk.{after_expression, walk_from, walk, kind, kinds, ends, is_lone, state_of}
use Rattle.cargo_platform.proofs.Roles.{IsOfRole, of_role, plain_name}
use Rattle.cargo_platform.proofs.Walk.{none_some, walk_from-append, after_begins, after_end}

-- the key that an expression once was: unmarked literals too
abbrev once_key_of : Tree → Option Name
once_key_of True = Some (record { raw = false; name = codes "true" })
once_key_of False = Some (record { raw = false; name = codes "false" })
once_key_of e = key_of e

-- the flag says that literals are keys, as they once were
abbrev pub key_by : Bool → Tree → Option Name
key_by true = once_key_of
key_by false = key_of

abbrev pub lead : Bool → Position → Lexeme → Option Position
lead keys = step_by (role_in Expressions) (key_by keys)

abbrev pub lead_from : Bool → Option Position → List Lexeme → Option Position
lead_from keys = steps_by (role_in Expressions) (key_by keys)

pub steps_on : (r : Name → Role) (k : Tree → Option Name) (p : Option Position) (ts us : List Lexeme)
    → steps_by r k p (ts ++ us) ≡ steps_by r k (steps_by r k p ts) us
steps_on r k None ts us = refl
steps_on r k (Some p) [] us = refl
steps_on r k (Some p) (t ∷ ts) us = steps_on r k (step_by r k p t) ts us

-- ---- names and keys

abbrev pub may_of : Bool → CfgValue → Type 0
may_of true = MayStandTransitional
may_of false = MayStand

alone_plain : (keys : Bool) (n : Name) → may_of keys (Alone n) → role n ≡ PlainName
alone_plain true n may = plain_name n may
alone_plain false n may = plain_name n may

abbrev pub word : List ℕ → Name
word name = record { raw = false; name = name }

-- a key and its string
abbrev KeyLeads : Bool → List ℕ → List Opening → List Lexeme → Name → Type 0
KeyLeads keys v gs x k =
    lead_from keys (Some (at_role (role k) k gs)) (Equals ∷ String v ∷ x)
    ≡ lead_from keys (Some (WithTree (Value (KeyPair k v)) gs)) x

unmarked : (k : Name) (name : List ℕ) → k.raw ≡ false → k.name ≡ name → word name ≡ k
unmarked k name raw is = λ i. record { raw = sym raw i; name = sym is i }

key_leads : (keys : Bool) (k : Name) (v : List ℕ) (gs : List Opening) (x : List Lexeme) → may_of keys (KeyPair k v)
    → KeyLeads keys v gs x k
key_leads false k v gs x may =
    ap (λ r. lead_from false (Some (at_role r k gs)) (Equals ∷ String v ∷ x)) (plain_name k may)
key_leads true k v gs x may = go (role k) refl (of_role k)
  where
    K : Name → Type 0
    K z = KeyLeads true v gs x z

    G : Name → Type 0
    G z = IsFalse (is_group_word z) → K k

    go : (r : Role) → role k ≡ r → IsOfRole k r → KeyLeads true v gs x k
    go PlainName is o = ap (λ r. lead_from true (Some (at_role r k gs)) (Equals ∷ String v ∷ x)) is
    go LiteralWord is (raw, inl name) = subst K (unmarked k (codes "true") raw name) refl
    go LiteralWord is (raw, inr name) = subst K (unmarked k (codes "false") raw name) refl
    go GroupWord is (raw, inl name) = subst G (unmarked k (codes "not") raw name) (λ h. absurd (true≢false h)) may
    go GroupWord is (raw, inr (inl name)) =
        subst G (unmarked k (codes "all") raw name) (λ h. absurd (true≢false h)) may
    go GroupWord is (raw, inr (inr name)) =
        subst G (unmarked k (codes "any") raw name) (λ h. absurd (true≢false h)) may

-- ---- what spells a tree leads to it

abbrev list_of : Trees → List Tree
list_of none = []
list_of (tree e es) = e ∷ list_of es

same_trees : (es : Trees) → trees_of (list_of es) ≡ es
same_trees none = refl
same_trees (tree e es) = ap (λ z. tree e z) (same_trees es)

-- from one position to another, with more tokens after
abbrev Leads : Bool → Position → List Lexeme → List Lexeme → Position → Type 0
Leads keys p s x q = lead_from keys (Some p) (s ++ x) ≡ lead_from keys (Some q) x

-- the tokens of a member, and those after it up to `)`
member_first : (keys : Bool) (p : Position) (i s rest x : List Lexeme) → i ≡ s ++ rest
    → lead_from keys (Some p) ((i ++ RightParen ∷ []) ++ x)
    ≡ lead_from keys (Some p) (s ++ ((rest ++ RightParen ∷ []) ++ x))
member_first keys p i s rest x h =
    ap (λ (z : List Lexeme). lead_from keys (Some p) ((z ++ RightParen ∷ []) ++ x)) h
    ∙ ap (λ (z : List Lexeme). lead_from keys (Some p) (z ++ x)) (append_assoc s rest (RightParen ∷ []))
    ∙ ap (lead_from keys (Some p)) (append_assoc s (rest ++ RightParen ∷ []) x)

mutual
  pub tree_leads : (keys : Bool) (e : Tree) (s : List Lexeme) (gs : List Opening) (x : List Lexeme)
      → SpellsBy (may_of keys) SpellsLiteral e s → Leads keys (Wanting gs) s x (WithTree e gs)
  tree_leads keys (Not e) s gs x p =
      ap (λ (z : List Lexeme). lead_from keys (Some (Wanting gs)) (z ++ x)) p.2
      ∙ ap (lead_from keys (Some (Wanting (Negated ∷ gs)))) (append_assoc p.0 (RightParen ∷ []) x)
      ∙ tree_leads keys e p.0 (Negated ∷ gs) (RightParen ∷ x) p.1
  tree_leads keys (All es) s gs x p =
      ap (λ (z : List Lexeme). lead_from keys (Some (Wanting gs)) (z ++ x)) p.2
      ∙ members_lead keys true es p.0 [] gs x p.1
      ∙ ap (λ z. lead_from keys (Some (WithTree (All z) gs)) x) (same_trees es)
  tree_leads keys (Any es) s gs x p =
      ap (λ (z : List Lexeme). lead_from keys (Some (Wanting gs)) (z ++ x)) p.2
      ∙ members_lead keys false es p.0 [] gs x p.1
      ∙ ap (λ z. lead_from keys (Some (WithTree (Any z) gs)) x) (same_trees es)
  tree_leads keys (Value (Alone n)) s gs x p =
      ap (λ (z : List Lexeme). lead_from keys (Some (Wanting gs)) (z ++ x)) p.0
      ∙ ap (λ r. lead_from keys (Some (at_role r n gs)) x) (alone_plain keys n p.1)
  tree_leads keys (Value (KeyPair k v)) s gs x p =
      ap (λ (z : List Lexeme). lead_from keys (Some (Wanting gs)) (z ++ x)) p.0 ∙ key_leads keys k v gs x p.1
  tree_leads keys True s gs x p = ap (λ (z : List Lexeme). lead_from keys (Some (Wanting gs)) (z ++ x)) p
  tree_leads keys False s gs x p = ap (λ (z : List Lexeme). lead_from keys (Some (Wanting gs)) (z ++ x)) p

  members_lead : (keys all : Bool) (es : Trees) (i : List Lexeme) (before : List Tree) (gs : List Opening)
      (x : List Lexeme) → SpellMembersBy (may_of keys) SpellsLiteral es i
      → Leads keys (Wanting (Listed all before ∷ gs)) (i ++ RightParen ∷ []) x
      (WithTree (list_tree all (before ++ list_of es)) gs)
  members_lead keys all none i before gs x p =
      ap (λ (z : List Lexeme). lead_from keys (Some (Wanting (Listed all before ∷ gs))) ((z ++ RightParen ∷ []) ++ x)) p
      ∙ ap (λ (z : List Tree). lead_from keys (Some (WithTree (list_tree all z) gs)) x) (sym (append-nil before))
  members_lead keys all (tree e es) i before gs x (s, p, inl (last, is)) =
      member_first keys (Wanting (Listed all before ∷ gs)) i s [] x (is ∙ sym (append-nil s))
      ∙ tree_leads keys e s (Listed all before ∷ gs) (RightParen ∷ x) p
      ∙ ap (λ (z : Trees). lead_from keys (Some (WithTree (list_tree all (before ++ e ∷ list_of z)) gs)) x) (sym last)
  members_lead keys all (tree e es) i before gs x (s, p, inr (others, is, q)) =
      member_first keys (Wanting (Listed all before ∷ gs)) i s (Comma ∷ others) x is
      ∙ tree_leads keys e s (Listed all before ∷ gs) (((Comma ∷ others) ++ RightParen ∷ []) ++ x) p
      ∙ members_lead keys all es others (before ++ e ∷ []) gs x q
      ∙ ap (λ (z : List Tree). lead_from keys (Some (WithTree (list_tree all z) gs)) x)
      (append_assoc before (e ∷ []) (list_of es))

pub whole_leads : (keys : Bool) (e : Tree) (ts : List Lexeme) → SpellsBy (may_of keys) SpellsLiteral e ts
    → lead_from keys (Some (Wanting [])) ts ≡ Some (WithTree e [])
whole_leads keys e ts p =
    ap (lead_from keys (Some (Wanting []))) (sym (append-nil ts)) ∙ tree_leads keys e ts [] [] p

-- ---- the state is determined by the position

abbrev pub state_at : Option Position → Option State
state_at None = None
state_at (Some p) = Some (state_of p)

-- no list is a name alone
pub list_not_lone : (all : Bool) (es : List Tree) → is_lone (list_tree all es) ≡ false
list_not_lone true es = refl
list_not_lone false es = refl

role_state : (r : Role) (n : Name) (gs : List Opening)
    → after_role r n.name (kinds gs) ≡ state_of (at_role r n gs)
role_state GroupWord n gs =
    elim (bytes_eq n.name (codes "not")) as (λ b. Behind (if b then Negation else Several) (kinds gs)
    ≡ Behind (kind (if b then Negated else Listed (bytes_eq n.name (codes "all")) [])) (kinds gs)) [
      | true ↦ refl
      | false ↦ refl
    ]
role_state LiteralWord n gs =
    elim (bytes_eq n.name (codes "true")) as
    (λ b. Ended (kinds gs) ≡ ends (is_lone (if b then True else False)) (kinds gs)) [
      | true ↦ refl
      | false ↦ refl
    ]
role_state PlainName n gs = refl

list_state : (all : Bool) (es : List Tree) (gs : List Opening)
    → Some (Ended (kinds gs)) ≡ Some (state_of (WithTree (list_tree all es) gs))
list_state all es gs = ap (λ b. Some (ends b (kinds gs))) (sym (list_not_lone all es))

after_state : (e : Tree) (gs : List Opening) (t : Lexeme)
    → after_expression (kinds gs) t ≡ state_at (after_tree e gs t)
after_state e (Listed all es ∷ gs) RightParen = list_state all (es ++ e ∷ []) gs
after_state e (Listed all es ∷ gs) t = refl
after_state e (Negated ∷ gs) RightParen = refl
after_state e (Negated ∷ gs) t = refl
after_state e [] t = refl

no_equals : (ws : List Word) → after_expression ws Equals ≡ None
no_equals [] = refl
no_equals (Several ∷ ws) = refl
no_equals (Negation ∷ ws) = refl

tree_state : (g : Grammar) (e : Tree) (gs : List Opening) (t : Lexeme)
    → after g (ends (is_lone e) (kinds gs)) t ≡ state_at (step g (WithTree e gs) t)
tree_state g (Value (Alone n)) gs Equals = refl
tree_state g e gs Equals = no_equals (kinds gs)
tree_state g e gs t = after_end g (is_lone e) (kinds gs) t refl ∙ after_state e gs t

pub next_state : (g : Grammar) (p : Position) (t : Lexeme) → after g (state_of p) t ≡ state_at (step g p t)
next_state g (Wanting gs) (Ident raw name) =
    let n : Name = record { raw = raw; name = name } in
    after_begins g (kinds gs) raw name ∙ ap Some (role_state (role_in g n) n gs)
next_state g (Wanting (Listed all es ∷ gs)) RightParen = list_state all es gs
next_state g (Wanting (Listed all es ∷ gs)) t = refl
next_state g (Wanting (Negated ∷ gs)) t = refl
next_state g (Wanting []) t = refl
next_state g (WithWord Negated gs) LeftParen = refl
next_state g (WithWord Negated gs) t = refl
next_state g (WithWord (Listed all es) gs) LeftParen = refl
next_state g (WithWord (Listed all es) gs) t = refl
next_state g (WithKey n gs) (String v) = refl
next_state g (WithKey n gs) t = refl
next_state g (WithTree e gs) t = tree_state g e gs t

states : (g : Grammar) (p : Option Position) (ts : List Lexeme)
    → walk_from g (state_at p) ts ≡ state_at (steps g p ts)
states g None ts = refl
states g (Some p) [] = refl
states g (Some p) (t ∷ ts) = ap (λ s. walk_from g s ts) (next_state g p t) ∙ states g (step g p t) ts

-- where tokens lead is determined by the position
pub walk_state : (g : Grammar) (ts : List Lexeme) → walk g ts ≡ state_at (steps g (Some start) ts)
walk_state g ts = states g (Some start) ts

pub led_state : (g : Grammar) (ts : List Lexeme) (p : Position) → steps g (Some start) ts ≡ Some p
    → walk g ts ≡ Some (state_of p)
led_state g ts p h = walk_state g ts ∙ ap state_at h

-- what is walked leads to a position of its state
pub walked_led : (ts : List Lexeme) (s : State) → walk Expressions ts ≡ Some s
    → (p : Position) × (state_of p ≡ s) × (steps Expressions (Some start) ts ≡ Some p)
walked_led ts s h =
    elim (steps Expressions (Some start) ts) as
    (λ z. steps Expressions (Some start) ts ≡ z → state_at z ≡ Some s
    → (p : Position) × (state_of p ≡ s) × (steps Expressions (Some start) ts ≡ Some p)) [
      | None ↦ λ _ stops. none_some stops
      | Some p ↦ λ is same. (p, same_Some _ _ same, is)
    ] refl (sym (walk_state Expressions ts) ∙ h)

-- what leads to a tree spells no other
pub one_built : (keys : Bool) (e f : Tree) (ts : List Lexeme) → SpellsBy (may_of keys) SpellsLiteral e ts
    → SpellsBy (may_of keys) SpellsLiteral f ts → e ≡ f
one_built keys e f ts p q = ap tree_at (sym (whole_leads keys e ts p) ∙ whole_leads keys f ts q)
  where
    tree_at : Option Position → Tree
    tree_at (Some (WithTree e gs)) = e
    tree_at p = True

-- ---- what is accepted is walked

-- what is accepted leads after a value or an expression, with nothing open
pub accepted_walks : (g : Grammar) (ts : List Lexeme) → IsAccepted g ts → (n : Bool) × (walk g ts ≡ Some (ends n []))
accepted_walks Values ts (Alone n, h) = (true, ap (walk Values) h)
accepted_walks Values ts (KeyPair k v, h) = (false, ap (walk Values) h)
accepted_walks Expressions ts (e, p) = (is_lone e, led_state Expressions ts (WithTree e []) (whole_leads false e ts p))

-- where a walk stops, nothing that follows makes the list accepted
pub stopped : (g : Grammar) (ts more : List Lexeme) → walk g ts ≡ None → IsAccepted g (ts ++ more) → ⊥
stopped g ts more h p =
    let r = accepted_walks g (ts ++ more) p in
    none_some
    (sym (ap (λ s. walk_from g s more) h) ∙ sym (walk_from-append g (Some (Wanted [])) ts more) ∙ r.1)

-- what can be completed is walked
pub completable_walks : (g : Grammar) (ts : List Lexeme) → IsCompletable g ts → (s : State) × (walk g ts ≡ Some s)
completable_walks g ts p =
    elim (walk g ts) as (λ o. walk g ts ≡ o → (s : State) × (walk g ts ≡ Some s)) [
      | None ↦ λ h. absurd (stopped g ts p.0 h p.2)
      | Some s ↦ λ h. (s, h)
    ] refl
