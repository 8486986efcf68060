-- What leads to a position: its groups are open there, with the members that the tokens spell.
use Rattle.std.proofs.Common.{◌≡◌, refl, sym, ap, subst, ◌∙◌, ℕ, Bool, true, false, List, [], ◌∷◌, ◌++◌, Some}
use Rattle.std.proofs.Common.{None, codes, inl, inr, append_assoc, append-nil}
use Rattle.std.proofs.lemmas.Option.{same_Some}
use Rattle.cargo_platform.specs.Tokens.{Lexeme, LeftParen, RightParen, Ident, Comma, Equals, String}
use Rattle.cargo_platform.specs.Trees.{Name, Alone, KeyPair, Tree, Not, Value, True, False, trees_of}
use Rattle.cargo_platform.specs.Spelling.{MayStand, group, Spells, SpellsBy, SpellMembersBy}
use Rattle.cargo_platform.specs.Spelling.{SpellsLiteral}
use Rattle.cargo_platform.specs.Spelling.{Expressions, Role, GroupWord, LiteralWord, PlainName, role}
use Rattle.cargo_platform.specs.Walk.{Opening, Negated, Listed, list_tree, Position, Wanting, WithWord, WithKey}
use Rattle.cargo_platform.specs.Walk.{WithTree, start, opened_by, literal_of, at_role, at_key, after_tree, steps}
use Rattle.cargo_platform.specs.Inside.Parsing.{list_word, opening_word, IsFresh}
use Rattle.cargo_platform.proofs.Building.{key_by, lead, lead_from, may_of, word}
use Rattle.cargo_platform.proofs.Roles.{IsGroupWord, IsLiteralWord, IsOfRole, of_role}

-- ---- what was read before a position

-- the flag says that literals are keys, as they once were
abbrev SpellsWith : Bool → Tree → List Lexeme → Type 0
SpellsWith keys = SpellsBy (may_of keys) SpellsLiteral

-- members, each with the comma after it
abbrev AreFinished : Bool → List Tree → List Lexeme → Type 0
AreFinished keys [] ts = ts ≡ []
AreFinished keys (e ∷ es) ts =
    (s : List Lexeme) × (rest : List Lexeme) × SpellsWith keys e s × (ts ≡ s ++ Comma ∷ rest)
    × AreFinished keys es rest

-- the tokens open these groups, and spell their members so far
abbrev Wants : Bool → List Opening → List Lexeme → Type 0
Wants keys [] ts = ts ≡ []
Wants keys (Negated ∷ gs) ts =
    (before : List Lexeme) × Wants keys gs before × (ts ≡ before ++ (Ident false (codes "not") ∷ LeftParen ∷ []))
Wants keys (Listed all es ∷ gs) ts =
    (before : List Lexeme) × (inside : List Lexeme) × Wants keys gs before × AreFinished keys es inside
    × (ts ≡ before ++ (Ident false (list_word all) ∷ LeftParen ∷ inside))

-- an expression is after them
abbrev EndsWith : Bool → List Opening → Tree → List Lexeme → Type 0
EndsWith keys gs e ts =
    (before : List Lexeme) × (s : List Lexeme) × Wants keys gs before × SpellsWith keys e s × (ts ≡ before ++ s)

-- the word of a group that has no members
record HasWord (keys : Bool) (gs : List Opening) (o : Opening) (ts : List Lexeme) : Type 0 where
  before : List Lexeme
  wanted : Wants keys gs before
  fresh : IsFresh o
  is : ts ≡ before ++ (Ident false (opening_word o) ∷ [])

-- ---- members

-- one more, with its comma
finished_snoc : (keys : Bool) (es : List Tree) (ts : List Lexeme) (f : Tree) (s : List Lexeme)
    → AreFinished keys es ts → SpellsWith keys f s → AreFinished keys (es ++ f ∷ []) (ts ++ (s ++ Comma ∷ []))
finished_snoc keys [] ts f s p q = (s, [], q, ap (λ (z : List Lexeme). z ++ (s ++ Comma ∷ [])) p, refl)
finished_snoc keys (e ∷ es) ts f s (t, rest, p, is, q) r = (
  t,
  rest ++ (s ++ Comma ∷ []),
  p,
  ap (λ (z : List Lexeme). z ++ (s ++ Comma ∷ [])) is ∙ append_assoc t (Comma ∷ rest) (s ++ Comma ∷ []),
  finished_snoc keys es rest f s q r,
)

-- the members of a list
abbrev SpellMembersWith : Bool → List Tree → List Lexeme → Type 0
SpellMembersWith keys es = SpellMembersBy (may_of keys) SpellsLiteral (trees_of es)

-- one more, and no comma after it
members_snoc : (keys : Bool) (es : List Tree) (ts : List Lexeme) (f : Tree) (s : List Lexeme)
    → AreFinished keys es ts → SpellsWith keys f s → SpellMembersWith keys (es ++ f ∷ []) (ts ++ s)
members_snoc keys [] ts f s p q = (s, q, inl (refl, ap (λ (z : List Lexeme). z ++ s) p))
members_snoc keys (e ∷ es) ts f s (t, rest, p, is, q) r = (
  t,
  p,
  inr (
    rest ++ s,
    ap (λ (z : List Lexeme). z ++ s) is ∙ append_assoc t (Comma ∷ rest) s,
    members_snoc keys es rest f s q r,
  ),
)

finished_members : (keys : Bool) (es : List Tree) (ts : List Lexeme) → AreFinished keys es ts
    → SpellMembersWith keys es ts
finished_members keys [] ts p = p
finished_members keys (e ∷ es) ts (t, rest, p, is, q) = (t, p, inr (rest, is, finished_members keys es rest q))

listed : (keys all : Bool) (es : List Tree) (inner : List Lexeme) → SpellMembersWith keys es inner
    → SpellsWith keys (list_tree all es) (group (list_word all) inner)
listed keys true es inner p = (inner, p, refl)
listed keys false es inner p = (inner, p, refl)

-- ---- from one token to the next

-- a key and `=` were read last
record HasKey (keys : Bool) (gs : List Opening) (n : Name) (ts : List Lexeme) : Type 0 where
  before : List Lexeme
  wanted : Wants keys gs before
  may : (v : List ℕ) → may_of keys (KeyPair n v)
  is : ts ≡ before ++ (Ident n.raw n.name ∷ Equals ∷ [])

word_open : (keys : Bool) (gs : List Opening) (o : Opening) (ts : List Lexeme) → HasWord keys gs o ts
    → Wants keys (o ∷ gs) (ts ++ LeftParen ∷ [])
word_open keys gs Negated ts h = (
  h.before,
  h.wanted,
  ap (λ (z : List Lexeme). z ++ LeftParen ∷ []) h.is
      ∙ append_assoc h.before (Ident false (codes "not") ∷ []) (LeftParen ∷ []),
)
word_open keys gs (Listed all es) ts h = (
  h.before,
  [],
  h.wanted,
  rw h.fresh refl,
  ap (λ (z : List Lexeme). z ++ LeftParen ∷ []) h.is
      ∙ append_assoc h.before (Ident false (list_word all) ∷ []) (LeftParen ∷ []),
)

-- an unmarked name may be alone, and be a key
alone_may : (keys : Bool) (n : Name) → MayStand (Alone n) → may_of keys (Alone n)
alone_may true n may = may
alone_may false n may = may

key_may : (keys : Bool) (n : Name) (v : List ℕ) → may_of keys (Alone n) → may_of keys (KeyPair n v)
key_may true n v may = may.0
key_may false n v may = may

name_ends : (keys : Bool) (gs : List Opening) (n : Name) (ts : List Lexeme) → Wants keys gs ts → MayStand (Alone n)
    → EndsWith keys gs (Value (Alone n)) (ts ++ Ident n.raw n.name ∷ [])
name_ends keys gs n ts w may = (ts, Ident n.raw n.name ∷ [], w, (refl, alone_may keys n may), refl)

-- an expression whose one token is an identifier is before `=` a key
has_key : (keys : Bool) (gs : List Opening) (e : Tree) (n : Name) (ts : List Lexeme) → (h : EndsWith keys gs e ts)
    → h.1 ≡ Ident n.raw n.name ∷ [] → ((v : List ℕ) → may_of keys (KeyPair n v)) → HasKey keys gs n (ts ++ Equals ∷ [])
has_key keys gs e n ts h one may = record {
  before = h.0;
  wanted = h.2;
  may = may;
  is =
      ap (λ (z : List Lexeme). z ++ Equals ∷ []) (h.4 ∙ ap (λ (z : List Lexeme). h.0 ++ z) one)
      ∙ append_assoc h.0 (Ident n.raw n.name ∷ []) (Equals ∷ []);
}

key_pair : (keys : Bool) (gs : List Opening) (n : Name) (v : List ℕ) (ts : List Lexeme) → HasKey keys gs n ts
    → EndsWith keys gs (Value (KeyPair n v)) (ts ++ String v ∷ [])
key_pair keys gs n v ts h = (
  h.before,
  Ident n.raw n.name ∷ Equals ∷ String v ∷ [],
  h.wanted,
  (refl, h.may v),
  ap (λ (z : List Lexeme). z ++ String v ∷ []) h.is
      ∙ append_assoc h.before (Ident n.raw n.name ∷ Equals ∷ []) (String v ∷ []),
)

abbrev head : Bool → List Lexeme → List Lexeme
head all inner = Ident false (list_word all) ∷ LeftParen ∷ inner

-- `)` after `all(` or after a comma
members_close : (keys : Bool) (gs : List Opening) (all : Bool) (es : List Tree) (ts : List Lexeme)
    → Wants keys (Listed all es ∷ gs) ts → EndsWith keys gs (list_tree all es) (ts ++ RightParen ∷ [])
members_close keys gs all es ts o = (
  o.0,
  group (list_word all) o.1,
  o.2,
  listed keys all es o.1 (finished_members keys es o.1 o.3),
  ap (λ (z : List Lexeme). z ++ RightParen ∷ []) o.4 ∙ append_assoc o.0 (head all o.1) (RightParen ∷ []),
)

negation_close : (keys : Bool) (gs : List Opening) (e : Tree) (ts : List Lexeme) → EndsWith keys (Negated ∷ gs) e ts
    → EndsWith keys gs (Not e) (ts ++ RightParen ∷ [])
negation_close keys gs e ts o =
    let b = o.2 in (
      b.0,
      group (codes "not") o.1,
      b.1,
      (o.1, o.3, refl),
      ap (λ (z : List Lexeme). z ++ RightParen ∷ [])
          (o.4 ∙ ap (λ (z : List Lexeme). z ++ o.1) b.2
          ∙ append_assoc b.0 (Ident false (codes "not") ∷ LeftParen ∷ []) o.1)
          ∙ append_assoc b.0 (Ident false (codes "not") ∷ LeftParen ∷ o.1) (RightParen ∷ []),
    )

list_close : (keys : Bool) (gs : List Opening) (all : Bool) (es : List Tree) (e : Tree) (ts : List Lexeme)
    → EndsWith keys (Listed all es ∷ gs) e ts
    → EndsWith keys gs (list_tree all (es ++ e ∷ [])) (ts ++ RightParen ∷ [])
list_close keys gs all es e ts o =
    let b = o.2 in (
      b.0,
      group (list_word all) (b.1 ++ o.1),
      b.2,
      listed keys all (es ++ e ∷ []) (b.1 ++ o.1) (members_snoc keys es b.1 e o.1 b.3 o.3),
      ap (λ (z : List Lexeme). z ++ RightParen ∷ [])
          (o.4 ∙ ap (λ (z : List Lexeme). z ++ o.1) b.4 ∙ append_assoc b.0 (head all b.1) o.1)
          ∙ append_assoc b.0 (head all (b.1 ++ o.1)) (RightParen ∷ []),
    )

member_comma : (keys : Bool) (gs : List Opening) (all : Bool) (es : List Tree) (e : Tree) (ts : List Lexeme)
    → EndsWith keys (Listed all es ∷ gs) e ts → Wants keys (Listed all (es ++ e ∷ []) ∷ gs) (ts ++ Comma ∷ [])
member_comma keys gs all es e ts o =
    let b = o.2 in (
      b.0,
      b.1 ++ (o.1 ++ Comma ∷ []),
      b.2,
      finished_snoc keys es b.1 e o.1 b.3 o.3,
      ap (λ (z : List Lexeme). z ++ Comma ∷ []) (o.4 ∙ ap (λ (z : List Lexeme). z ++ o.1) b.4)
          ∙ append_assoc (b.0 ++ head all b.1) o.1 (Comma ∷ [])
          ∙ append_assoc b.0 (head all b.1) (o.1 ++ Comma ∷ []),
    )

-- ---- what leads to a position

abbrev Holds : Bool → Position → List Lexeme → Type 0
Holds keys (Wanting gs) ts = Wants keys gs ts
Holds keys (WithWord o gs) ts = HasWord keys gs o ts
Holds keys (WithKey n gs) ts = HasKey keys gs n ts
Holds keys (WithTree e gs) ts = EndsWith keys gs e ts

moved : (keys : Bool) (p q : Position) (ts : List Lexeme) → Some p ≡ Some q → Holds keys p ts → Holds keys q ts
moved keys p q ts h o = rw (← same_Some _ _ h) o

no_position : {A : Type 0} {p : Position} → None ≡ Some p → A
no_position h = absurd cc

word_holds : (keys : Bool) (gs : List Opening) (ts : List Lexeme) (name : List ℕ) → Wants keys gs ts → IsGroupWord name
    → HasWord keys gs (opened_by name) (ts ++ Ident false name ∷ [])
word_holds keys gs ts name w is = go is
  where
    W : List ℕ → Type 0
    W z = HasWord keys gs (opened_by z) (ts ++ Ident false z ∷ [])

    go : IsGroupWord name → HasWord keys gs (opened_by name) (ts ++ Ident false name ∷ [])
    go (inl h) = subst W (sym h) (record { before = ts; wanted = w; fresh = tt; is = refl })
    go (inr (inl h)) = subst W (sym h) (record { before = ts; wanted = w; fresh = refl; is = refl })
    go (inr (inr h)) = subst W (sym h) (record { before = ts; wanted = w; fresh = refl; is = refl })

literal_holds : (keys : Bool) (gs : List Opening) (ts : List Lexeme) (name : List ℕ) → Wants keys gs ts
    → IsLiteralWord name → EndsWith keys gs (literal_of name) (ts ++ Ident false name ∷ [])
literal_holds keys gs ts name w is = go is
  where
    L : List ℕ → Type 0
    L z = EndsWith keys gs (literal_of z) (ts ++ Ident false z ∷ [])

    go : IsLiteralWord name → EndsWith keys gs (literal_of name) (ts ++ Ident false name ∷ [])
    go (inl h) = subst L (sym h) (ts, Ident false (codes "true") ∷ [], w, refl, refl)
    go (inr h) = subst L (sym h) (ts, Ident false (codes "false") ∷ [], w, refl, refl)

role_holds : (keys : Bool) (gs : List Opening) (ts : List Lexeme) (n : Name) (r : Role) → Wants keys gs ts
    → IsOfRole n r → Holds keys (at_role r n gs) (ts ++ Ident n.raw n.name ∷ [])
role_holds keys gs ts n GroupWord w is =
    rw is.0 (word_holds keys gs ts n.name w is.1)
role_holds keys gs ts n LiteralWord w is =
    rw is.0 (literal_holds keys gs ts n.name w is.1)
role_holds keys gs ts n PlainName w is = name_ends keys gs n ts w is

-- after an expression
tree_holds : (keys : Bool) (e : Tree) (gs : List Opening) (t : Lexeme) (q : Position) (ts : List Lexeme)
    → EndsWith keys gs e ts → after_tree e gs t ≡ Some q → Holds keys q (ts ++ t ∷ [])
tree_holds keys e (Negated ∷ gs) RightParen q ts o h =
    moved keys (WithTree (Not e) gs) q _ h (negation_close keys gs e ts o)
tree_holds keys e (Listed all es ∷ gs) RightParen q ts o h =
    moved keys (WithTree (list_tree all (es ++ e ∷ [])) gs) q _ h (list_close keys gs all es e ts o)
tree_holds keys e (Listed all es ∷ gs) Comma q ts o h =
    moved keys (Wanting (Listed all (es ++ e ∷ []) ∷ gs)) q _ h (member_comma keys gs all es e ts o)
tree_holds keys e gs t q ts o h = no_position h

key_holds : (keys : Bool) (e : Tree) (gs : List Opening) (q : Position) (ts : List Lexeme) → EndsWith keys gs e ts
    → at_key (key_by keys e) gs ≡ Some q → Holds keys q (ts ++ Equals ∷ [])
key_holds true (Value (Alone n)) gs q ts o h =
    moved true (WithKey n gs) q _ h
    (has_key true gs (Value (Alone n)) n ts o o.3.0 (λ v. key_may true n v o.3.1))
key_holds true True gs q ts o h =
    moved true (WithKey (word (codes "true")) gs) q _ h
    (has_key true gs True (word (codes "true")) ts o o.3 (λ v. refl))
key_holds true False gs q ts o h =
    moved true (WithKey (word (codes "false")) gs) q _ h
    (has_key true gs False (word (codes "false")) ts o o.3 (λ v. refl))
key_holds false (Value (Alone n)) gs q ts o h =
    moved false (WithKey n gs) q _ h
    (has_key false gs (Value (Alone n)) n ts o o.3.0 (λ v. key_may false n v o.3.1))
key_holds keys e gs q ts o h = no_position h

-- the next token
next_holds : (keys : Bool) (p : Position) (t : Lexeme) (q : Position) (ts : List Lexeme) → Holds keys p ts
    → lead keys p t ≡ Some q → Holds keys q (ts ++ t ∷ [])
next_holds keys (Wanting gs) (Ident raw name) q ts w h =
    let n : Name = record { raw = raw; name = name } in
    moved keys (at_role (role n) n gs) q _ h (role_holds keys gs ts n (role n) w (of_role n))
next_holds keys (Wanting (Listed all es ∷ gs)) RightParen q ts w h =
    moved keys (WithTree (list_tree all es) gs) q _ h (members_close keys gs all es ts w)
next_holds keys (WithWord o gs) LeftParen q ts w h = moved keys (Wanting (o ∷ gs)) q _ h (word_open keys gs o ts w)
next_holds keys (WithKey n gs) (String v) q ts o h =
    moved keys (WithTree (Value (KeyPair n v)) gs) q _ h (key_pair keys gs n v ts o)
next_holds keys (WithTree e gs) Equals q ts o h = key_holds keys e gs q ts o h
next_holds keys (WithTree e gs) t q ts o h = tree_holds keys e gs t q ts o h
next_holds keys p t q ts o h = no_position h

all_hold : (keys : Bool) (p : Position) (before ts : List Lexeme) (q : Position) → Holds keys p before
    → lead_from keys (Some p) ts ≡ Some q → Holds keys q (before ++ ts)
all_hold keys p before [] q o h =
    rw (append-nil before) (moved keys p q before h o)
all_hold keys p before (t ∷ ts) q o h =
    elim (lead keys p t) as
    (λ z. lead keys p t ≡ z → lead_from keys z ts ≡ Some q → Holds keys q (before ++ (t ∷ ts))) [
      | None ↦ λ _ stops. no_position stops
      | Some u ↦ λ is goes.
          rw (← append_assoc before (t ∷ []) ts)
          (all_hold keys u (before ++ t ∷ []) ts q (next_holds keys p t u before o is) goes)
    ] refl h

whole_spelled : (keys : Bool) (e : Tree) (ts : List Lexeme) → EndsWith keys [] e ts → SpellsWith keys e ts
whole_spelled keys e ts (before, s, none, spelled, is) =
    rw is (rw none spelled)

-- what leads to an expression with nothing open spells it
pub led_spelled : (keys : Bool) (e : Tree) (ts : List Lexeme) → lead_from keys (Some start) ts ≡ Some (WithTree e [])
    → SpellsBy (may_of keys) SpellsLiteral e ts
led_spelled keys e ts h = whole_spelled keys e ts (all_hold keys start [] ts (WithTree e []) refl h)

pub tree_spelled : (e : Tree) (ts : List Lexeme) → steps Expressions (Some start) ts ≡ Some (WithTree e [])
    → Spells e ts
tree_spelled e ts h = led_spelled false e ts h
