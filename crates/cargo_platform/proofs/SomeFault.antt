-- In each grammar a text spells something, or has a fault, and not both.
use Rattle.std.proofs.Common.{◌≡◌, refl, subst, ℕ, Bool, true, false, List, [], ◌∷◌, ◌++◌, Option, Some, None, inl, inr}
use Rattle.std.proofs.Common.{◌⊎◌, append_assoc, append-nil, length}
use Rattle.std.specs.Prelude.{◌↔◌, IsTrue, IsUtf8}
use Rattle.std.specs.List.{last_or}
use Rattle.cargo_platform.specs.Tokens.{Lexeme, Placed}
use Rattle.cargo_platform.specs.Cut.{IsCut, lexemes, Item, Token, Lexical, Nothing, ComesBehind}
use Rattle.cargo_platform.specs.Spelling.{Grammar, Values, Expressions, IsAccepted, IsValueText, IsTreeText}
use Rattle.cargo_platform.specs.Faults.{IsCompletable, IsFaultPrefix, Fault, fault_of, IsRefused}
use Rattle.cargo_platform.specs.Trees.{CfgValue, Tree}
use Rattle.cargo_platform.specs.Walk.{walk, is_whole}
use Rattle.cargo_platform.proofs.Building.{stopped, completable_walks}
use Rattle.cargo_platform.proofs.Completing.{walked_completes, whole_accepted, accepted_whole}
use Rattle.cargo_platform.proofs.Prefixes.{lexemes-append, none_longer, longest_before}
use Rattle.cargo_platform.proofs.Paths.{next_before, comes_behind, end_is}
use Rattle.cargo_platform.proofs.SomeCut.{some_cut}
use Rattle.cargo_platform.proofs.Completable.{none_completable}

-- a text spells something of the grammar
abbrev SpellsSomething : Grammar → List ℕ → Type 0
SpellsSomething Values text = (c : CfgValue) × IsValueText text c
SpellsSomething Expressions text = (e : Tree) × IsTreeText text e

-- a text spells something of the grammar, or has a fault
abbrev SpellsOrIsRefused : Grammar → List ℕ → Type 0
SpellsOrIsRefused g text = SpellsSomething g text ⊎ ((fault : Fault) × IsRefused g text fault)

-- the tokens are completable, or no further tokens make them accepted
abbrev IsCompletableOrNot : Grammar → List Lexeme → Type 0
IsCompletableOrNot g ts = IsCompletable g ts ⊎ ((more : List Lexeme) → IsAccepted g (ts ++ more) → ⊥)

completable_or : (g : Grammar) (ts : List Lexeme) → IsCompletableOrNot g ts
completable_or g ts =
    elim (walk g ts) as (λ z. walk g ts ≡ z → IsCompletableOrNot g ts) [
      | None ↦ λ h. inr (λ more a. stopped g ts more h a)
      | Some s ↦ λ h. inl (walked_completes g ts s h)
    ] refl

-- an answer to whether the tokens are accepted
abbrev IsAcceptedOrNot : Grammar → List Lexeme → Type 0
IsAcceptedOrNot g ts = (accepted : Bool) × (IsTrue accepted ↔ IsAccepted g ts)

accepted_or : (g : Grammar) (ts : List Lexeme) → IsCompletable g ts → IsAcceptedOrNot g ts
accepted_or g ts p =
    let w = completable_walks g ts p in
    (is_whole w.0, (λ h. whole_accepted g w.0 ts h w.1, λ a. accepted_whole g w.0 ts w.1 a))

record SomePrefix (g : Grammar) (ts : List Placed) : Type 0 where
  pub prefix : List Placed
  pub after : List Placed
  pub is : IsFaultPrefix g ts prefix after

-- from a completable prefix on, the longest is found
prefix_from : (g : Grammar) (prefix behind : List Placed) → IsCompletable g (lexemes prefix)
    → SomePrefix g (prefix ++ behind)
prefix_from g prefix [] p = record {
  prefix = prefix;
  after = [];
  is = record { parts = refl; completable = p; longest = λ longer others h q. none_longer prefix longer others h };
}
prefix_from g prefix (t ∷ ts) p =
    elim (completable_or g (lexemes prefix ++ (t.token ∷ []))) [
      | inl q ↦
          rw (← append_assoc prefix (t ∷ []) ts)
          (prefix_from g (prefix ++ (t ∷ [])) ts (rw (lexemes-append prefix (t ∷ [])) q))
      | inr never ↦ record {
        prefix = prefix;
        after = t ∷ ts;
        is = record {
          parts = refl;
          completable = p;
          longest = λ longer others h q. longest_before g prefix ts t never
              longer others h q;
        };
      }
    ]

-- an accepted prefix at the end is the whole text
whole_text : (g : Grammar) (text : List ℕ) (prefix after : List Placed) (tail : ℕ) (last : Item)
    → ComesBehind text 0 (prefix ++ after) last tail → next_before last after ≡ Nothing → IsAccepted g (lexemes prefix)
    → SpellsSomething g text
whole_text g text prefix (t ∷ after) tail last cut h a = absurd cc
whole_text g text prefix [] tail last cut h a =
    let whole : ComesBehind text 0 prefix Nothing tail = rw (← h) (rw (← append-nil prefix) cut) in
    spelling g prefix
    (record { last = Nothing; no_token = refl; comes = rw (← end_is text 0 tail prefix whole) whole }) a
  where
    spelling : (g : Grammar) (ts : List Placed) → IsCut text ts (length text) → IsAccepted g (lexemes ts)
        → SpellsSomething g text
    spelling Values ts whole a = (a.0, (ts, whole, a.1))
    spelling Expressions ts whole a = (a.0, (ts, whole, a.1))

at_next : (g : Grammar) (text : List ℕ) (ts prefix after : List Placed) (tail : ℕ) (accepted : Bool)
    → IsCut text ts tail → IsFaultPrefix g ts prefix after → (IsTrue accepted ↔ IsAccepted g (lexemes prefix))
    → SpellsOrIsRefused g text
at_next g text ts prefix after tail accepted cut is told =
    let next : Item = next_before cut.last after in
    let whole = subst (λ (z : List Placed). ComesBehind text 0 z cut.last tail) is.parts cut.comes in
    let comes = comes_behind text 0 tail prefix after cut.last whole in
    elim (fault_of g text accepted (last_or None (lexemes prefix)) next) as
    (λ z. fault_of g text accepted (last_or None (lexemes prefix)) next ≡ z → SpellsOrIsRefused g text) [
      | Some fault ↦ λ table. inr (
        fault,
        record {
          ts = ts;
          tail = tail;
          cut = cut;
          prefix = prefix;
          after = after;
          is_prefix = is;
          next = next;
          place = comes.0;
          follows = comes.1;
          accepted = accepted;
          is_accepted = told;
          is_fault = table;
        },
      )
      | None ↦ λ table.
          let end = faultless g accepted (last_or None (lexemes prefix)) next table in
          inl (whole_text g text prefix after tail cut.last whole end.1 (told.0 end.0))
    ] refl
  where
    faultless : (g : Grammar) (accepted : Bool) (last : Option Lexeme) (next : Item)
        → fault_of g text accepted last next ≡ None → (accepted ≡ true) × (next ≡ Nothing)
    faultless g true last Nothing h = (refl, refl)
    faultless g true last (Token t) h = absurd cc
    faultless g true last (Lexical fault at) h = absurd cc
    faultless g false last (Token t) h = absurd cc
    faultless g false last (Lexical fault at) h = absurd cc
    faultless g false last Nothing h = absurd cc

-- a text of characters spells something of the grammar, or is refused
pub spells_or_is_refused : (g : Grammar) (text : List ℕ) → IsUtf8 text → SpellsOrIsRefused g text
spells_or_is_refused g text utf8 =
    let c = some_cut text utf8 in
    let f = prefix_from g [] c.0 (none_completable g) in
    let a = accepted_or g (lexemes f.prefix) f.is.completable in
    at_next g text c.0 f.prefix f.after c.1 a.0 c.2 f.is a.1
