-- From the released grammar of expressions to today's.
use Rattle.std.proofs.Common.{◌≡◌, refl, sym, ap, ◌∙◌, ℕ, Bool, true, false, ◌&&◌, ◌||◌, List, [], ◌∷◌}
use Rattle.std.proofs.Common.{Option, Some, None, codes}
use Rattle.std.specs.Prelude.{bytes_eq, if◌then◌else◌}
use Rattle.std.specs.List.{list_any}
use Rattle.std.proofs.lemmas.List.Folds.{list_any-append}
use Rattle.std.proofs.lemmas.Option.{same_Some}
use Rattle.cargo_platform.specs.Tokens.{Lexeme, LeftParen, RightParen, Ident, Equals, String}
use Rattle.cargo_platform.specs.Cut.{lexemes}
use Rattle.cargo_platform.specs.Trees.{Name, Alone, KeyPair, Tree, Not, All, Any, Value, True, False, Trees}
use Rattle.cargo_platform.specs.Trees.{none, tree}
use Rattle.cargo_platform.specs.Spelling.{Expressions, IsAccepted}
use Rattle.cargo_platform.specs.Faults.{Fault, IsCompletable, IsCompletableBy}
use Rattle.cargo_platform.specs.Walk.{Opening, Negated, Listed, Position, Wanting, WithWord, WithKey, WithTree, at_key}
use Rattle.cargo_platform.specs.Walk.{is_whole, is_lone, state_of}
use Rattle.cargo_platform.specs.Earlier.{IsAcceptedReleased, released, released_members}
use Rattle.cargo_platform.specs.Warnings.{values, members_values}
use Rattle.cargo_platform.specs.ChangeLaws.{is_literal_key, SpelledReleasedText, IsTextRefusedForLiteralKeys}
use Rattle.cargo_platform.specs.ChangeLaws.{KeepsFault, ComesNoLater}
use Rattle.cargo_platform.proofs.OneCut.{one_cut_from}
use Rattle.cargo_platform.proofs.Walk.{none_some}
use Rattle.cargo_platform.proofs.Building.{key_by, lead, lead_from, state_at, walk_state, whole_leads}
use Rattle.cargo_platform.proofs.Building.{completable_walks}
use Rattle.cargo_platform.proofs.Completing.{ends_whole, whole_accepted}
use Rattle.cargo_platform.proofs.Changes.{was_spelled, from_released, spelled_released, accepted_as_released}
use Rattle.cargo_platform.proofs.Changes.{refused_for_literal_keys}

-- ---- what is spelled

pub spelled_text : (text : List ℕ) → SpelledReleasedText text
spelled_text text d e p =
    let was = spelled_released (lexemes p.0) d e (was_spelled e (lexemes p.0) p.2) in (
      λ q.
          let same : q.0 ≡ p.0 = (one_cut_from text q.0 p.0 0 _ _ q.1 p.1).0 in
          was.0 (rw (← same) q.2),
      λ is. (p.0, p.1, was.1 is),
    )

-- ---- keys

abbrev has_key : Tree → Bool
has_key e = list_any is_literal_key (values e)

name_kept : (t f : Bool) (n : Name) → has_key (if t then True else (if f then False else Value (Alone n))) ≡ false
name_kept true f n = refl
name_kept false true n = refl
name_kept false false n = refl

mutual
  -- the same literals are keys
  keys_kept : (e : Tree) → has_key (released e) ≡ has_key e
  keys_kept (Not e) = keys_kept e
  keys_kept (All es) = members_keys_kept es
  keys_kept (Any es) = members_keys_kept es
  keys_kept (Value (Alone n)) =
      name_kept (n.raw && bytes_eq n.name (codes "true")) (n.raw && bytes_eq n.name (codes "false")) n
  keys_kept (Value (KeyPair k v)) = refl
  keys_kept True = refl
  keys_kept False = refl

  members_keys_kept : (es : Trees)
      → list_any is_literal_key (members_values (released_members es)) ≡ list_any is_literal_key (members_values es)
  members_keys_kept none = refl
  members_keys_kept (tree e es) =
      list_any-append is_literal_key (values (released e)) (members_values (released_members es))
      ∙ (λ i. keys_kept e i || members_keys_kept es i)
      ∙ sym (list_any-append is_literal_key (values e) (members_values es))

pub text_refused : (text : List ℕ) → IsTextRefusedForLiteralKeys text
text_refused text d q =
    let r = from_released d (lexemes q.0) q.2 in
    let keys : has_key r.0 ≡ has_key d = sym (keys_kept r.0) ∙ ap has_key r.2 in
    let law = refused_for_literal_keys (lexemes q.0) r.0 r.1 in (
      λ no. sym keys ∙ law.0 (λ a. no a.0 (q.0, q.1, a.1)),
      λ is e p.
          let same : p.0 ≡ q.0 = (one_cut_from text p.0 q.0 0 _ _ p.1 q.1).0 in
          law.1 (keys ∙ is) (e, rw (← same) p.2),
    )

-- ---- faults

pub nowhere : (q : Position) → None ≡ Some q → ⊥
nowhere q h = cc

key_kept : (e : Tree) (gs : List Opening) (q : Position) → at_key (key_by false e) gs ≡ Some q
    → at_key (key_by true e) gs ≡ Some q
key_kept (Value (Alone n)) gs q h = h
key_kept (Value (KeyPair k v)) gs q h = h
key_kept (Not e) gs q h = h
key_kept (All es) gs q h = h
key_kept (Any es) gs q h = h
key_kept True gs q h = absurd (nowhere q h)
key_kept False gs q h = absurd (nowhere q h)

-- each step that is taken where literals are no keys is taken where they are
step_kept : (p : Position) (t : Lexeme) (q : Position) → lead false p t ≡ Some q → lead true p t ≡ Some q
step_kept (Wanting gs) (Ident raw name) q h = h
step_kept (Wanting (Listed all es ∷ gs)) RightParen q h = h
step_kept (Wanting (Listed all es ∷ gs)) t q h = h
step_kept (Wanting (Negated ∷ gs)) t q h = h
step_kept (Wanting []) t q h = h
step_kept (WithWord o gs) LeftParen q h = h
step_kept (WithWord o gs) t q h = h
step_kept (WithKey n gs) (String v) q h = h
step_kept (WithKey n gs) t q h = h
step_kept (WithTree e gs) Equals q h = key_kept e gs q h
step_kept (WithTree e gs) t q h = h

pub steps_kept : (p : Position) (ts : List Lexeme) (q : Position) → lead_from false (Some p) ts ≡ Some q
    → lead_from true (Some p) ts ≡ Some q
steps_kept p [] q h = h
steps_kept p (t ∷ ts) q h =
    elim (lead false p t) as (λ o. lead false p t ≡ o → lead_from true (lead true p t) ts ≡ Some q) [
      | None ↦ λ is. absurd (nowhere q (sym (ap (λ o. lead_from false o ts) is) ∙ h))
      | Some r ↦ λ is.
          ap (λ o. lead_from true o ts) (step_kept p t r is)
          ∙ steps_kept r ts q (sym (ap (λ o. lead_from false o ts) is) ∙ h)
    ] refl

pub was_accepted : (ts : List Lexeme) → IsAccepted Expressions ts → IsAcceptedReleased ts
was_accepted ts a = (accepted_as_released ts).0 (a.0, was_spelled a.0 ts a.1)

pub was_completable : (ts : List Lexeme) → IsCompletable Expressions ts → IsCompletableBy IsAcceptedReleased ts
was_completable ts c = (c.0, c.1, was_accepted _ c.2)

-- what was accepted still is, if it can be completed
pub still_accepted : (ts : List Lexeme) → IsAcceptedReleased ts → IsCompletable Expressions ts
    → IsAccepted Expressions ts
still_accepted ts a c =
    let t = (accepted_as_released ts).1 a in
    let start : Option Position = Some (Wanting []) in
    elim (lead_from false start ts) as (λ o. lead_from false start ts ≡ o → IsAccepted Expressions ts) [
      | None ↦ λ is.
          let s = completable_walks Expressions ts c in
          absurd (none_some (sym (walk_state Expressions ts ∙ ap state_at is) ∙ s.1))
      | Some q ↦ λ is.
          let here : q ≡ WithTree t.0 [] =
          same_Some _ _ (sym (steps_kept (Wanting []) ts q is) ∙ whole_leads true t.0 ts t.1) in
          whole_accepted Expressions (state_of q) ts
          (ap (λ p. is_whole (state_of p)) here ∙ ends_whole (is_lone t.0)) (walk_state Expressions ts ∙ ap state_at is)
    ] refl

pub keeps_fault : (text : List ℕ) (fault : Fault) → KeepsFault text fault
keeps_fault text fault r c = record {
  ts = r.ts;
  tail = r.tail;
  cut = r.cut;
  prefix = r.prefix;
  after = r.after;
  is_prefix = record {
    parts = r.is_prefix.parts;
    completable = c;
    longest = λ longer others h k. r.is_prefix.longest longer others h (was_completable (lexemes longer) k);
  };
  next = r.next;
  place = r.place;
  follows = r.follows;
  accepted = r.accepted;
  is_accepted = (
    λ a. still_accepted (lexemes r.prefix) (r.is_accepted.0 a) c,
    λ a. r.is_accepted.1 (was_accepted (lexemes r.prefix) a),
  );
  is_fault = r.is_fault;
}

pub comes_no_later : (text : List ℕ) (before now : Fault) → ComesNoLater text before now
comes_no_later text before now r q =
    let same : q.ts ≡ r.ts = (one_cut_from text q.ts r.ts 0 q.tail r.tail q.cut r.cut).0 in
    r.is_prefix.longest q.prefix q.after (sym same ∙ q.is_prefix.parts)
    (was_completable (lexemes q.prefix) q.is_prefix.completable)
