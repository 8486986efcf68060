-- Where a reader stops is the first fault.
use Rattle.std.proofs.Common.{◌≡◌, refl, ap, subst, ◌∙◌, ℕ, List, [], ◌∷◌, Option, Some, None, length}
use Rattle.std.specs.declared.ops.Range.{Range}
use Rattle.std.proofs.lemmas.Option.{same_Some}
use Rattle.std.specs.List.{last_or}
use Rattle.std.specs.Prelude.{IsUtf8}
use Rattle.cargo_platform.specs.declared.refusal.Refusal.{Refusal}
use Rattle.cargo_platform.specs.Tokens.{Placed}
use Rattle.cargo_platform.specs.Cut.{AreSpaces, IsCut, lexemes, Item, Nothing, Comes, ComesBehind}
use Rattle.cargo_platform.specs.Spelling.{Grammar}
use Rattle.cargo_platform.specs.Faults.{Fault, fault_of, span_of, IsRefusedAt}
use Rattle.cargo_platform.specs.Walk.{Position, start, step, is_whole, state_of}
use Rattle.cargo_platform.specs.Inside.Ahead.{Ahead, NextIs, Path}
use Rattle.cargo_platform.specs.Inside.Refusals.{FaultAt, placed_fault}
use Rattle.cargo_platform.specs.Inside.Parsing.{IsStop, IfFault, StopsAt, Stops}
use Rattle.cargo_platform.proofs.Building.{state_at, next_state, led_state}
use Rattle.cargo_platform.proofs.Prefixes.{goes_on, refused_walked_at}
use Rattle.cargo_platform.proofs.SomeCut.{some_cut}
use Rattle.cargo_platform.proofs.Paths.{next_before, first_left, end_is, behind_spaces, path_comes}
use Rattle.cargo_platform.proofs.Paths.{path_text}
use Rattle.cargo_platform.proofs.Parsing.{if_fault}

goes_not_on : (g : Grammar) (left : List Placed) (p : Position) (last next : Item) → next ≡ next_before last left
    → IsStop g p next → goes_on g (state_of p) left ≡ None
goes_not_on g [] p last next f h = refl
goes_not_on g (t ∷ us) p last next f h =
    let none : step g p t.token ≡ None = rw f at h in
    next_state g p t.token ∙ ap state_at none

-- the item that comes next at the end of a path through a text from its start on, before which there may be spaces
way_comes : (text : List ℕ) (l m : Ahead) (us : List Placed) (i : Item) (to : ℕ) → l.text ≡ text
    → AreSpaces text 0 l.place → Path l us m → Comes m.text m.place i to → ComesBehind text 0 us i to
way_comes text l m us i to same spaces path c =
    behind_spaces text 0 l.place to us i spaces (rw (← same) (path_comes l m us i to path c))

-- the fault and its span, each by itself
parts_of : (span : Range ℕ) (o : Option Fault) (f : FaultAt) → placed_fault span o ≡ Some f
    → (o ≡ Some f.fault) × (span ≡ f.span)
parts_of span None f h = absurd cc
parts_of span (Some e) f h =
    let same = same_Some _ _ h in (ap (λ (z : FaultAt). Some z.fault) same, ap (λ (z : FaultAt). z.span) same)

-- where a reader of the whole text stops is the first fault
pub stops_refused : (g : Grammar) (text : List ℕ) (l : Ahead) (r : Refusal) → IsUtf8 text → l.text ≡ text
    → AreSpaces text 0 l.place → Stops g l start r
    → IfFault r (λ f. IsRefusedAt g text f.fault (Some f.span))
stops_refused g text l r utf8 same spaces h =
    if_fault r (StopsAt g l start) (λ f. IsRefusedAt g text f.fault (Some f.span)) (λ f a. at f a) h
  where
    at : (f : FaultAt) → StopsAt g l start f → IsRefusedAt g text f.fault (Some f.span)
    at f a =
        let s = state_of a.q in
        let w = way_comes text l a.stop a.us a.next a.comes.to same spaces a.path a.comes.comes in
        let c = some_cut text utf8 in
        let left = first_left text 0 a.comes.to c.1 a.us c.0 a.next c.2.last c.2.no_token c.2.comes w in
        let cut = subst (λ (z : List Placed). ComesBehind text 0 z c.2.last c.1) left.1 c.2.comes in
        let both = parts_of (span_of text (is_whole s) a.next)
        (fault_of g text (is_whole s) (last_or None (lexemes a.us)) a.next) f
        (rw (path_text l a.stop a.us a.path ∙ same) at (a.is (lexemes a.us) a.leads)) in
        rw (← both.1)
        (rw left.2
        (refused_walked_at g text a.us left.0 c.2.last c.1 s f.fault c.2.no_token cut
        (led_state g (lexemes a.us) a.q a.leads) (goes_not_on g left.0 a.q c.2.last a.next left.2 a.stops)
        (rw (← left.2) both.0)))

-- tokens that were taken from the start up to the end are those of the cut
pub path_cut : (text : List ℕ) (l m : Ahead) (us : List Placed) → l.text ≡ text → AreSpaces text 0 l.place
    → Path l us m → NextIs m Nothing → IsCut text us (length text)
path_cut text l m us same spaces path done =
    let w = way_comes text l m us Nothing done.to same spaces path done.comes in
    record { last = Nothing; no_token = refl; comes = rw (← end_is text 0 done.to us w) w }
