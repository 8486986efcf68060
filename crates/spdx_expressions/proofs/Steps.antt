-- The reader, token by token.
use Rattle.std.proofs.Common.{◌≡◌, refl, sym, ap, ◌∙◌, subst, ℕ, suc, zero, Bool, true, false}
use Rattle.std.proofs.Common.{List, [], ◌∷◌, ◌++◌}
use Rattle.std.proofs.Common.{append_assoc, append-nil, Option, Some, None, IsTrue}
use Rattle.std.specs.Prelude.{MatchBool, ◌-◌}
use Rattle.std.proofs.Common.{arith}
use Rattle.spdx_expressions.specs.declared.error.Expected.{Expected}
use Rattle.spdx_expressions.specs.declared.error.Expected.TheVariants as expected
use Rattle.spdx_expressions.specs.declared.error.Refusal.{Refusal}
use Rattle.spdx_expressions.specs.declared.error.Refusal.TheVariants as refusal
use Rattle.spdx_expressions.specs.Tokens.{Lexeme, RightBracket, Placed, lexemes, tokens_from}
use Rattle.spdx_expressions.specs.declared.reader.Reader.{Reader}
use Rattle.std.specs.Str.{IsCharBoundary}
use Rattle.std.proofs.Common.{◌≤◌}
use Rattle.spdx_expressions.specs.Trees.{Term, Piece, Named, Close, pieces}
use Rattle.spdx_expressions.specs.Faults.{expected_behind}
use Rattle.spdx_expressions.specs.Inside.Reading.{State, Wants, Licensed, Excepts, Behind, step, run, start}
use Rattle.spdx_expressions.specs.Inside.Reading.{whole}
use Rattle.spdx_expressions.specs.Inside.Reading.{IsReached, DoNotFit, IsOf, IsStopped, IsBehind, IsExcepted}
use Rattle.spdx_expressions.specs.Inside.Reading.{LacksException}
use Rattle.spdx_expressions.specs.Inside.Reading.{at, behind, finished, expected_in, with_exception, IsReading, IsRead}
use Rattle.spdx_expressions.specs.Inside.Reading.{left}

pub run-append : (s : Option State) (ts us : List Lexeme) → run s (ts ++ us) ≡ run (run s ts) us
run-append None ts us = refl
run-append (Some s) [] us = refl
run-append (Some s) (t ∷ ts) us = run-append (step s t) ts us

pub lexemes-append : (ts us : List Placed) → lexemes (ts ++ us) ≡ lexemes ts ++ lexemes us
lexemes-append [] us = refl
lexemes-append (t ∷ ts) us = ap (λ (l : List Lexeme). t.token ∷ l) (lexemes-append ts us)

-- one token further
pub reach_step : (text : List ℕ) (t : Placed) (ts : List Placed) (s new : State) → IsReached text (t ∷ ts) s
    → step s t.token ≡ Some new → IsReached text ts new
reach_step text t ts s new r is = record {
  before = r.before ++ t ∷ [];
  cut = r.cut ∙ sym (append_assoc r.before (t ∷ []) ts);
  leads =
      ap (run (Some start)) (lexemes-append r.before (t ∷ []))
      ∙ run-append (Some start) (lexemes r.before) (t.token ∷ [])
      ∙ ap (λ (o : Option State). run o (t.token ∷ [])) r.leads
      ∙ ends (step s t.token) is;
}
  where
    ends : (o : Option State) → o ≡ Some new → run o [] ≡ Some new
    ends None h = absurd cc
    ends (Some s) h = h

pub reach_by : (text : List ℕ) (after : List Placed) (t : Placed) (ts : List Placed) (s new : State)
    → IsReached text after s → after ≡ t ∷ ts → step s t.token ≡ Some new → IsReached text ts new
reach_by text after t ts s new r is to =
    let P : List Placed → Type 0 = λ l. IsReached text l s in
    reach_step text t ts s new (subst P is r) to

-- ---- a choice by a test

pub at_true : (w : Bool) (P Q : Type 0) → w ≡ true → MatchBool w P Q → P
at_true true P Q is h = h
at_true false P Q is h = absurd cc

pub at_false : (w : Bool) (P Q : Type 0) → w ≡ false → MatchBool w P Q → Q
at_false false P Q is h = h
at_false true P Q is h = absurd cc

pub by_false : (w : Bool) (P Q : Type 0) → w ≡ false → Q → MatchBool w P Q
by_false false P Q is h = h
by_false true P Q is h = absurd cc

-- ---- where the tokens do not fit

pub stopped : (text : List ℕ) (s : State) (after : List Placed) (wanted : Expected) (r : Refusal)
    → IsReached text after s → DoNotFit s after → expected_in s.mode s.depth ≡ wanted → IsOf text after wanted r
    → IsStopped text r
stopped text s after wanted (refusal.Memory e) reached fits is of = tt
stopped text s after wanted (refusal.Unexpected expected found span) reached fits is of =
    (s, after, reached, fits, (of.0 ∙ sym is, of.1, of.2))

pub no_end : (s : State) (after : List Placed) → after ≡ [] → whole s ≡ None → DoNotFit s after
no_end s after is none = let P : List Placed → Type 0 = DoNotFit s in subst P (sym is) none

pub no_token : (s : State) (after : List Placed) (t : Placed) (ts : List Placed) → after ≡ t ∷ ts
    → step s t.token ≡ None → DoNotFit s after
no_token s after t ts is none = let P : List Placed → Type 0 = DoNotFit s in subst P (sym is) none

-- ---- after an operand

pub is_behind : (n : ℕ) (ps : List Piece) (after : List Placed)
    → IsBehind (record { mode = Behind; depth = n; parts = ps }) after n ps
is_behind n ps after = record { depth = refl; expected = refl; whole = refl; next = λ t ts e. refl }

pub open_end : (n : ℕ) (ps : List Piece) → (n ≡ 0 → ⊥) → finished Behind n ps ≡ None
open_end zero ps h = absurd (h refl)
open_end (suc n) ps h = refl

pub open_expected : (n : ℕ) → (n ≡ 0 → ⊥) → expected_behind n ≡ expected.OperatorOrClose
open_expected zero h = absurd (h refl)
open_expected (suc n) h = refl

pub close_step : (n : ℕ) (ps : List Piece) → (n ≡ 0 → ⊥)
    → behind n ps RightBracket ≡ at Behind (n - 1) (ps ++ Close ∷ [])
close_step zero ps h = absurd (h refl)
close_step (suc n) ps h =
    let is : suc n - 1 ≡ n = omega arith in
    rw is refl

-- ---- the reader, seen from what its fields are

pub reads_behind : (r : Reader) (text : List ℕ) (place n : ℕ) (ps : List Piece) (s : State)
    → r.text.now ≡ text → r.place ≡ place → r.depth ≡ n → r.wanted ≡ false → pieces r.parts.items ≡ ps
    → IsCharBoundary text place → n ≤ place → IsReached text (left text place) s
    → IsBehind s (left text place) n ps → IsReading r
reads_behind r text place n ps s is_text is_place is_depth is_wanted is_parts boundary shallow reached behind =
    rw (is_text, is_place, is_depth, is_wanted, is_parts) (boundary, shallow, s, reached, behind)

-- a licence, `WITH` and an exception are read
pub reach_excepted : (text : List ℕ) (ts behind : List Placed) (word : List ℕ) (t : Term) (n : ℕ) (ps : List Piece)
    → IsExcepted ts word behind → IsReached text ts (record { mode = Licensed t; depth = n; parts = ps })
    → IsReached text behind (record { mode = Behind; depth = n; parts = ps ++ Named (with_exception t word) ∷ [] })
reach_excepted text ts behind word t n ps e r =
    let with_reached = reach_by text ts e.with (e.name ∷ behind) (record { mode = Licensed t; depth = n; parts = ps })
    (record { mode = Excepts t; depth = n; parts = ps }) r e.comes (rw e.is_with refl) in
    reach_step text e.name behind (record { mode = Excepts t; depth = n; parts = ps })
    (record { mode = Behind; depth = n; parts = ps ++ Named (with_exception t word) ∷ [] }) with_reached
    (rw (e.is_word, e.is_identifier) refl)

pub by_true : (w : Bool) (P Q : Type 0) → w ≡ true → P → MatchBool w P Q
by_true true P Q is h = h
by_true false P Q is h = absurd cc

-- the reader wants an operand
pub wants : (r : Reader) → r.wanted ≡ true → IsReading r → IsReached r.text.now (left r.text.now r.place)
    (record { mode = Wants; depth = r.depth; parts = pieces r.parts.items })
wants r is reading =
    let P : State → Type 0 = IsReached r.text.now (left r.text.now r.place) in
    subst P (at_true r.wanted _ _ is reading.4) reading.3

-- an operand ended
pub BehindState : Reader → Type 0
BehindState r =
    (s : State) × IsReached r.text.now (left r.text.now r.place) s
    × IsBehind s (left r.text.now r.place) r.depth (pieces r.parts.items)

pub ended : (r : Reader) → r.wanted ≡ false → IsReading r → BehindState r
unfolding BehindState
ended r is reading = (reading.2, reading.3, at_false r.wanted _ _ is reading.4)

pub stopped_at_end : (r : Reader) (e : Refusal) → BehindState r → left r.text.now r.place ≡ [] → (r.depth ≡ 0 → ⊥)
    → IsOf r.text.now (left r.text.now r.place) expected.OperatorOrClose e → IsStopped r.text.now e
unfolding BehindState
stopped_at_end r e b none nested of =
    stopped r.text.now b.0 (left r.text.now r.place) expected.OperatorOrClose e b.1
    (no_end b.0 _ none (b.2.whole ∙ open_end r.depth _ nested))
    (b.2.expected ∙ open_expected r.depth nested) of

pub stopped_at_token : (r : Reader) (e : Refusal) (t : Placed) (ts : List Placed) (wanted : Expected) → BehindState r
    → left r.text.now r.place ≡ t ∷ ts → behind r.depth (pieces r.parts.items) t.token ≡ None
    → expected_behind r.depth ≡ wanted → IsOf r.text.now (left r.text.now r.place) wanted e → IsStopped r.text.now e
unfolding BehindState
stopped_at_token r e t ts wanted b some none is of =
    stopped r.text.now b.0 (left r.text.now r.place) wanted e b.1
    (no_token b.0 _ t ts some (b.2.next t ts some ∙ none))
    (b.2.expected ∙ is) of

pub reach_behind : (r : Reader) (t : Placed) (ts : List Placed) (new : State) → BehindState r
    → left r.text.now r.place ≡ t ∷ ts → behind r.depth (pieces r.parts.items) t.token ≡ Some new
    → IsReached r.text.now ts new
unfolding BehindState
reach_behind r t ts new b some to =
    reach_by r.text.now (left r.text.now r.place) t ts b.0 new b.1 some (b.2.next t ts some ∙ to)

-- the text ended
pub read_whole : (r : Reader) → BehindState r → left r.text.now r.place ≡ [] → r.depth ≡ 0
    → IsRead r.text.now (pieces r.parts.items)
unfolding BehindState
read_whole r b none flat =
    let e : tokens_from 0 r.text.now ≡ b.1.before = b.1.cut ∙ ap (λ (l : List Placed). b.1.before ++ l) none
    ∙ append-nil _ in (
      b.0,
      ap (λ (l : List Placed). run (Some start) (lexemes l)) e ∙ b.1.leads,
      b.2.whole ∙ ap (λ (n : ℕ). finished Behind n (pieces r.parts.items)) flat,
    )

pub is_false : (b : Bool) → IsTrue b → b ≡ false → ⊥
is_false b holds h = let e : true ≡ false = sym holds ∙ h in cc

-- no identifier follows `WITH`
pub stopped_at_exception : (text : List ℕ) (after : List Placed) (t : Term) (n : ℕ) (ps : List Piece) (e : Refusal)
    → IsReached text after (record { mode = Licensed t; depth = n; parts = ps }) → LacksException text after e
    → IsStopped text e
stopped_at_exception text after t n ps e r lacks =
    stopped text (record { mode = Excepts t; depth = n; parts = ps }) lacks.rest expected.Exception e
    (reach_by text after lacks.with lacks.rest (record { mode = Licensed t; depth = n; parts = ps })
    (record { mode = Excepts t; depth = n; parts = ps }) r lacks.comes (rw lacks.is_with refl))
    (lacks.stops t n ps) refl lacks.refusal
