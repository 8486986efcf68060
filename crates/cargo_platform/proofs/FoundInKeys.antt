-- The span of a refused key is in the key.
use Rattle.std.proofs.Common.{◌≡◌, refl, sym, ap, subst, ◌∙◌, ℕ, ◌+◌, Bool, true, false, List, ◌++◌, codes, length}
use Rattle.std.proofs.Common.{length-append, take, drop, Option, Some, None, inl, inr, IsUtf8, lit≤, arith}
use Rattle.std.specs.List.{last_or}
use Rattle.std.specs.Str.{IsCharBoundary}
use Rattle.std.specs.declared.ops.Range.{Range}
use Rattle.std.proofs.Math.Seq.{drop-append_seam}
use Rattle.std.proofs.lemmas.List.{take-append-le}
use Rattle.std.proofs.lemmas.Option.{same_Some}
use Rattle.std.proofs.lemmas.Str.{IsUtf8-take, IsCharBoundary-from_take, IsCharBoundary-from_rest}
use Rattle.cargo_platform.specs.declared.tokens.TokenFaultKind.TheVariants as lexical
use Rattle.cargo_platform.specs.Tokens.{Lexeme}
use Rattle.cargo_platform.specs.Cut.{lexemes, Item, Token, Lexical, Nothing}
use Rattle.cargo_platform.specs.Spelling.{Grammar, Expressions}
use Rattle.cargo_platform.specs.Faults.{Fault, fault_of, from_to}
use Rattle.cargo_platform.specs.FaultLaws.{IsSpanIn}
use Rattle.cargo_platform.specs.Platforms.{IsRefusedConditionAt}
use Rattle.cargo_platform.specs.KeySpans.{is_of_name, BeginsIn, further, IsSpanBy, IsFoundInKey}
use Rattle.cargo_platform.proofs.SomeCut.{ascii_sides}
use Rattle.cargo_platform.proofs.ConditionFaults.{inner_utf8}
use Rattle.cargo_platform.proofs.ConditionSpans.{condition_placed_in}

-- a fault of tokens is not a fault of a target name
no_name : (g : Grammar) (text : List ℕ) (accepted : Bool) (last : Option Lexeme) (next : Item) (fault : Fault)
    → fault_of g text accepted last next ≡ Some fault → is_of_name fault ≡ false
no_name g text true last (Token t) fault is = sym (ap is_of_name (same_Some _ _ is))
no_name g text true last (Lexical k at) fault is = sym (ap is_of_name (same_Some _ _ is))
no_name g text true last Nothing fault is = absurd cc
no_name g text false last (Token t) fault is = sym (ap is_of_name (same_Some _ _ is))
no_name g text false last (Lexical lexical.UnterminatedString at) fault is = sym (ap is_of_name (same_Some _ _ is))
no_name g text false last (Lexical (lexical.UnexpectedChar c) at) fault is = sym (ap is_of_name (same_Some _ _ is))
no_name g text false last (Lexical lexical.MissingIdentifier at) fault is = sym (ap is_of_name (same_Some _ _ is))
no_name g text false last Nothing fault is = sym (ap is_of_name (same_Some _ _ is))

-- a place in a text is one in a larger text, which has it after others
place_behind : (key front text back : List ℕ) (at : ℕ) → key ≡ front ++ (text ++ back) → IsUtf8 text
    → IsUtf8 (text ++ back) → IsCharBoundary text at → IsCharBoundary key (at + length front)
place_behind key front text back at parts utf8 closed b =
    let size : length key ≡ length front + length (text ++ back) =
    ap length parts ∙ length-append front (text ++ back) in
    let before : take at (text ++ back) ≡ take at text = take-append-le at text back b.0 in
    let behind = IsCharBoundary-from_take (text ++ back) at closed
    (omega (arith, b.0, length-append text back))
    (subst (λ (z : List ℕ). IsUtf8 z) (sym before) (IsUtf8-take text at utf8 b)) in
    let rest : drop (length front) key ≡ text ++ back =
    ap (drop (length front)) parts ∙ drop-append_seam front (text ++ back) in
    let sum : length front + at ≡ at + length front = omega arith in
    subst (λ (z : ℕ). IsCharBoundary key z) sum
    (IsCharBoundary-from_rest key (length front) at (omega (arith, size))
    (subst (λ (z : List ℕ). IsCharBoundary z at) (sym rest) behind))

-- so is a span
pub span_behind : (key front text back : List ℕ) (span : Range ℕ) → key ≡ front ++ (text ++ back) → IsUtf8 text
    → IsUtf8 (text ++ back) → IsSpanIn text span → IsSpanIn key (further (length front) span)
span_behind key front text back span parts utf8 closed s = (
  omega (arith, s.0),
  place_behind key front text back span.start parts utf8 closed s.1,
  place_behind key front text back span.end parts utf8 closed s.2,
)

-- where the text of a span is in a larger one, at one place or more, the span is in that one
pub found_by : (Begins : ℕ → Type 0) (key text : List ℕ) (span : Range ℕ) (found : Option (Range ℕ))
    → IsSpanIn text span → ((place : ℕ) × Begins place)
    → ((place : ℕ) → Begins place → IsSpanIn key (further place span)) → IsSpanBy Begins text (Some span) found
    → (at : Range ℕ) × (found ≡ Some at) × IsSpanIn key at
found_by Begins key text span None within there inside lies = absurd (lies within there.0 there.1)
found_by Begins key text span (Some at) within there inside lies =
    let it = lies within in
    (at, refl, subst (IsSpanIn key) (sym it.2) (inside it.0 it.1))

-- the span of a text is in the key in which the text is
span_inside : (key text : List ℕ) (fault : Fault) (span : Range ℕ) → IsUtf8 key → IsSpanIn text span → (place : ℕ)
    → BeginsIn key text fault place → IsSpanIn key (further place span)
span_inside key text fault span utf8 s place (inl a) =
    let start : span.start ≡ span.start + place = omega (arith, a.2) in
    let end : span.end ≡ span.end + place = omega (arith, a.2) in
    subst (λ (z : List ℕ). IsSpanIn z (further place span)) (sym a.1)
    (subst (λ (z : Range ℕ). IsSpanIn text z) (λ i. from_to (start i) (end i)) s)
span_inside key text fault span utf8 s place (inr a) =
    let closed = (ascii_sides 0x28 key (codes "cfg") (text ++ codes ")") (lit≤ tt) utf8 a.1).1 in
    subst (λ (z : ℕ). IsSpanIn key (further z span)) (sym a.2)
    (span_behind key (codes "cfg(") text (codes ")") span a.1 (inner_utf8 key text utf8 a.1) closed s)

-- the text of a refused condition is in the key
stands : (key text : List ℕ) (fault : Fault) (span : Option (Range ℕ)) → IsRefusedConditionAt key text fault span
    → (place : ℕ) × BeginsIn key text fault place
stands key text fault span (inl a) =
    let r = a.1.0 in
    let last = last_or None (lexemes r.prefix) in
    (4, inr (no_name Expressions text r.accepted last r.next fault r.is_fault, a.0, refl))
stands key text fault span (inr a) = (0, inl (ap is_of_name a.2.2, sym a.1, refl))

pub found_in_key : (key text : List ℕ) (fault : Fault) (span : Range ℕ) (found : Option (Range ℕ)) → IsUtf8 key
    → IsFoundInKey key text fault span found
found_in_key key text fault span found utf8 refused lies =
    let within = condition_placed_in key text fault span utf8 refused in
    found_by (BeginsIn key text fault) key text span found within (stands key text fault (Some span) refused)
    (span_inside key text fault span utf8 within) lies
