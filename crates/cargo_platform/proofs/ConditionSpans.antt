-- Where a text goes wrong that is refused as a condition.
use Rattle.std.proofs.Common.{◌≡◌, sym, ap, ◌∙◌, subst, ℕ, List, Option, Some, inl, inr, IsUtf8, arith}
use Rattle.std.specs.declared.ops.Range.{Range}
use Rattle.std.proofs.lemmas.Option.{same_Some}
use Rattle.std.proofs.lemmas.Str.{IsUtf8-drop, IsCharBoundary-past_char}
use Rattle.cargo_platform.specs.Spelling.{Expressions}
use Rattle.cargo_platform.specs.Faults.{Fault, IsRefusedAt, from_to}
use Rattle.cargo_platform.specs.FaultLaws.{IsSpanIn}
use Rattle.cargo_platform.specs.Platforms.{IsRefusedCondition, IsRefusedConditionAt, IsTargetSpan, IsFirstRefused}
use Rattle.cargo_platform.specs.Platforms.{IsTargetName, IsBehindName}
use Rattle.cargo_platform.proofs.Conditions.{one_inner}
use Rattle.cargo_platform.proofs.ConditionFaults.{inner_utf8, one_first_refused}
use Rattle.cargo_platform.proofs.Spans.{one_span, placed_in}
use Rattle.cargo_platform.proofs.TargetNames.{one_first_place}
use Rattle.std.proofs.Common.{◌+◌, ◌≤◌, ◌++◌, length, length-append, take, drop, encode_utf8}
use Rattle.std.specs.Char.{len_utf8}
use Rattle.std.proofs.Math.Seq.{take-append_seam, drop-append_seam}
use Rattle.std.proofs.lemmas.Str.{IsCharBoundary-end, IsCharBoundary-from_take}

-- apart from its span
pub without_span : (text orig : List ℕ) (fault : Fault) (span : Option (Range ℕ))
    → IsRefusedConditionAt text orig fault span → IsRefusedCondition text orig fault
without_span text orig fault span (inl a) = inl (a.0, a.1.0)
without_span text orig fault span (inr a) = inr (a.0, a.1, a.2)

one_target_span : (text : List ℕ) (s t : Range ℕ) → IsTargetSpan text s → IsTargetSpan text t → s ≡ t
one_target_span text s t (inl a) (inl b) = a.1 ∙ sym b.1
one_target_span text s t (inl a) (inr b) = absurd (b.0 a.0)
one_target_span text s t (inr a) (inl b) = absurd (a.0 b.0)
one_target_span text s t (inr a) (inr b) =
    let same = one_first_refused text a.1.0 b.1.0 a.1.1.0 b.1.1.0 in
    let at = one_first_place text a.1.0 b.1.0 a.1.1.0 b.1.1.0 same in
    a.1.1.1 ∙ (λ i. from_to (at i) (at i + len_utf8 (same i))) ∙ sym b.1.1.1

pub one_condition_span : (text o p : List ℕ) (e f : Fault) (s t : Option (Range ℕ)) → IsRefusedConditionAt text o e s
    → IsRefusedConditionAt text p f t → s ≡ t
one_condition_span text o p e f s t (inl a) (inl b) =
    let same = one_inner text o p a.0 b.0 in
    one_span Expressions p e f s t (subst (λ (z : List ℕ). IsRefusedAt Expressions z e s) same a.1) b.1
one_condition_span text o p e f s t (inl a) (inr b) = absurd (b.0 o a.0)
one_condition_span text o p e f s t (inr a) (inl b) = absurd (a.0 p b.0)
one_condition_span text o p e f s t (inr a) (inr b) =
    a.3.2 ∙ ap (λ (z : Range ℕ). Some z) (one_target_span text a.3.0 b.3.0 a.3.1 b.3.1) ∙ sym b.3.2

-- the text before the first refused character, and after it
front_is : (text : List ℕ) (c : ℕ) (first : IsFirstRefused text c) → take (length first.0) text ≡ first.0
front_is text c first = ap (take (length first.0)) first.2 ∙ take-append_seam first.0 first.1

back_is : (text : List ℕ) (c : ℕ) (first : IsFirstRefused text c)
    → drop (length first.0) text ≡ encode_utf8 c ++ first.4.0
back_is text c first = ap (drop (length first.0)) first.2 ∙ drop-append_seam first.0 first.1 ∙ first.4.1.parts

first_in : (text : List ℕ) (c : ℕ) (first : IsFirstRefused text c) → IsUtf8 text
    → IsSpanIn text (from_to (length first.0) (length first.0 + len_utf8 c))
first_in text c first utf8 =
    let within : length first.0 ≤ length text =
    omega (arith, ap length first.2, length-append first.0 first.1) in
    let prefix : IsUtf8 first.0 = (first.3.0, (first.3.1, sym first.3.2)) in
    let start = IsCharBoundary-from_take text (length first.0) utf8 within
    (subst (λ (z : List ℕ). IsUtf8 z) (sym (front_is text c first)) prefix) in
    let end = IsCharBoundary-past_char text first.4.0 (length first.0) c within
    (IsUtf8-drop text (length first.0) utf8 start) (back_is text c first) in
    (omega arith, start, end)

target_in : (text : List ℕ) (s : Range ℕ) → IsUtf8 text → IsTargetSpan text s → IsSpanIn text s
target_in text s utf8 (inl a) =
    subst (IsSpanIn text) (sym a.1) (omega arith, IsCharBoundary-end text, IsCharBoundary-end text)
target_in text s utf8 (inr a) = subst (IsSpanIn text) (sym a.1.1.1) (first_in text a.1.0 a.1.1.0 utf8)

-- before the first refused character is a target name
pub behind_name : (text : List ℕ) (s : Range ℕ) → IsBehindName text s
behind_name text s plain (inl a) = absurd (plain a.0)
behind_name text s plain (inr a) =
    let first = a.1.1.0 in
    subst (λ (z : List ℕ). IsTargetName z)
    (sym (ap (λ (z : Range ℕ). take z.start text) a.1.1.1 ∙ front_is text a.1.0 first)) first.3

-- the span of a fault is within the text that the fault is of
pub condition_placed_in : (text orig : List ℕ) (fault : Fault) (span : Range ℕ) → IsUtf8 text
    → IsRefusedConditionAt text orig fault (Some span) → IsSpanIn orig span
condition_placed_in text orig fault span utf8 (inl a) =
    placed_in Expressions orig fault span (inner_utf8 text orig utf8 a.0) a.1
condition_placed_in text orig fault span utf8 (inr a) =
    subst (λ (z : List ℕ). IsSpanIn z span) (sym a.1)
    (subst (IsSpanIn text) (sym (same_Some _ _ a.3.2)) (target_in text a.3.0 utf8 a.3.1))
