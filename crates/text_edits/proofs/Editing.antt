-- How a text is edited, edit by edit.
use Rattle.std.proofs.Common.{◌≡◌, ◌+◌, ◌≤◌, ◌<◌, ◌∙◌, ℕ, List, [], ◌∷◌, ◌++◌, drop, get_or, length, slice_range}
use Rattle.std.proofs.Common.{string_bytes, refl, sym, ap, subst, append_assoc, arith, All}
use Rattle.std.proofs.lemmas.List.{drop_more}
use Rattle.std.proofs.lemmas.List.Elements.{All-head, All-tail}
use Rattle.std.proofs.lemmas.List.Folds.{drop_split}
use Rattle.std.specs.Str.{IsCharBoundary}
use Rattle.text_edits.specs.declared.edits.Edit.{Edit}
use Rattle.text_edits.specs.Edits.{Fits, Edited, ends, applied, left_out}
use Rattle.text_edits.specs.Laws.{ReplacesItself, HasOneResult, IsKeptByItsOwnTexts}

-- The text from `at` on is left, with the edits `rest`. What becomes of these completes what is edited so far.
pub record IsSoFar (text : List ℕ) (at : ℕ) (rest all : List Edit) (edited : List ℕ) (left index : ℕ) : Type 0 where
  pub begins : 0 < at → IsCharBoundary text at
  pub counted : left ≤ index
  pub completes : (more : List ℕ) (count : ℕ) → Edited text at rest more count
      → Edited text 0 all (edited ++ more) (left + count)

-- nothing is edited yet
pub nothing_yet : (text : List ℕ) (all : List Edit) (edited : List ℕ) → edited ≡ []
    → IsSoFar text 0 all all edited 0 0
nothing_yet text all edited none = record {
  begins = λ positive. absurd (omega arith);
  counted = omega arith;
  completes = λ more count is.
      let same : count ≡ 0 + count = omega arith in
      subst (λ (n : ℕ). Edited text 0 all (edited ++ more) n) same
      (subst (λ (e : List ℕ). Edited text 0 all (e ++ more) count) (sym none) is);
}

joined : (edited kept new more : List ℕ) → ((edited ++ kept) ++ new) ++ more ≡ edited ++ (kept ++ (new ++ more))
joined edited kept new more = simp append_assoc

-- an edit more is applied
pub one_applied : (text : List ℕ) (at : ℕ) (edit : Edit) (these rest all : List Edit) (edited longer : List ℕ)
    (left index : ℕ) → IsSoFar text at these all edited left index → these ≡ edit ∷ rest → Fits text at edit
    → longer ≡ (edited ++ slice_range text at edit.start) ++ string_bytes edit.text
    → IsSoFar text edit.end rest all longer left (index + 1)
one_applied text at edit these rest all edited longer left index so_far are fit is = record {
  begins = λ positive. fit.end;
  counted = let before : left ≤ index = so_far.counted in omega arith;
  completes = λ more count becomes.
      subst (λ (e : List ℕ). Edited text 0 all e (left + count))
      (sym (ap (λ (e : List ℕ). e ++ more) is
      ∙ joined edited (slice_range text at edit.start) (string_bytes edit.text) more))
      (so_far.completes (slice_range text at edit.start ++ (string_bytes edit.text ++ more)) count
      (subst (λ (es : List Edit). Edited text at es (slice_range text at edit.start
      ++ (string_bytes edit.text ++ more)) count) (sym are) (applied text at edit rest more count fit becomes)));
}

-- an edit more is left out
pub one_left : (text : List ℕ) (at : ℕ) (edit : Edit) (these rest all : List Edit) (edited : List ℕ)
    (left index : ℕ) → IsSoFar text at these all edited left index → these ≡ edit ∷ rest
    → (Fits text at edit → ⊥) → IsSoFar text at rest all edited (left + 1) (index + 1)
one_left text at edit these rest all edited left index so_far are wrong = record {
  begins = so_far.begins;
  counted = let before : left ≤ index = so_far.counted in omega arith;
  completes = λ more count becomes.
      let same : left + (count + 1) ≡ (left + 1) + count = omega arith in
      subst (λ (n : ℕ). Edited text 0 all (edited ++ more) n) same
      (so_far.completes more (count + 1)
      (subst (λ (es : List Edit). Edited text at es more (count + 1)) (sym are)
      (left_out text at edit rest more count wrong becomes)));
}

-- no edit is left
pub all_edited : (text : List ℕ) (at : ℕ) (rest all : List Edit) (edited whole : List ℕ) (left index : ℕ)
    → IsSoFar text at rest all edited left index → rest ≡ [] → whole ≡ edited ++ drop at text
    → Edited text 0 all whole left
all_edited text at rest all edited whole left index so_far none is =
    let same : left + 0 ≡ left = omega arith in
    subst (λ (n : ℕ). Edited text 0 all whole n) same
    (subst (λ (e : List ℕ). Edited text 0 all e (left + 0)) (sym is)
    (so_far.completes (drop at text) 0
    (subst (λ (es : List Edit). Edited text at es (drop at text) 0) (sym none) (ends text at))))

-- the edits from this one on
pub from_here : (edits : List Edit) (index : ℕ) (edit : Edit) → index < length edits → edit ≡ get_or edits index edit
    → drop index edits ≡ edit ∷ drop (index + 1) edits
from_here edits index edit within is =
    drop_more edits index edit within ∙ ap (λ (e : Edit). e ∷ drop (index + 1) edits) (sym is)

-- ---- laws

pub one_result : HasOneResult
one_result _ _ _ _ _ _ _ (ends text at) (ends _ _) = (refl, refl)
one_result _ _ _ _ _ _ _ (applied text at edit edits rest left fit is) (applied _ _ _ _ other more _ also) =
    let same = one_result text edit.end edits rest other left more is also in
    (ap (λ (r : List ℕ). slice_range text at edit.start ++ (string_bytes edit.text ++ r)) same.0, same.1)
one_result _ _ _ _ _ _ _ (applied text at edit edits rest left fit is) (left_out _ _ _ _ other more wrong also) =
    absurd (wrong fit)
one_result _ _ _ _ _ _ _ (left_out text at edit edits rest left wrong is) (applied _ _ _ _ other more fit also) =
    absurd (wrong fit)
one_result _ _ _ _ _ _ _ (left_out text at edit edits rest left wrong is) (left_out _ _ _ _ other more _ also) =
    let same = one_result text at edits rest other left more is also in
    (same.0, ap (λ (n : ℕ). n + 1) same.1)

kept_from : (text : List ℕ) (at : ℕ) (edits : List Edit) (edited : List ℕ) (left : ℕ)
    → All (ReplacesItself text) edits → Edited text at edits edited left → edited ≡ drop at text
kept_from _ _ _ _ _ own (ends text at) = refl
kept_from _ _ _ _ _ own (applied text at edit edits rest left fit is) =
    let here : string_bytes edit.text ≡ slice_range text edit.start edit.end
    = All-head (ReplacesItself text) edit edits own in
    let behind : rest ≡ drop edit.end text
    = kept_from text edit.end edits rest left (All-tail (ReplacesItself text) edit edits own) is in
    let replaced : string_bytes edit.text ++ rest ≡ drop edit.start text
    = ap (λ (t : List ℕ). t ++ rest) here
    ∙ ap (λ (r : List ℕ). slice_range text edit.start edit.end ++ r) behind
    ∙ sym (drop_split text edit.start edit.end fit.ordered) in
    ap (λ (r : List ℕ). slice_range text at edit.start ++ r) replaced
    ∙ sym (drop_split text at edit.start fit.after)
kept_from _ _ _ _ _ own (left_out text at edit edits rest left wrong is) =
    kept_from text at edits rest left (All-tail (ReplacesItself text) edit edits own) is

pub kept : IsKeptByItsOwnTexts
kept text edited edits left own is = kept_from text 0 edits edited left own is
