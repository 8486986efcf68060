use Rattle.std.proofs.Common.{rules, ◌∙◌, ◌++◌, List, ℕ, slice_range, string_bytes, ap, refl, arith}
use Rattle.std.proofs.lemmas.List.{drop_all}
use Rattle.std.proofs.lemmas.Slice.{pushed}
use Rattle.text_edits.specs.Edits.{Fits}
use Rattle.text_edits.proofs.Editing.{nothing_yet, one_applied, one_left, all_edited, from_here}
use Rattle.text_edits.proofs.edits.apply.Goals.{then-fits+in_ok-push_str+in_ok-push_str-2, else-fits}
use Rattle.text_edits.proofs.edits.apply.Goals as goal

pub loop-edit-init : goal.loop-edit-init
loop-edit-init c = nothing_yet c.args.text.now c.args.edits.now _ c.new-edited.ensures.bytes

pub loop-edit-preserved : goal.loop-edit-preserved
loop-edit-preserved c =
    let text = c.args.text.now in
    let edit = c.edit-item.result in
    let index = c.loop-edit.edit-index in
    let before = string_bytes c.loop-edit.edited in
    let these = from_here c.args.edits.now index edit c.loop-edit-test.true c.edit-item.is in
    elim c.if-fits.branch [
      | then-fits+in_ok-push_str+in_ok-push_str-2 w ↦
          let fit : Fits text c.loop-edit.at edit = c.fits.ensures.0 (search rules) in
          let kept = pushed w.range.result.now refl w.in_ok-push_str.was w.push_str.ensures.bytes
          ∙ ap (λ (e : List ℕ). before ++ e) w.range.ensures.value in
          rw (w.edited-is, w.left-is, w.at-is)
          (one_applied text c.loop-edit.at edit _ _ c.args.edits.now before _ c.loop-edit.left index
          c.loop-edit.invariant these fit
          (pushed w.as_str.result.now kept w.in_ok-push_str-2.was w.push_str-then-fits.ensures.bytes
          ∙ ap (λ (e : List ℕ). (before ++ slice_range text c.loop-edit.at edit.start) ++ e) w.as_str.ensures.value))
      | else-fits w ↦
          rw (w.edited-is, w.left-is, w.at-is)
          (one_left text c.loop-edit.at edit _ _ c.args.edits.now before c.loop-edit.left index
          c.loop-edit.invariant these (λ fit. let is = c.fits.ensures.1 fit in absurd (search rules)))
    ]

pub returns : goal.returns
returns c =
    all_edited c.args.text.now c.loop-edit.at _ c.args.edits.now (string_bytes c.loop-edit.edited) _ c.loop-edit.left
    c.loop-edit.edit-index c.loop-edit.invariant
    (drop_all c.loop-edit.edit-index c.args.edits.now (omega arith))
    (pushed c.range_from.result.now refl c.in_ok-push_str-3.was c.push_str-2.ensures.bytes
    ∙ ap (λ (e : List ℕ). string_bytes c.loop-edit.edited ++ e) c.range_from.ensures.value)
