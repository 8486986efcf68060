use Rattle.std.proofs.Common.{◌∙◌, sym, ap, ◌∷◌, [], drop, ◌+◌, true, false}
use Rattle.std.proofs.lemmas.List.{map-append}
use Rattle.partial_facts.specs.Partly.{names_of}
use Rattle.manifests.specs.Declarations.{lexemes_in, values_from}
use Rattle.manifests.specs.Steps.{values_at_stage}
use Rattle.manifests.specs.declared.declared.Step.TheVariants as step
use Rattle.manifests.proofs.Stepping.{one_step, ends_any, ends_none}
use Rattle.manifests.proofs.declared.values_in.Goals as goal
use Rattle.manifests.proofs.declared.values_in.Goals.{in-To, in-Text+in_ok-push-in-Text, in-Word}
use Rattle.manifests.proofs.declared.values_in.Goals.{then-eq, else-eq+then-eq-2}

pub values-preserved : goal.values-preserved
values-preserved c =
    let ts = c.args.tokens.now in
    let i = c.values.at in
    let texts = names_of c.values.texts.items in
    let ls = lexemes_in (drop (i + 1) ts) in
    elim c.match-step_of.branch [
      | in-To w ↦
          (λ j. values_at_stage (w.stage-is j) (names_of (w.texts-is j).items) (w.any-is j) (w.none-is j) ls)
          ∙ one_step ts i _ c.values-test.true c.values.stage texts c.values.any c.values.none
          (step.To w.in-To.next) _ w.in-To.ensures c.values.invariant
      | in-Text+in_ok-push-in-Text w ↦
          (λ j. values_at_stage (w.stage-is j) (names_of (w.texts-is j).items) (w.any-is j) (w.none-is j) ls)
          ∙ ap (λ xs. values_from false xs c.values.any c.values.none ls)
          (ap names_of w.in_ok-push-in-Text.ensures.items
          ∙ map-append (λ t. t.now) c.values.texts.items (w.in-Text.text ∷ []))
          ∙ one_step ts i _ c.values-test.true c.values.stage texts c.values.any c.values.none
          (step.Text w.in-Text.text) _ w.in-Text.ensures c.values.invariant
      | in-Word w ↦
          let so = one_step ts i _ c.values-test.true c.values.stage texts c.values.any c.values.none
          (step.Word w.in-Word.word) (values_from true [] false false (lexemes_in ts)) w.in-Word.ensures
          c.values.invariant in
          (λ j. values_at_stage (w.stage-is j) (names_of (w.texts-is j).items) (w.any-is j) (w.none-is j) ls)
          ∙ elim w.if-eq.branch [
            | then-eq v ↦
                (λ j. values_from false texts (v.any-is j) (v.none-is j) ls)
                ∙ ends_any w.in-Word.word texts c.values.any c.values.none ls _
                (sym w.eq.ensures ∙ v.if-eq.true) so
            | else-eq+then-eq-2 v ↦
                (λ j. values_from false texts (v.any-is j) (v.none-is j) ls)
                ∙ ends_none w.in-Word.word texts c.values.any c.values.none ls _
                (sym w.eq.ensures ∙ v.if-eq.false) (sym v.eq-else-eq.ensures ∙ v.if-eq-2.true) so
          ]
    ]
