use Rattle.std.proofs.Common.{◌≡◌, refl, sym, ap, ◌∙◌, true, false, ◌∷◌, reverse, arith, true≢false}
use Rattle.cargo_platform.specs.Walk.{Listed}
use Rattle.cargo_platform.specs.Inside.Parsing.{is_all}
use Rattle.cargo_platform.specs.Inside.Matching.{words, is_settled}
use Rattle.cargo_platform.proofs.Evaluating.{decides, member_kept, member_decides}
use Rattle.cargo_platform.proofs.matching.Levels.add_member.Goals.{in-All, in-Any}
use Rattle.cargo_platform.proofs.matching.Levels.add_member.Goals.{else-decides-via-then-decides+else-not-is_settled}
use Rattle.cargo_platform.proofs.matching.Levels.add_member.Goals.{else-decides-via-else-decides}
use Rattle.cargo_platform.proofs.matching.Levels.add_member.Goals as goal

pub overflow_add-self : goal.overflow_add-self
overflow_add-self c = omega (arith, c.is_settled.ensures.room c.if-not-is_settled.true)

pub returns-then-not-is_settled : goal.returns-then-not-is_settled
returns-then-not-is_settled c = λ fs es gs e h is.
    let all = is_all c.args.word in
    let same : c.match-word.decides ≡ decides all c.args.is_true = elim c.match-word.branch [
      | in-All w ↦ w.decides-is ∙ ap (λ z. decides (is_all z) c.args.is_true) (sym w.in-All.is)
      | in-Any w ↦ w.decides-is ∙ ap (λ z. decides (is_all z) c.args.is_true) (sym w.in-Any.is)
    ] in
    member_decides fs c.args.self.now.bits _ (reverse c.args.self.now.outer.items) all es gs e c.args.is_true h is
    (sym (c.is_settled.ensures.settled fs (Listed all es ∷ gs) h) ∙ c.if-not-is_settled.true)
    (sym same ∙ c.if-decides.true) refl

pub returns-else-decides : goal.returns-else-decides
returns-else-decides c = λ fs es gs e h is.
    let all = is_all c.args.word in
    let same : c.match-word.decides ≡ decides all c.args.is_true = elim c.match-word.branch [
      | in-All w ↦ w.decides-is ∙ ap (λ z. decides (is_all z) c.args.is_true) (sym w.in-All.is)
      | in-Any w ↦ w.decides-is ∙ ap (λ z. decides (is_all z) c.args.is_true) (sym w.in-Any.is)
    ] in
    let kept : is_settled fs (Listed all es ∷ gs) ≡ false → decides all c.args.is_true ≡ false =
    elim c.else-decides.branch [
      | else-decides-via-then-decides+else-not-is_settled w ↦ λ unsettled.
          absurd
          (true≢false
          (sym w.if-not-is_settled.false ∙ w.is_settled.ensures.settled fs (Listed all es ∷ gs) h ∙ unsettled))
      | else-decides-via-else-decides w ↦ λ unsettled. sym same ∙ w.if-decides.false
    ] in
    member_kept fs (words c.args.self.now) all es gs e c.args.is_true h is kept
