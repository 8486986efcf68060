use Rattle.std.proofs.Common.{◌≡◌, ◌∙◌, refl, sym, ap, ◌+◌, reverse, arith}
use Rattle.std.specs.Prelude.{if◌then◌else◌}
use Rattle.cargo_platform.specs.Inside.Matching.{fresh}
use Rattle.cargo_platform.proofs.Evaluating.{opened_level, pushed}
use Rattle.cargo_platform.proofs.matching.Levels.push.Goals.{then-is_settled, else-is_settled}
use Rattle.cargo_platform.proofs.matching.Levels.push.Goals as goal

pub returns : goal.returns
returns c = λ fs gs h.
    let code = c.code_of-level.result in
    let plain : code ≡ code + 0 = omega arith in
    let bits : c.if-is_settled.level ≡ code + (if c.is_settled.result then 4 else 0) = elim c.if-is_settled.branch [
      | then-is_settled w ↦ w.level-is ∙ ap (λ b. code + (if b then 4 else 0)) (sym w.if-is_settled.true)
      | else-is_settled w ↦ w.level-is ∙ plain ∙ ap (λ b. code + (if b then 4 else 0)) (sym w.if-is_settled.false)
    ] in
    let both = opened_level fs c.args.kind gs c.if-is_settled.level code c.is_settled.result c.code_of-level.ensures
    (c.is_settled.ensures.settled fs gs h) bits in
    pushed fs c.args.self.now.bits _ c.if-is_settled.level (reverse c.args.self.now.outer.items) (fresh c.args.kind) gs
    h
    both.1 both.0 refl
