use Rattle.std.proofs.Common.{subst}
use Rattle.cargo_platform.specs.Trees.{condition_of}
use Rattle.cargo_platform.specs.Platforms.{IsConditionText}
use Rattle.platform_answers.specs.Lines.{lines_of}
use Rattle.platform_answers.specs.Answering.{IfLine, IsLeast, IsRefusedLine, IsLineFault}
use Rattle.platform_answers.proofs.Facts.{behind_two, first_fact_of, after_first, passed_on}
use Rattle.platform_answers.proofs.answering.read_query.Goals as goal

pub returns-in_err-facts-clause-refused : goal.returns-in_err-facts-clause-refused
returns-in_err-facts-clause-refused c =
    let ls = lines_of c.args.text.now in
    let p = condition_of c.in_ok-platform.platform in
    let facts = behind_two ls _ _ c.split_line.ensures.after c.split_line-2.ensures.after in
    passed_on
    (λ r. IfLine r (λ n orig fault. IsLeast (IsRefusedLine ls) n × IsLineFault ls n orig fault))
    _ c.in_err-facts.field-0.0 c.from_residual-in_err-facts.ensures.1
    (after_first _ ls p
    (subst (λ t. IsConditionText t p) c.split_line.ensures.line c.in_ok-platform.ensures.condition)
    (first_fact_of _ ls _ facts c.in_err-facts.ensures.refused))
