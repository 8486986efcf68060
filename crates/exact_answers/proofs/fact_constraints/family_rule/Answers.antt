use Rattle.std.proofs.Common.{subst, Err}
use Rattle.cargo_platform.specs.Trees.{tree_of}
use Rattle.cargo_platform.specs.Errors.{IfParse}
use Rattle.cargo_platform.specs.declared.cfg.CfgExpr.{CfgExpr}
use Rattle.exact_answers.proofs.Families.{rule_tree, is_well_formed, is_its_text, rule_truth}
use Rattle.exact_answers.proofs.fact_constraints.family_rule.Goals as goal

pub returns-in-Ok-clause-sets : goal.returns-in-Ok-clause-sets
returns-in-Ok-clause-sets c = λ s.
    rule_truth s (tree_of c.in-Ok.rule) ((c.in-Ok.ensures.reads_back rule_tree is_well_formed is_its_text).0)

pub unreachable-requires : goal.unreachable-requires
unreachable-requires c =
    subst (λ e. IfParse {A = CfgExpr} (Err e) (λ x. ⊥)) c.in-Err-Parse.field-0-is
    (c.in-Err-Parse.ensures.reads_back rule_tree is_well_formed is_its_text).1
