use Rattle.std.proofs.Common.{◌≡◌, ◌≤◌}
use Rattle.std.specs.Prelude.{◌↔◌}
use Rattle.std.specs.Option.{option_copied}
use Rattle.cargo_platform.specs.Trees.{condition_of}
use Rattle.cargo_platform.specs.Facts.{IsTrueCondition}
use Rattle.cargo_platform.specs.WellFormed.{IsWellFormedCondition}
use Rattle.cargo_platform.specs.Warnings.{condition_values}
use Rattle.partial_facts.specs.Residual.{IsSubsequence}
use Rattle.partial_facts.specs.Conditions.{kleene_condition, condition_literal_truth, IsLiteralOrOpenCondition}
use Rattle.partial_facts.specs.Conditions.{condition_size, condition_depth}
use Rattle.partial_facts.proofs.Keeping.{through}
use Rattle.partial_facts.proofs.Naming.{copied, condition_as_true, condition_decided, condition_asks}
use Rattle.partial_facts.proofs.Naming.{condition_in_order, condition_formed, condition_no_larger}
use Rattle.partial_facts.proofs.Naming.{condition_no_deeper}
use Rattle.partial_facts.proofs.platforms.residual_platform.Goals as goal

pub returns-clause-sound : goal.returns-clause-sound
returns-clause-sound g c target s named allowed =
    let p = condition_of c.args.platform.now in
    through condition_of _ _ (λ q. IsTrueCondition target s q ↔ IsTrueCondition target s p)
    (condition_as_true _ _ target s (copied c.args.name target named)
    (λ q. g.met.K.Knowledge.sound c.args.known.now s q allowed) p) c.reduced_platform.ensures

pub returns-clause-decided : goal.returns-clause-decided
returns-clause-decided g c =
    let p = condition_of c.args.platform.now in
    let told = g.K.Knowledge.told c.args.known.now in
    let name = option_copied c.args.name in
    through condition_of _ _ (λ q. condition_literal_truth q ≡ kleene_condition name told p)
    (condition_decided told name p) c.reduced_platform.ensures

pub returns-clause-open : goal.returns-clause-open
returns-clause-open g c =
    let told = g.K.Knowledge.told c.args.known.now in
    let name = option_copied c.args.name in
    through condition_of _ _ (IsLiteralOrOpenCondition name told)
    (condition_asks told name (condition_of c.args.platform.now)) c.reduced_platform.ensures

pub returns-clause-in_order : goal.returns-clause-in_order
returns-clause-in_order g c =
    let p = condition_of c.args.platform.now in
    through condition_of _ _ (λ q. IsSubsequence (condition_values q) (condition_values p)) (condition_in_order _ _ p)
    c.reduced_platform.ensures

pub returns-clause-well_formed : goal.returns-clause-well_formed
returns-clause-well_formed g c formed =
    through condition_of _ _ IsWellFormedCondition (condition_formed _ _ (condition_of c.args.platform.now) formed)
    c.reduced_platform.ensures

pub returns-clause-no_larger : goal.returns-clause-no_larger
returns-clause-no_larger g c =
    let p = condition_of c.args.platform.now in
    through condition_of _ _ (λ q. condition_size q ≤ condition_size p) (condition_no_larger _ _ p)
    c.reduced_platform.ensures

pub returns-clause-no_deeper : goal.returns-clause-no_deeper
returns-clause-no_deeper g c =
    let p = condition_of c.args.platform.now in
    through condition_of _ _ (λ q. condition_depth q ≤ condition_depth p) (condition_no_deeper _ _ p)
    c.reduced_platform.ensures
