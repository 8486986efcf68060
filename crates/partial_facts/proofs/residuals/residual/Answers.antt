use Rattle.std.proofs.Common.{◌≡◌, ◌≤◌}
use Rattle.cargo_platform.specs.Trees.{tree_of}
use Rattle.cargo_platform.specs.Facts.{truth}
use Rattle.cargo_platform.specs.WellFormed.{IsWellFormed}
use Rattle.cargo_platform.specs.Warnings.{values}
use Rattle.cargo_platform.specs.Sizes.{size, depth}
use Rattle.partial_facts.specs.Kleene.{kleene}
use Rattle.partial_facts.specs.Residual.{literal_truth, IsLiteralOrOpen, IsSubsequence}
use Rattle.partial_facts.proofs.Leaving.{as_true, decided, literal_or_open}
use Rattle.partial_facts.proofs.Keeping.{through, in_order, well_formed, no_larger, no_deeper}
use Rattle.partial_facts.proofs.residuals.residual.Goals as goal

pub returns-clause-sound : goal.returns-clause-sound
returns-clause-sound g c s allowed =
    let e = tree_of c.args.e.now in
    through tree_of _ _ (λ t. truth s t ≡ truth s e)
    (as_true _ s (λ p. g.met.K.Knowledge.sound c.args.known.now s p allowed) e) c.fold_expression.ensures

pub returns-clause-decided : goal.returns-clause-decided
returns-clause-decided g c =
    let e = tree_of c.args.e.now in
    let told = g.K.Knowledge.told c.args.known.now in
    through tree_of _ _ (λ t. literal_truth t ≡ kleene told e) (decided told e) c.fold_expression.ensures

pub returns-clause-open : goal.returns-clause-open
returns-clause-open g c =
    let told = g.K.Knowledge.told c.args.known.now in
    through tree_of _ _ (IsLiteralOrOpen told) (literal_or_open told (tree_of c.args.e.now)) c.fold_expression.ensures

pub returns-clause-in_order : goal.returns-clause-in_order
returns-clause-in_order g c =
    let e = tree_of c.args.e.now in
    through tree_of _ _ (λ t. IsSubsequence (values t) (values e)) (in_order _ e) c.fold_expression.ensures

pub returns-clause-well_formed : goal.returns-clause-well_formed
returns-clause-well_formed g c formed =
    through tree_of _ _ IsWellFormed (well_formed _ (tree_of c.args.e.now) formed) c.fold_expression.ensures

pub returns-clause-no_larger : goal.returns-clause-no_larger
returns-clause-no_larger g c =
    let e = tree_of c.args.e.now in
    through tree_of _ _ (λ t. size t ≤ size e) (no_larger _ e) c.fold_expression.ensures

pub returns-clause-no_deeper : goal.returns-clause-no_deeper
returns-clause-no_deeper g c =
    let e = tree_of c.args.e.now in
    through tree_of _ _ (λ t. depth t ≤ depth e) (no_deeper _ e) c.fold_expression.ensures
