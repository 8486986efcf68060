use Rattle.std.proofs.Common.{◌≡◌, Some, List, refl, subst}
use Rattle.std.specs.Prelude.{All}
use Rattle.std.specs.Option.{option_copied}
use Rattle.std.proofs.lemmas.List.{take_all}
use Rattle.cargo_metadata.specs.declared.nodes.KindRow.{KindRow}
use Rattle.declared_features.proofs.First.{all_next}
use Rattle.declared_features.proofs.missing_edges.are_all_under.Goals as goal

pub kinds-preserved : goal.kinds-preserved
kinds-preserved c =
    all_next (λ (row : KindRow). option_copied row.condition ≡ Some c.args.condition.now) c.args.kinds.now c.kinds.i _
    c.kinds-test.true (c.has_condition.ensures.0 c.if-not-has_condition.false) c.kinds.invariant

pub returns : goal.returns
returns c = (
  λ h. subst (λ (l : List KindRow). All (λ row. option_copied row.condition ≡ Some c.args.condition.now) l)
      (take_all c.kinds.i c.args.kinds.now c.kinds-test.false) c.kinds.invariant,
  λ h. refl,
)
