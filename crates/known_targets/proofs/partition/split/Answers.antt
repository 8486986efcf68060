use Rattle.std.proofs.Common.{List, subst}
use Rattle.known_targets.specs.declared.target_set.TargetSet.{TargetSet}
use Rattle.known_targets.specs.Parts.{AreParts}
use Rattle.known_targets.proofs.Parting.{no_parts, parts_more, all_parts}
use Rattle.known_targets.proofs.partition.split.Goals as goal

pub classes-init : goal.classes-init
classes-init c =
    no_parts c.args.set c.deref-class-items.result.now c.new-parts.result.items c.new-parts.ensures.items

pub classes-preserved : goal.classes-preserved
classes-preserved c =
    parts_more c.args.set c.deref-class-items.result.now c.classes.parts.items c.add_parts.new.parts.items
    c.classes.class-index _ c.classes-test.true c.in_ok-add_parts.ensures c.classes.invariant

pub returns : goal.returns
returns c =
    subst (λ (cs : List TargetSet). AreParts c.args.set cs c.classes.parts.items) c.deref-class-items.ensures.value
    (all_parts c.args.set c.deref-class-items.result.now c.classes.parts.items c.classes.class-index
    c.classes-test.false
    c.classes.invariant)
