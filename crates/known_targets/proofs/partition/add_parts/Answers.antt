use Rattle.known_targets.proofs.Parting.{both_parts}
use Rattle.known_targets.proofs.partition.add_parts.Goals as goal

pub returns : goal.returns
returns c =
    both_parts c.args.set c.args.class c.intersection-inside.result c.intersection-outside.result c.complement.result
    c.args.parts.now.items c.add_part.new.parts.items c.add_part-2.new.parts.items c.intersection-inside.ensures
    c.complement.ensures c.intersection-outside.ensures c.in_ok-add_part.ensures c.in_ok-add_part-2.ensures
