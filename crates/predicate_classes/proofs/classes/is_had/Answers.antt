use Rattle.cargo_platform.specs.Trees.{value_of}
use Rattle.predicate_classes.proofs.Categories.{had_iff}
use Rattle.predicate_classes.proofs.classes.is_had.Goals as goal

pub returns : goal.returns
returns c =
    had_iff (value_of c.args.c.now) c.targets_with_fact.result c.is_empty.result c.targets_with_fact.ensures
    c.is_empty.ensures.yes
    c.is_empty.ensures.no
