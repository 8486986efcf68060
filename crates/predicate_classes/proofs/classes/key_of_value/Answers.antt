use Rattle.std.proofs.Common.{◌∙◌, sym}
use Rattle.partial_facts.specs.Partly.{names_of}
use Rattle.predicate_classes.proofs.NoValue.{no_key}
use Rattle.predicate_classes.proofs.classes.key_of_value.Goals as goal

pub returns-then-not-is_known_value : goal.returns-then-not-is_known_value
returns-then-not-is_known_value c =
    sym
    (no_key c.args.value.now c.as_str.result.now (c.as_str.ensures.value ∙ c.in_ok-lower.ensures.ok)
    (c.is_known_value.ensures (cc)) (names_of c.args.keys.now))
