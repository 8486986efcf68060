use Rattle.std.proofs.Common.{◌≡◌, drop}
use Rattle.predicate_classes.specs.Classes.{has_category, classified_by}
use Rattle.predicate_classes.proofs.key_predicates.has_category.Given as goal

-- the answer hangs on the facts that are left
abbrev pub invariant-predicates : goal.invariant-predicates
invariant-predicates l =
    has_category l.category (classified_by (drop l.each-index l.predicates)) ≡ has_category l.category
    (classified_by l.predicates)
