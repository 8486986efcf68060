use Rattle.std.proofs.Common.{◌≡◌, drop}
use Rattle.predicate_classes.specs.Classes.{classified_by}
use Rattle.manifest_lints_findings.specs.Known.{has_marked_literal}
use Rattle.manifest_lints_findings.proofs.known_keys.has_marked_literal.Given as goal

-- the answer hangs on the facts that are left
abbrev pub invariant-predicates : goal.invariant-predicates
invariant-predicates l =
    has_marked_literal (classified_by (drop l.each-index l.predicates)) ≡ has_marked_literal
    (classified_by l.predicates)
