use Rattle.std.proofs.Common.{◌≡◌, ◌++◌, drop}
use Rattle.manifest_lints_findings.specs.Pointed.{spans_in}
use Rattle.manifest_lints_findings.proofs.pointing.spans_in.Given as goal

-- the spans so far, and those of what is left
abbrev pub invariant-predicates : goal.invariant-predicates
invariant-predicates l = l.spans.items ++ spans_in (drop l.each-index l.predicates) ≡ spans_in l.predicates
