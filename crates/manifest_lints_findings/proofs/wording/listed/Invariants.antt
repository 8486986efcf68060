use Rattle.std.proofs.Common.{◌≡◌, map, string_bytes, take}
use Rattle.manifest_lints_findings.specs.Chosen.{fact_text}
use Rattle.manifest_lints_findings.proofs.wording.listed.Given as goal

-- the texts of the facts so far
abbrev pub invariant-shown : goal.invariant-shown
invariant-shown l =
    map (λ t. string_bytes t) l.texts.items ≡ map fact_text (take l.predicate-index l.predicate-items)
