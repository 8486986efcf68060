use Rattle.std.proofs.Common.{◌≡◌, ◌++◌, string_bytes, take}
use Rattle.std.specs.Prelude.{flat_map}
use Rattle.manifest_lints_findings.proofs.wording.first_joined.Given as goal

-- each text but the first stands behind the mark
abbrev pub invariant-others : goal.invariant-others
invariant-others l =
    string_bytes l.joined
    ≡ string_bytes l.initial.joined ++ flat_map (λ t. l.separator ++ string_bytes t) (take l.text-index l.others)
