use Rattle.std.proofs.Common.{◌≡◌, drop}
use Rattle.std.specs.List.{list_any}
use Rattle.manifest_lints_findings.specs.Codes.{hiders}
use Rattle.manifest_lints.specs.CheckedKeys.{applicable_codes}
use Rattle.manifest_lints.proofs.checked_keys.CheckedKey.is_reported.Given as goal

-- the answer hangs on the hiders that are left
abbrev pub invariant-hiders : goal.invariant-hiders
invariant-hiders l =
    list_any (applicable_codes l.self) (drop l.hider-index l.hider-items) ≡ list_any (applicable_codes l.self)
    (hiders l.fn.code)
