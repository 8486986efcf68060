-- The keys and lints of diagnostics.
use Rattle.std.specs.Prelude.{ℕ, List, map, Option}
use Rattle.manifest_lints_findings.specs.declared.codes.KeyLint.{KeyLint}
use Rattle.manifest_lints_findings.specs.declared.findings.Finding.{Finding}

-- the index of the key that a diagnostic is about, and its lint
abbrev pub Mark : Type 0
Mark = Option ℕ × KeyLint

abbrev pub mark : Finding → Mark
mark f = (f.key, f.code)

abbrev pub marks : List Finding → List Mark
marks fs = map mark fs
