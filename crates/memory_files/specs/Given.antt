-- The files that are handed over.
use Rattle.std.specs.Prelude.{◌≡◌, ℕ, List, Any}
use Rattle.memory_files.specs.declared.GivenFile.{GivenFile}

-- a file with these bytes is handed over
abbrev pub IsGiven : List GivenFile → List ℕ → Type 0
IsGiven files bytes = Any (λ file. file.bytes.now ≡ bytes) files
