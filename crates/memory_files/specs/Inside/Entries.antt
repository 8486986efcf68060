-- What a path names.
use Rattle.std.specs.Prelude.{List}
use Rattle.memory_files.specs.declared.GivenFile.{GivenFile}
use Rattle.memory_files.specs.declared.files.Entry.{Entry}
use Rattle.memory_files.specs.declared.files.Entry.TheVariants as entry
use Rattle.memory_files.specs.Given.{IsGiven}

-- a file is one that is handed over
abbrev pub IsGivenEntry : List GivenFile → Entry → Type 0
IsGivenEntry files (entry.File bytes) = IsGiven files bytes.now
IsGivenEntry files entry.Folder = Unit {0}
