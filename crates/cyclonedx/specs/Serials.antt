-- Serial numbers of documents.
use Rattle.std.specs.Prelude.{ℕ, List, ◌++◌, take}
use Rattle.sha1.specs.Sha1.{sha1}
use Rattle.uuid.specs.Parts.{with_version, with_variant}
use Rattle.uuid.specs.declared.Version.TheVariants.{Sha1}
use Rattle.uuid.specs.declared.Variant.TheVariants.{RFC4122}

-- the version 5 UUID of a name in a name space
abbrev pub name_based : List ℕ → List ℕ → List ℕ
name_based space name = with_version (with_variant (take 16 (sha1 (space ++ name))) RFC4122) Sha1
