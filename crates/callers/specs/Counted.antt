-- The number of packages of a document.
use Rattle.std.specs.Prelude.{◌≡◌, ℕ, codes, vec_len}
use Rattle.serde_json.specs.Data.{Data}
use Rattle.cargo_metadata.specs.Documents.{IsMetadata}
use Rattle.cargo_metadata.specs.declared.metadata.Metadata.{Metadata}

-- it has this many of them
abbrev pub HasSoManyPackages : Data → ℕ → Type 0
HasSoManyPackages d count = (m : Metadata) × IsMetadata d m × (count ≡ vec_len m.packages)
