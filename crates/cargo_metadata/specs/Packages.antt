-- Packages, as objects have them.
use Rattle.std.specs.Prelude.{◌≡◌, ◌==◌, ℕ, Bool, false, List, Option, Some, None, codes, bytes_eq}
use Rattle.std.specs.Prelude.{length}
use Rattle.std.specs.List.{list_any}
use Rattle.std.specs.Option.{option_copied}
use Rattle.serde_json.specs.Data.{Data}
use Rattle.serde_json.specs.Find.{as_str}
use Rattle.cargo_metadata.specs.Fields.{text_at, list_at}
use Rattle.cargo_metadata.specs.declared.packages.Package.{Package}

abbrev pub is_text : List ℕ → Option (List ℕ) → Bool
is_text text None = false
is_text text (Some found) = bytes_eq found text

abbrev pub any_of : (Data → Bool) → Option (List Data) → Bool
any_of p None = false
any_of p (Some ds) = list_any p ds

-- the list has no elements
abbrev pub has_none : Option (List Data) → Bool
has_none None = false
has_none (Some ds) = length ds == 0

-- the list of registries, in which the package can be published, is empty
abbrev pub is_private : Data → Bool
is_private d = has_none (list_at (codes "publish") d)

abbrev pub is_macro_kind : Data → Bool
is_macro_kind d = is_text (codes "proc-macro") (as_str d)

abbrev pub has_macro_kind : Data → Bool
has_macro_kind d = any_of is_macro_kind (list_at (codes "kind") d)

-- one of the kinds of one of its targets is that of procedural macros
abbrev pub is_macro : Data → Bool
is_macro d = any_of has_macro_kind (list_at (codes "targets") d)

pub record IsPackage (d : Data) (p : Package) : Type 0 where
  pub id : text_at (codes "id") d ≡ Some p.id.now
  pub name : text_at (codes "name") d ≡ Some p.name.now
  pub version : text_at (codes "version") d ≡ Some p.version.now
  pub license : text_at (codes "license") d ≡ option_copied p.license
  pub license_file : text_at (codes "license_file") d ≡ option_copied p.license_file
  pub private : p.is_private ≡ is_private d
  pub macro : p.is_macro ≡ is_macro d
