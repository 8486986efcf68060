-- The keys of a manifest, and the dependencies in its tables.
use Rattle.std.specs.Prelude.{ℕ, Bool, true, false, List, [], ◌∷◌, ◌++◌, map, codes}
use Rattle.std.specs.Prelude.{Option, Some, None}
use Rattle.std.specs.Option.{option_map, option_copied, option_or, option_and_then, unwrap_or}
use Rattle.toml.specs.Data.{Data, Members, no_members, member}
use Rattle.toml.specs.Data.{get, get_member, as_bool, as_table}
use Rattle.manifests.specs.Entries.{Entry, entry_of}
use Rattle.manifests.specs.declared.tables.Dependency.{Dependency}
use Rattle.manifests.specs.declared.tables.Kind.{Kind}
use Rattle.manifests.specs.declared.tables.Kind.TheVariants.{Normal, Development, Build}
use Rattle.manifests.specs.declared.tables.TargetValue.{TargetValue}
use Rattle.manifests.specs.declared.tables.TargetValue.TheVariants as targets

-- ---- the keys

-- the members of a table, in order, each with its value
abbrev pub entries_of : Members → List Entry
entries_of no_members = []
entries_of (member key d ms) = (key, d) ∷ entries_of ms

-- the value of `target`: none, not a table, or a table, by its entries
abbrev pub target_of : Members → Option (Option (List Entry))
target_of ms = option_map (λ d. option_map entries_of (as_table d)) (get_member (codes "target") ms)

-- the same, as the call returns it
abbrev pub target_told : TargetValue → Option (Option (List Entry))
target_told targets.Absent = None
target_told targets.NoTable = Some None
target_told (targets.Keys keys) = Some (Some (map entry_of keys.items))

-- ---- the dependencies

abbrev pub table_name : Kind → List ℕ
table_name Normal = codes "dependencies"
table_name Development = codes "dev-dependencies"
table_name Build = codes "build-dependencies"

abbrev pub old_table_name : Kind → List ℕ
old_table_name Normal = codes "dependencies"
old_table_name Development = codes "dev_dependencies"
old_table_name Build = codes "build_dependencies"

abbrev pub is_true : Option Bool → Bool
is_true (Some b) = b
is_true None = false

abbrev pub bool_in : Option Data → Option Bool
bool_in (Some d) = as_bool d
bool_in None = None

-- true if the value of a dependency has `optional = true`
abbrev pub is_optional : Data → Bool
is_optional d = is_true (bool_in (get (codes "optional") d))

-- a dependency: its name, the kind of its table, the key above that, if there is one, and whether it is optional
pub record DependencyRow : Type 0 where
  pub name : List ℕ
  pub kind : Kind
  pub key : Option (List ℕ)
  pub optional : Bool

abbrev pub row_of : Dependency → DependencyRow
row_of d = record { name = d.name.now; kind = d.kind; key = option_copied d.key; optional = d.optional }

-- the value of the current name of a kind or, without one, the value of its former name
abbrev pub table_of : Kind → Members → Option Data
table_of kind ms = option_or (get_member (table_name kind) ms) (get_member (old_table_name kind) ms)

-- a dependency for each member, in order
abbrev pub member_rows : Option (List ℕ) → Kind → Members → List DependencyRow
member_rows key kind no_members = []
member_rows key kind (member name d ms) =
    record { name = name; kind = kind; key = key; optional = is_optional d } ∷ member_rows key kind ms

-- the dependencies of a kind: the members of its table, and none if the value is not a table
abbrev pub kind_rows : Option (List ℕ) → Members → Kind → List DependencyRow
kind_rows key ms kind = member_rows key kind (unwrap_or (option_and_then as_table (table_of kind ms)) no_members)

-- the dependencies in a table under a key, or outside `target`
abbrev pub rows_of : Option (List ℕ) → Members → List DependencyRow
rows_of key ms = kind_rows key ms Normal ++ kind_rows key ms Development ++ kind_rows key ms Build
