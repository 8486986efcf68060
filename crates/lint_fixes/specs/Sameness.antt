-- When a fixed manifest is the same document as the manifest, but for what fixes change.
use Rattle.std.specs.Prelude.{◌≡◌, ℕ, ⊤, Bool, true, false, IsSome, is_some, List, ◌⊎◌, bytes_eq, codes, if◌then◌else◌, ◌||◌}
use Rattle.std.specs.Prelude.{Option, None, Some, suc, ◌+◌}
use Rattle.std.specs.Option.{option_and_then}
use Rattle.toml.specs.Data.{Data, array, table, Items, no_items, item, Members, get_member, as_table}

-- the one name may become the other
abbrev pub Renaming : Type 1
Renaming = List ℕ → List ℕ → Type 0

-- the renaming, where names may change
abbrev pub Where : Bool → Renaming → Renaming
Where true MayBecome = MayBecome
Where false MayBecome = λ name new. ⊥

-- The members of the one table are those of the other: each under its name or one that it may become, with the same
-- value, and no two under one name.
pub record AreRenamed (MayBecome : Renaming) (IsSame : List ℕ → Data → Data → Type 0) (old new : Members) : Type 0 where
  pub name_of : List ℕ → List ℕ
  pub named : (name : List ℕ) → (name_of name ≡ name) ⊎ MayBecome name (name_of name)
  pub kept : (name : List ℕ) (value : Data) → get_member name old ≡ Some value
      → (other : Data) × (get_member (name_of name) new ≡ Some other) × IsSame name value other
  pub only : (name : List ℕ) → IsSome (get_member name new)
      → (before : List ℕ) × IsSome (get_member before old) × (name_of before ≡ name)
  pub apart : (name other : List ℕ) → IsSome (get_member name old) → IsSome (get_member other old)
      → name_of name ≡ name_of other → name ≡ other

-- the items are those of the other list, in their order, without some
abbrev pub LacksSome : Items → Items → Type 0
LacksSome no_items no_items = ⊤
LacksSome no_items (item e es) = ⊥
LacksSome (item d ds) no_items = ⊤
LacksSome (item d ds) (item e es) = ((d ≡ e) × LacksSome ds es) ⊎ LacksSome ds (item e es)

-- What fixes may change of a value: nothing, which entries a list has, or what they may change of the members of a
-- table, by their names, and whether these may have new names.
pub data Change : Type 0 where
  nothing : Change
  entries : Change
  members : Bool → (List ℕ → Change) → Change

-- the value is the same as the one before, but for that change
abbrev pub IsSameBut : Change → Renaming → Data → Data → Type 0
IsSameBut entries MayBecome (array old) (array new) = LacksSome old new
IsSameBut (members renamed below) MayBecome (table old) (table new) =
    AreRenamed (Where renamed MayBecome) (λ name. IsSameBut (below name) MayBecome) old new
IsSameBut _ MayBecome old new = old ≡ new

-- the change of the member of that name, and nothing of another one
abbrev pub at : List ℕ → Change → List ℕ → Change
at word change name = if bytes_eq name word then change else nothing

-- the names of the members of a key of `target`
abbrev pub key_change : Change
key_change = members true (λ name. nothing)

-- the keys of `target`, and the names of the members of each
abbrev pub target_change : Change
target_change = members true (λ name. key_change)

-- the entries of `allow`
abbrev pub rules_change : Change
rules_change = members false (at (codes "allow") entries)

-- the entries of `manifest-check.allow`
abbrev pub metadata_change : Change
metadata_change = members false (at (codes "manifest-check") rules_change)

-- the entries of `metadata.manifest-check.allow`
abbrev pub part_change : Change
part_change = members false (at (codes "metadata") metadata_change)

-- what fixes may change of a member of a manifest
abbrev pub member_change : List ℕ → Change
member_change name =
    if bytes_eq name (codes "target") then target_change
    else if bytes_eq name (codes "package") || bytes_eq name (codes "workspace") then part_change
    else nothing

-- what fixes may change of a manifest: the names of its tables, of the keys of `target` and of the tables below these,
-- and the entries of the lists `allow` in `package.metadata.manifest-check` and `workspace.metadata.manifest-check`
abbrev pub manifest_change : Change
manifest_change = members true member_change

-- the fixed manifest is the manifest but for these changes
abbrev pub IsSameManifest : Renaming → Members → Members → Type 0
IsSameManifest MayBecome manifest fixed = IsSameBut manifest_change MayBecome (table manifest) (table fixed)

-- whether members of a table may change
abbrev pub has_members : Change → Bool
has_members (members renamed below) = true
has_members _ = false

-- whether entries of a list may be removed
abbrev pub has_entries : Change → Bool
has_entries entries = true
has_entries _ = false

-- whether members of a table may have new names
abbrev pub renames_members : Change → Bool
renames_members (members renamed below) = renamed
renames_members _ = false

-- what fixes may change of the member of that name
abbrev pub member_of : Change → List ℕ → Change
member_of (members renamed below) name = below name
member_of _ name = nothing

-- the members of the table are the same as those before, but for that change
abbrev pub AreSameBut : Change → Renaming → Members → Members → Type 0
AreSameBut change MayBecome =
    AreRenamed (Where (renames_members change) MayBecome) (λ name. IsSameBut (member_of change name) MayBecome)

-- the table with that name in a table
abbrev pub table_at : List ℕ → Members → Option Members
table_at name ms = option_and_then as_table (get_member name ms)

-- whether `target` of a manifest has a key
abbrev pub has_key : List ℕ → Members → Bool
has_key name manifest = is_some (option_and_then (get_member name) (table_at (codes "target") manifest))

-- how many items a list has
abbrev pub count_items : Items → ℕ
count_items no_items = 0
count_items (item d ds) = suc (count_items ds)

abbrev pub count_of : Option Data → ℕ
count_of None = 0
count_of (Some (array ds)) = count_items ds
count_of (Some _) = 0

-- how many lints `metadata.manifest-check.allow` of a part of a manifest has
abbrev pub allowed_in : List ℕ → Members → ℕ
allowed_in part manifest =
    let metadata = option_and_then (table_at (codes "metadata")) (table_at part manifest) in
    let rules = option_and_then (table_at (codes "manifest-check")) metadata in
    count_of (option_and_then (get_member (codes "allow")) rules)

-- how many lints both lists of a manifest allow
abbrev pub allowed_count : Members → ℕ
allowed_count manifest = allowed_in (codes "package") manifest + allowed_in (codes "workspace") manifest
