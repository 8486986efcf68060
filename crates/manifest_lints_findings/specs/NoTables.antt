-- The parts of the value of a key of `target` that are not dependency tables.
use Rattle.std.specs.Prelude.{ℕ, Bool, true, false, List, [], ◌∷◌, ◌++◌, not, ◌&&◌, ◌||◌, cond, codes, bytes_eq}
use Rattle.std.specs.Prelude.{Option, Some, None, is_some}
use Rattle.std.specs.List.{list_any}
use Rattle.toml.specs.Data.{Data, Members, no_members, member, as_table}

-- the names that Cargo reads under a key
abbrev pub is_table_name : List ℕ → Bool
is_table_name name =
    list_any (bytes_eq name)
    (codes "dependencies" ∷ codes "dev-dependencies" ∷ codes "dev_dependencies" ∷ codes "build-dependencies"
    ∷ codes "build_dependencies" ∷ [])

-- true if some member has another name, or is not a table
abbrev pub has_no_table : Members → Bool
has_no_table no_members = false
has_no_table (member name d ds) = not (is_table_name name && is_some (as_table d)) || has_no_table ds

-- the names of these members
abbrev pub names_of_no_tables : Members → List (List ℕ)
names_of_no_tables no_members = []
names_of_no_tables (member name d ds) =
    cond (is_table_name name && is_some (as_table d)) [] (name ∷ []) ++ names_of_no_tables ds

abbrev pub no_table_names_by : Option Members → List (List ℕ)
no_table_names_by (Some ds) = names_of_no_tables ds
no_table_names_by None = []

-- those in the value of a key
abbrev pub no_table_names : Data → List (List ℕ)
no_table_names d = no_table_names_by (as_table d)

-- true if the value of a key is not a table, or has such a member
abbrev pub is_no_table_by : Option Members → Bool
is_no_table_by (Some ds) = has_no_table ds
is_no_table_by None = true

abbrev pub is_no_table : Data → Bool
is_no_table d = is_no_table_by (as_table d)

abbrev pub is_empty_list : {X : Type 0} → List X → Bool
is_empty_list [] = true
is_empty_list (x ∷ xs) = false
