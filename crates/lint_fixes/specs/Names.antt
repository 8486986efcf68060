-- The names that members of a table have once it is fixed.
use Rattle.std.specs.Prelude.{◌≡◌, ℕ, Bool, IsSome, is_some, List, Option, Some, option_map, unwrap_or}
use Rattle.std.specs.Prelude.{if◌then◌else◌, not, string_bytes, String}
use Rattle.std.specs.Borrow.{Bor}
use Rattle.std.specs.declared.alloc.Global.{Global}
use Rattle.std.specs.BTreeMap.{BTreeMap, get_by, get_by_text}
use Rattle.std.specs.Cmp.Lexicographic.{slice_cmp}
use Rattle.std.specs.Ordering.{nat_cmp}
use Rattle.toml.specs.Data.{Members, get_member}
use Rattle.lint_fixes.specs.declared.sameness.Place.{Place}
use Rattle.lint_fixes.specs.declared.sameness.Place.TheVariants.{Manifest, Target, Key, Part, Metadata, Rules}
use Rattle.lint_fixes.specs.declared.sameness.Place.TheVariants.{Allowed, Other}
use Rattle.lint_fixes.specs.Sameness.{Change, nothing, entries, manifest_change, target_change, key_change}
use Rattle.lint_fixes.specs.Sameness.{part_change, metadata_change, rules_change, Renaming}

-- what fixes may change at a place
abbrev pub change_at : Place → Change
change_at Manifest = manifest_change
change_at Target = target_change
change_at Key = key_change
change_at Part = part_change
change_at Metadata = metadata_change
change_at Rules = rules_change
change_at Allowed = entries
change_at Other = nothing

-- the map has the new name at the name
abbrev pub IsRename : BTreeMap (String Global) (String Global) → Renaming
IsRename renames name new = option_map string_bytes (get_by_text renames name) ≡ Some new

-- The name of a member in the fixed table: where names may change, a name that it does not have is renamed.
abbrev pub name_in : Bool → Members → BTreeMap (String Global) (String Global) → List ℕ → List ℕ
name_in renamed fixed renames name =
    if not renamed then name
    else if is_some (get_member name fixed) then name
    else unwrap_or (option_map string_bytes (get_by_text renames name)) name

-- The old name of a member, by its new one.
abbrev pub old_name : BTreeMap (Bor (List ℕ)) (Bor (List ℕ)) → List ℕ → Option (List ℕ)
old_name names new = option_map (λ name. name.now) (get_by (λ key. slice_cmp nat_cmp new key.now) names)

-- the map has the old name of each member by its new one, and no others
pub record AreOldNames (new_name : List ℕ → List ℕ) (members : Members) (names : BTreeMap (Bor (List ℕ)) (Bor (List ℕ)))
    : Type 0 where
  pub found : (name : List ℕ) → IsSome (get_member name members) → old_name names (new_name name) ≡ Some name
  pub only : (new name : List ℕ) → old_name names new ≡ Some name → (new_name name
      ≡ new) × IsSome (get_member name members)
