-- The packages of lock files.
use Rattle.std.specs.Prelude.{ℕ, Bool, ◌&&◌, List, [], ◌∷◌, ◌++◌, Option, bytes_eq, string_bytes, if◌then◌else◌}
use Rattle.std.specs.Option.{option_map_or}
use Rattle.std.specs.BTreeMap.{get_by_text}
use Rattle.cyclonedx.specs.declared.lock.LockedPackage.{LockedPackage}
use Rattle.cyclonedx.specs.declared.lock.LockFile.{LockFile}

-- the packages with this name, in the order in which they were added
abbrev pub group_at : LockFile → List ℕ → List LockedPackage
group_at lock name = option_map_or (λ group. group.items) (get_by_text lock.by_name name) []

-- the packages with a name after one more was added
abbrev pub group_with : LockFile → List ℕ → LockedPackage → List ℕ → List LockedPackage
group_with lock name locked other =
    if bytes_eq other name then group_at lock other ++ locked ∷ [] else group_at lock other

-- the package has this version and source
abbrev pub is_locked : List ℕ → List ℕ → LockedPackage → Bool
is_locked version source locked =
    bytes_eq (string_bytes locked.version) version && bytes_eq (string_bytes locked.source) source
