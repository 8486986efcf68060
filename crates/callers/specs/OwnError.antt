-- The contents of an error of a manifest.
use Rattle.std.specs.Prelude.{◌≡◌, ℕ, List, ◌++◌, codes, Option, Some, None}
use Rattle.std.specs.Fmt.{decimal}
use Rattle.cargo_platform.specs.Trees.{Condition}
use Rattle.cargo_platform.specs.Platforms.{IsConditionText, IsRefusedCondition}
use Rattle.cargo_platform.specs.Errors.{orig_of, fault_in}
use Rattle.cargo_platform.specs.Print.{print_error}
use Rattle.callers.specs.declared.conditions.own_error.ManifestError.{ManifestError}
use Rattle.callers.specs.declared.conditions.own_error.ManifestError.TheVariants.{Key, Memory}

-- the key in this line is not a condition, and the error is that of the key
abbrev pub IsErrorOf : ℕ → List ℕ → ManifestError → Type 0
IsErrorOf line key (Key n e) =
    (n ≡ line) × ((p : Condition) → IsConditionText key p → ⊥) × IsRefusedCondition key (orig_of e) (fault_in e)
IsErrorOf line key (Memory e) = Unit {0}

-- the text of an error: the file, the line of the key, and the text of its error; none for an allocation failure
abbrev pub print_manifest_error : ManifestError → Option (List ℕ)
print_manifest_error (Key n e) =
    Some (codes "Cargo.toml:" ++ (decimal n ++ (codes ": " ++ print_error (orig_of e) (fault_in e))))
print_manifest_error (Memory e) = None
