-- The constants of reports, by value.
use Rattle.std.specs.Prelude.{◌≡◌, [], ◌∷◌, codes, map}
use Rattle.partial_facts.specs.declared.one_valued.TheConstants.{ONE_VALUED}
use Rattle.manifest_lints.specs.declared.at_targets.TheConstants.{MAX_OPEN_NAMES, MAX_SPLITS_PER_TARGET}
use Rattle.manifest_lints.specs.declared.deciding.TheConstants.{MAX_FULLY_SEARCHED_FACTS, MAX_NESTING, SPLITS}
use Rattle.manifest_lints.specs.declared.earlier.TheConstants.{MAX_COMPARED_KEYS, MAX_COMPARISON_WORK}

-- the keys for which rustc sets at most one value
abbrev pub AreOneValued : Type 0
AreOneValued =
    map (λ t. t.now) ONE_VALUED.now
    ≡ codes "panic" ∷ codes "target_abi" ∷ codes "target_arch" ∷ codes "target_endian" ∷ codes "target_env"
    ∷ codes "target_os" ∷ codes "target_pointer_width" ∷ codes "target_vendor" ∷ []

-- the number of open names and keys that are not too many
abbrev pub AreMany : Type 0
AreMany = MAX_OPEN_NAMES ≡ 4096

-- the number of nested parentheses that are not too deep
abbrev pub AreLevels : Type 0
AreLevels = MAX_NESTING ≡ 20000

-- the number of keys before one that are not too many, and its product with their bytes
abbrev pub AreCompared : Type 0
AreCompared = (MAX_COMPARED_KEYS ≡ 64) × (MAX_COMPARISON_WORK ≡ 1048576)

-- the number of facts of a condition that are few, and of case splits on a known target
abbrev pub AreFewAt : Type 0
AreFewAt = (MAX_FULLY_SEARCHED_FACTS ≡ 64) × (MAX_SPLITS_PER_TARGET ≡ 64)

-- the number of case splits of a search over sets of facts, for a condition with few facts
abbrev pub AreSplits : Type 0
AreSplits = SPLITS ≡ 1024
