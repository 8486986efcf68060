-- The names and keys of rustc, and other constants, by value.
use Rattle.std.specs.Prelude.{◌≡◌, List, [], ◌∷◌, codes}
use Rattle.predicate_classes.specs.declared.classes.TheConstants.{SHORTEST}
use Rattle.predicate_classes.specs.Classes.{valued, flagged, plain_names, named_by_value, flag_names}
use Rattle.predicate_classes.specs.Classes.{unstable_names, unstable_keys}

-- the keys that rustc sets with a value, whatever the flags are
abbrev pub AreValued : Type 0
AreValued =
    valued
    ≡ codes "target_abi" ∷ codes "target_arch" ∷ codes "target_endian" ∷ codes "target_env" ∷ codes "target_family"
    ∷ codes "target_has_atomic" ∷ codes "target_os" ∷ codes "target_pointer_width" ∷ codes "target_vendor" ∷ []

-- the keys whose values depend on flags and profiles
abbrev pub AreFlagged : Type 0
AreFlagged = flagged ≡ codes "panic" ∷ codes "target_feature" ∷ []

-- the names that rustc sets without a value
abbrev pub ArePlain : Type 0
ArePlain = plain_names ≡ codes "debug_assertions" ∷ codes "unix" ∷ codes "windows" ∷ []

-- the names, and the keys of pairs, that only unstable features of rustc set
abbrev pub AreUnstableNames : Type 0
AreUnstableNames =
    unstable_names
    ≡ codes "contract_checks" ∷ codes "emscripten_wasm_eh" ∷ codes "miri" ∷ codes "overflow_checks"
    ∷ codes "sanitizer_cfi_generalize_pointers" ∷ codes "sanitizer_cfi_normalize_integers" ∷ codes "target_has_atomic"
    ∷ codes "target_has_atomic_equal_alignment" ∷ codes "target_has_atomic_load_store"
    ∷ codes "target_has_reliable_f128" ∷ codes "target_has_reliable_f128_math" ∷ codes "target_has_reliable_f16"
    ∷ codes "target_has_reliable_f16_math" ∷ codes "target_thread_local" ∷ codes "ub_checks" ∷ []

abbrev pub AreUnstableKeys : Type 0
AreUnstableKeys =
    unstable_keys
    ≡ codes "fmt_debug" ∷ codes "relocation_model" ∷ codes "sanitize" ∷ codes "target_has_atomic_equal_alignment"
    ∷ codes "target_has_atomic_load_store" ∷ []

-- the keys whose values are searched for a name, in order
abbrev pub AreNamedByValue : Type 0
AreNamedByValue =
    named_by_value
    ≡ codes "target_os" ∷ codes "target_arch" ∷ codes "target_family" ∷ codes "target_env" ∷ codes "target_vendor"
    ∷ codes "target_abi" ∷ codes "target_endian" ∷ codes "target_pointer_width" ∷ codes "panic" ∷ []

-- the names and keys that are open in each condition
abbrev pub AreOfFlags : Type 0
AreOfFlags = flag_names ≡ codes "debug_assertions" ∷ codes "panic" ∷ codes "target_feature" ∷ []

-- a name of fewer bytes is not similar to another one
abbrev pub IsShortest : Type 0
IsShortest = SHORTEST ≡ 4
