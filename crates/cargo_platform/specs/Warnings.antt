-- The values of a tree from left to right, and the warnings about them.
use Rattle.std.specs.Prelude.{◌≡◌, ℕ, Bool, ◌||◌, if◌then◌else◌, List, [], ◌∷◌, ◌++◌, codes, bytes_eq, flat_map}
use Rattle.cargo_platform.specs.Trees.{Name, CfgValue, Alone, KeyPair, Tree, Not, All, Any, Value, True, False, Trees}
use Rattle.cargo_platform.specs.Trees.{none, tree, Condition, Target, Expression}
use Rattle.cargo_platform.specs.Spelling.{is_literal_word}
use Rattle.cargo_platform.specs.Print.{print_name, print_value}

abbrev mutual
  pub values : Tree → List CfgValue
  values (Not e) = values e
  values (All es) = members_values es
  values (Any es) = members_values es
  values (Value c) = c ∷ []
  values True = []
  values False = []

  pub members_values : Trees → List CfgValue
  members_values none = []
  members_values (tree e es) = values e ++ members_values es

-- a platform's values: those of its expression, and none of a target name
abbrev pub condition_values : Condition → List CfgValue
condition_values (Target name) = []
condition_values (Expression e) = values e

-- the part of the warning after the name
abbrev pub unsupported_text : List ℕ
unsupported_text =
    codes "` in `target.'cfg(...)'.dependencies`. "
    ++ codes "This value is not supported for selecting dependencies and will not work as expected. "
    ++ codes "To learn more visit "
    ++ codes "https://doc.rust-lang.org/cargo/reference/specifying-dependencies.html#platform-specific-dependencies"

-- the warning about a name that no target sets
abbrev pub unsupported_name : Name → List ℕ
unsupported_name n = codes "Found `" ++ print_name n ++ unsupported_text

-- the warning about the key `feature`
abbrev pub unsupported_feature : List ℕ
unsupported_feature =
    codes "Found `feature = ...` in `target.'cfg(...)'.dependencies`. "
    ++ codes "This key is not supported for selecting dependencies and will not work as expected. "
    ++ codes "Use the [features] section instead: https://doc.rust-lang.org/cargo/reference/features.html"

-- the warning about a keyword in place of an identifier
abbrev pub keyword_warning : List ℕ → CfgValue → List ℕ → List ℕ
keyword_warning path c word =
    codes "[" ++ path ++ codes "] future-incompatibility: `cfg(" ++ print_value c ++ codes ")` is deprecated as `"
    ++ word
    ++ codes "` is a keyword and not an identifier "
    ++ codes "and should not have have been accepted in this position.\n"
    ++ codes " | this was previously accepted by Cargo but is being phased out; "
    ++ codes "it will become a hard error in a future release!\n |\n"
    ++ codes " | help: use raw-idents instead: `cfg(r#" ++ word ++ codes ")`"

abbrev pub is_unsupported_name : Name → Bool
is_unsupported_name n =
    bytes_eq n.name (codes "test") || bytes_eq n.name (codes "debug_assertions") || bytes_eq n.name (codes "proc_macro")

-- marked or not, `test`, `debug_assertions` and `proc_macro` alone, and the key `feature`
abbrev pub attribute_warning : CfgValue → List (List ℕ)
attribute_warning (Alone n) = if is_unsupported_name n then unsupported_name n ∷ [] else []
attribute_warning (KeyPair k v) = if bytes_eq k.name (codes "feature") then unsupported_feature ∷ [] else []

-- unmarked `true` and `false`, alone or as a key
abbrev pub keyword_warning_at : List ℕ → CfgValue → Name → List (List ℕ)
keyword_warning_at path c n = if is_literal_word n then keyword_warning path c n.name ∷ [] else []

abbrev pub keyword_warning_of : List ℕ → CfgValue → List (List ℕ)
keyword_warning_of path (Alone n) = keyword_warning_at path (Alone n) n
keyword_warning_of path (KeyPair k v) = keyword_warning_at path (KeyPair k v) k

abbrev pub attribute_warnings : Condition → List (List ℕ)
attribute_warnings p = flat_map attribute_warning (condition_values p)

abbrev pub keyword_warnings : List ℕ → Condition → List (List ℕ)
keyword_warnings path p = flat_map (keyword_warning_of path) (condition_values p)

-- the second list begins with the first
abbrev pub IsLonger : List (List ℕ) → List (List ℕ) → Type 0
IsLonger longer texts = (more : List (List ℕ)) × (longer ≡ texts ++ more)
