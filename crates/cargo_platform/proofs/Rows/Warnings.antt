-- The values of some expressions from left to right, and the warnings on them.
use Rattle.std.proofs.Common.{◌≡◌, refl, ap, ℕ, true≢false, List, [], ◌∷◌, ◌++◌, codes, arith, length, get_or}
use Rattle.std.specs.Prelude.{bytes_eq, IsTrue, IsFalse}
use Rattle.cargo_platform.specs.Trees.{CfgValue, Alone, KeyPair, Not, All, Any, Value, True, none, trees_of, Target}
use Rattle.cargo_platform.specs.Trees.{Expression}
use Rattle.cargo_platform.specs.Warnings.{values, members_values, condition_values, unsupported_name}
use Rattle.cargo_platform.specs.Warnings.{unsupported_feature, keyword_warning, is_unsupported_name, attribute_warning}
use Rattle.cargo_platform.specs.Warnings.{keyword_warning_at, keyword_warning_of, attribute_warnings, keyword_warnings}
use Rattle.cargo_platform.specs.Warnings.{IsLonger}
use Rattle.cargo_platform.proofs.Rows.Trees.{name, marked, a}

abbrev alone : List ℕ → CfgValue
alone s = Alone (name s)

-- ---- values

values_in_order : values
    (All (trees_of
    (Value (alone (codes "c")) ∷ Not (Any (trees_of (a ∷ True ∷ []))) ∷ Value (alone (codes "b")) ∷ []))) ≡ alone
    (codes "c") ∷ alone (codes "a") ∷ alone (codes "b") ∷ []
values_in_order = refl

-- a value that occurs twice is listed twice
values_of_members : (members_values (trees_of (a ∷ a ∷ [])) ≡ alone (codes "a") ∷ alone (codes "a") ∷ [])
    × (members_values none ≡ [])
values_of_members = (refl, refl)

values_of_conditions : (condition_values (Target (codes "test")) ≡ [])
    × (condition_values (Expression a) ≡ alone (codes "a") ∷ [])
values_of_conditions = (refl, refl)

-- ---- names and keys that are not supported

unsupported_names : IsTrue (is_unsupported_name (name (codes "test")))
    × IsTrue (is_unsupported_name (name (codes "debug_assertions")))
    × IsTrue (is_unsupported_name (marked (codes "proc_macro")))
unsupported_names = (refl, refl, refl)

supported_names : IsFalse (is_unsupported_name (name (codes "unix")))
    × IsFalse (is_unsupported_name (name (codes "tests"))) × IsFalse (is_unsupported_name (name (codes "feature")))
supported_names = (refl, refl, refl)

test_text : unsupported_name
    (name (codes "test"))
    ≡ codes "Found `test` in `target.'cfg(...)'.dependencies`. "
    ++ codes "This value is not supported for selecting dependencies and will not work as expected. "
    ++ codes "To learn more visit "
    ++ codes "https://doc.rust-lang.org/cargo/reference/specifying-dependencies.html#platform-specific-dependencies"
test_text = refl

-- the mark is printed
mark_is_seen : unsupported_name (name (codes "test")) ≡ unsupported_name (marked (codes "test")) → ⊥
mark_is_seen p = absurd (omega (arith, ap length p))

unix_is_fine : attribute_warning (alone (codes "unix")) ≡ []
unix_is_fine = refl

test_warns : (attribute_warning (alone (codes "test")) ≡ unsupported_name (name (codes "test")) ∷ [])
    × (attribute_warning (Alone (marked (codes "test"))) ≡ unsupported_name (marked (codes "test")) ∷ [])
test_warns = (refl, refl)

-- `test = "1"` and `feature` are fine
forms_are_fine : (attribute_warning (KeyPair (name (codes "test")) (codes "1")) ≡ [])
    × (attribute_warning (alone (codes "feature")) ≡ [])
forms_are_fine = (refl, refl)

-- `feature = "x"`
feature_warns : attribute_warning (KeyPair (name (codes "feature")) (codes "x")) ≡ unsupported_feature ∷ []
feature_warns = refl

feature_is_not_fine : attribute_warning (KeyPair (marked (codes "feature")) []) ≡ [] → ⊥
feature_is_not_fine p = absurd cc

-- ---- keywords

-- `true = "x"`
abbrev true_key : CfgValue
true_key = KeyPair (name (codes "true")) (codes "x")

keyword_warns : keyword_warning_of (codes "p") true_key ≡ keyword_warning (codes "p") true_key (codes "true") ∷ []
keyword_warns = refl

keyword_text : keyword_warning (codes "p") true_key
    (codes "true")
    ≡ codes "[p] future-incompatibility: `cfg(true = \"x\")` is deprecated as `true` is a keyword "
    ++ codes "and not an identifier "
    ++ codes "and should not have have been accepted in this position.\n"
    ++ codes " | this was previously accepted by Cargo but is being phased out; "
    ++ codes "it will become a hard error in a future release!\n |\n"
    ++ codes " | help: use raw-idents instead: `cfg(r#true)`"
keyword_text = refl

keyword_alone_warns : keyword_warning_at [] (alone (codes "false")) (name (codes "false")) ≡ keyword_warning []
    (alone (codes "false")) (codes "false") ∷ []
keyword_alone_warns = refl

-- `r#true = "x"`
marked_is_fine : keyword_warning_of (codes "p") (KeyPair (marked (codes "true")) (codes "x")) ≡ []
marked_is_fine = refl

unmarked_is_not_fine : (path : List ℕ) → keyword_warning_of path true_key ≡ [] → ⊥
unmarked_is_not_fine path p = absurd cc

-- no other word is a keyword, and no value
other_words_are_fine : (keyword_warning_of [] (alone (codes "all")) ≡ [])
    × (keyword_warning_of [] (KeyPair (name (codes "k")) (codes "true")) ≡ [])
other_words_are_fine = (refl, refl)

-- ---- conditions

-- one for each value, also inside `not`, in their order
all_warn : attribute_warnings
    (Expression
    (Any (trees_of
    (Value (KeyPair (name (codes "feature")) (codes "x")) ∷ a ∷ Not (Value (alone (codes "test"))) ∷ []))))
    ≡ unsupported_feature ∷ unsupported_name (name (codes "test")) ∷ []
all_warn = refl

target_is_fine : (attribute_warnings (Target (codes "test")) ≡ []) × (keyword_warnings [] (Target (codes "true")) ≡ [])
target_is_fine = (refl, refl)

inner_keyword_warns : keyword_warnings (codes "p")
    (Expression (Not (All (trees_of (Value true_key ∷ True ∷ []))))) ≡ keyword_warning (codes "p") true_key
    (codes "true") ∷ []
inner_keyword_warns = refl

inner_test_is_not_fine : attribute_warnings (Expression (Not (Value (alone (codes "test"))))) ≡ [] → ⊥
inner_test_is_not_fine p = absurd cc

-- ---- longer lists

longer : IsLonger (codes "a" ∷ codes "b" ∷ []) (codes "a" ∷ [])
longer = (codes "b" ∷ [], refl)

as_long : IsLonger (codes "a" ∷ []) (codes "a" ∷ [])
as_long = ([], refl)

-- what is there stays there, and at the front
not_longer : IsLonger [] (codes "a" ∷ []) → ⊥
not_longer p = absurd (let e = p.1 in cc)

not_behind : IsLonger (codes "b" ∷ codes "a" ∷ []) (codes "a" ∷ []) → ⊥
not_behind p = true≢false (ap (λ (z : List (List ℕ)). bytes_eq (get_or z 0 []) (codes "b")) p.1)
