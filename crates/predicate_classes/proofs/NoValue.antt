-- A text that is no value is none of any key.
use Rattle.std.proofs.Common.{◌≡◌, refl, sym, ap, ◌∙◌, false, ◌||◌, List, [], ◌∷◌, map, ℕ}
use Rattle.std.specs.List.{list_any}
use Rattle.std.specs.Char.{to_ascii_lowercase}
use Rattle.cargo_platform.specs.Trees.{Name, KeyPair}
use Rattle.known_targets.specs.Rows.{plain}
use Rattle.known_targets.specs.Listed.{is_had}
use Rattle.known_targets.specs.Table.{table_keys}
use Rattle.predicate_classes.specs.Classes.{has_as_value}

pub no_key : (value lower : List ℕ) → lower ≡ map to_ascii_lowercase value
    → ((key : Name) → is_had table_keys (KeyPair key lower) ≡ false)
    → (keys : List (List ℕ)) → list_any (has_as_value value) keys ≡ false
no_key value lower is none [] = refl
no_key value lower is none (key ∷ keys) =
    ap (λ b. b || list_any (has_as_value value) keys)
    (ap (λ v. is_had table_keys (KeyPair (plain key) v)) (sym is) ∙ none (plain key))
    ∙ no_key value lower is none keys
