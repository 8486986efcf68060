-- No target has a value that no row lists.
use Rattle.std.proofs.Common.{◌≡◌, ◌∙◌, refl, sym, true≢false, ℕ, ◌&&◌, ◌||◌, Bool, true, false, List, [], ◌∷◌, bytes_eq}
use Rattle.cargo_platform.specs.Trees.{Name, KeyPair}
use Rattle.known_targets.specs.Bits.{has}
use Rattle.known_targets.specs.Rows.{Values, Keys, has_value, has_pair, lists_text, lists_value}
use Rattle.known_targets.specs.Listed.{is_had}
use Rattle.known_targets.specs.declared.table.TheConstants.{COUNT}
use Rattle.known_targets.proofs.Found.{has_pair-contains}
use Rattle.known_targets.proofs.Listed.{none_some}

-- neither of two is true where each would follow from what is false
neither : (a b c d : Bool) → (a ≡ false → c ≡ false) → (b ≡ false → d ≡ false) → (a || b) ≡ false → (c || d) ≡ false
neither true b c d f g h = absurd (true≢false h)
neither false true c d f g h = absurd (true≢false h)
neither false false true d f g h = absurd (true≢false (f refl))
neither false false false d f g h = g refl

and_false : (a b : Bool) → a ≡ false → (a && b) ≡ false
and_false true b h = absurd (true≢false h)
and_false false b h = refl

false_and : (a b : Bool) → b ≡ false → (a && b) ≡ false
false_and true b h = h
false_and false b h = refl

no_value : (k : ℕ) (text : List ℕ) (values : Values) → lists_text text values ≡ false → has_value k text values ≡ false
no_value k text [] h = refl
no_value k text (v ∷ vs) h =
    neither (bytes_eq text v.0) (lists_text text vs) (bytes_eq text v.0 && has v.1 k) (has_value k text vs)
    (and_false (bytes_eq text v.0) (has v.1 k)) (no_value k text vs) h

no_pair : (k : ℕ) (name text : List ℕ) (keys : Keys) → lists_value text keys ≡ false → has_pair k name text keys ≡ false
no_pair k name text [] h = refl
no_pair k name text (key ∷ keys) h =
    neither (lists_text text key.2) (lists_value text keys) (bytes_eq name key.0 && has_value k text key.2)
    (has_pair k name text keys)
    (λ e. false_and (bytes_eq name key.0) (has_value k text key.2) (no_value k text key.2 e))
    (no_pair k name text keys) h

pub unlisted : (text : List ℕ) (keys : Keys) → lists_value text keys ≡ false
    → (key : Name) → is_had keys (KeyPair key text) ≡ false
unlisted text keys h key =
    none_some COUNT _ (λ k below. sym (has_pair-contains k key text keys) ∙ no_pair k key.name text keys h)
