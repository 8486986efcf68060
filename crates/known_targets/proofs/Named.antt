-- A set of names has those that a list has.
use Rattle.std.proofs.Common.{◌≡◌, ◌∙◌, ap, ℕ, List, [], ◌∷◌, ◌||◌, refl}
use Rattle.std.specs.Prelude.{bytes_eq}
use Rattle.std.specs.List.{list_any}
use Rattle.std.specs.Borrow.{Bor}
use Rattle.std.specs.BTreeSet.{BTreeSet, IsFromIterResult}
use Rattle.std.specs.Ordering.{is_eq}
use Rattle.std.proofs.lemmas.Map.Text.{is_eq-slice_cmp}
use Rattle.cargo_platform.specs.Key.{text_cmp}
use Rattle.partial_facts.specs.Partly.{is_named, names_of}
use Rattle.known_targets.specs.Open.{HasNames}

named_by_order : (name : List ℕ) (names : List (Bor (List ℕ)))
    → list_any (λ n. is_eq (text_cmp name n.now)) names ≡ is_named name (names_of names)
named_by_order name [] = refl
named_by_order name (n ∷ ns) =
    ap (λ b. b || list_any (λ n. is_eq (text_cmp name n.now)) ns) (is_eq-slice_cmp name n.now)
    ∙ ap (λ b. bytes_eq name n.now || b) (named_by_order name ns)

pub has_names : (names : List (Bor (List ℕ))) (set : BTreeSet (Bor (List ℕ)))
    → IsFromIterResult (λ x y. text_cmp x.now y.now) names set → HasNames (names_of names) set
has_names names set is name = is.0 (record { ref_ptr = (0, 0); now = name }) ∙ named_by_order name names
