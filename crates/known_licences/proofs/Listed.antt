-- What a search through names finds.
use Rattle.std.proofs.Common.{◌≡◌, ◌∙◌, ◌⊎◌, sym, ap, subst, ℕ, ◌+◌, ◌<◌, List, ◌++◌, length, get_or, drop, Bor}
use Rattle.std.proofs.Common.{Option, Some, None, IfSome, Bool, true, false, cond, map, inl, inr}
use Rattle.std.specs.Option.{option_or}
use Rattle.std.specs.Str.{str_eq_ignore_ascii_case}
use Rattle.std.specs.Bool.{Decides}
use Rattle.std.specs.Char.{to_ascii_lowercase}
use Rattle.std.proofs.lemmas.Bool.Decides.{same_from_decides}
use Rattle.std.proofs.lemmas.Slice.Eq.{bytes_eq-Decides}
use Rattle.std.proofs.lemmas.List.{drop_more}
use Rattle.std.proofs.lemmas.List.Folds.{find-append}
use Rattle.std.proofs.lemmas.List.Elements.{Contains-append_left, Contains-append_right}
use Rattle.known_licences.specs.Identifiers.{names_of, listed}
use Rattle.known_licences.specs.Nearest.{IsNear, IsOffered, IsOneOf}
use Rattle.known_licences.specs.declared.nearest.Near.{Near}

-- a test that compares a text with a name, whatever the case of letters
abbrev Tests : Bool → List ℕ → List ℕ → Type 0
Tests test name text = Decides test (map to_ascii_lowercase name ≡ map to_ascii_lowercase text)

is_test : (test : Bool) (name text : List ℕ) → Tests test name text → str_eq_ignore_ascii_case name text ≡ test
is_test test name text t = same_from_decides (str_eq_ignore_ascii_case name text) test (bytes_eq-Decides _ _) t

-- the name at a place decides what a search from there finds
step : (names : List (Bor (List ℕ))) (text : List ℕ) (i : ℕ) (d : Bor (List ℕ)) (test : Bool) → i < length names
    → Tests test (get_or names i d).now text
    → listed (names_of (drop i names)) text
    ≡ cond test (Some (get_or names i d).now) (listed (names_of (drop (i + 1) names)) text)
step names text i d test l t =
    ap (λ left. listed (names_of left) text) (drop_more names i d l)
    ∙ ap (λ t. cond t (Some (get_or names i d).now) (listed (names_of (drop (i + 1) names)) text))
    (is_test test (get_or names i d).now text t)

-- it is what the search finds
pub found_at : (names : List (Bor (List ℕ))) (text : List ℕ) (i : ℕ) (d : Bor (List ℕ)) (test : Bool)
    → i < length names → Tests test (get_or names i d).now text → test ≡ true
    → listed (names_of (drop i names)) text ≡ Some (get_or names i d).now
found_at names text i d test l t so =
    step names text i d test l t
    ∙ ap (λ t. cond t (Some (get_or names i d).now) (listed (names_of (drop (i + 1) names)) text)) so

-- the search passes over it
pub passed_at : (names : List (Bor (List ℕ))) (text : List ℕ) (i : ℕ) (d : Bor (List ℕ)) (test : Bool)
    → i < length names → Tests test (get_or names i d).now text → test ≡ false
    → listed (names_of (drop i names)) text ≡ listed (names_of (drop (i + 1) names)) text
passed_at names text i d test l t failed =
    step names text i d test l t
    ∙ ap (λ t. cond t (Some (get_or names i d).now) (listed (names_of (drop (i + 1) names)) text)) failed

-- a search through two lists finds what the first one has
pub in_first : (first other : List (List ℕ)) (text name : List ℕ) → listed first text ≡ Some name
    → Some name ≡ listed (first ++ other) text
in_first first other text name e =
    sym (find-append (λ n. str_eq_ignore_ascii_case n text) first other
    ∙ ap (λ found. option_or found (listed other text)) e)

-- and else what the other one has
pub in_other : (first other : List (List ℕ)) (text : List ℕ) (found : Option (List ℕ)) → listed first text ≡ None
    → found ≡ listed other text → found ≡ listed (first ++ other) text
in_other first other text found none e =
    e ∙ sym (find-append (λ n. str_eq_ignore_ascii_case n text) first other
    ∙ ap (λ f. option_or f (listed other text)) none)

-- what is near in one of two lists is near in both together
pub one_of : (first other : List (List ℕ)) (text : List ℕ) (near : Near) (a b : Option Near)
    → IfSome a (IsOffered first text) → IfSome b (IsOffered other text) → IsOneOf near a b
    → IsNear (first ++ other) text near.name.now
one_of first other text near a b of_a of_b (inl e) =
    let o = subst (λ f. IfSome f (IsOffered first text)) e of_a
    in (Contains-append_left first other near.name.now o.0.0, o.0.1)
one_of first other text near a b of_a of_b (inr e) =
    let o = subst (λ f. IfSome f (IsOffered other text)) e of_b
    in (Contains-append_right first other near.name.now o.0.0, o.0.1)
