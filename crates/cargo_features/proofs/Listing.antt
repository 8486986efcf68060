-- A rule is listed at one more fact.
use Rattle.std.proofs.Common.{◌≡◌, ◌<◌, ℕ, List, [], ◌∷◌, ◌++◌, length, get_or, set, sym, subst, inl, inr, arith}
use Rattle.std.proofs.Common.{get_or-set_same, get_or-set_other, length-set}
use Rattle.std.specs.Prelude.{Contains}
use Rattle.std.proofs.lemmas.Bool.{cases_eq}
use Rattle.std.proofs.lemmas.List.Elements.{Contains-append_left, Contains-push}
use Rattle.cargo_features.specs.Inside.Listing.{IsListed}
use Rattle.cargo_features.specs.declared.rules.Rule.{Rule}

-- the default where nothing was read
abbrev pub no_rule : Rule
no_rule = record { first = 0; second = 0; to = 0; holds = record { words = [] } }

abbrev pub more_at : List (List ℕ) → ℕ → ℕ → List (List ℕ)
more_at lists fact rule = set lists fact (get_or lists fact [] ++ rule ∷ [])

pub listed_here : (lists : List (List ℕ)) (fact rule : ℕ) → IsListed (more_at lists fact rule) fact rule
listed_here lists fact rule inside =
    let more = get_or lists fact [] ++ rule ∷ [] in
    let fits : fact < length lists = omega (arith, inside, length-set lists fact more) in
    subst (λ (xs : List ℕ). Contains xs rule) (sym (get_or-set_same lists fact more [] fits))
    (Contains-push (get_or lists fact []) rule)

pub listed_still : (lists : List (List ℕ)) (fact rule n i : ℕ) → IsListed lists n i
    → IsListed (more_at lists fact rule) n i
listed_still lists fact rule n i before inside =
    let more = get_or lists fact [] ++ rule ∷ [] in
    let fits : n < length lists = omega (arith, inside, length-set lists fact more) in
    elim (cases_eq n fact) as (λ _. Contains (get_or (more_at lists fact rule) n []) i) [
      | inl same ↦
          rw same (subst (λ (xs : List ℕ). Contains xs i)
          (sym (get_or-set_same lists fact more [] (subst (λ (x : ℕ). x < length lists) same fits)))
          (Contains-append_left (get_or lists fact []) (rule ∷ []) i
          (subst (λ (x : ℕ). Contains (get_or lists x []) i) same (before fits))))
      | inr other ↦
          subst (λ (xs : List ℕ). Contains xs i) (sym (get_or-set_other lists fact n more [] other)) (before fits)
    ]
