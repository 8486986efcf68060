-- One more step, and its rule.
use Rattle.std.proofs.Common.{◌≡◌, ◌<◌, ℕ, ◌+◌, List, [], ◌∷◌, ◌++◌, length, get_or, sym, subst, inl, inr, arith}
use Rattle.std.proofs.lemmas.Bool.{cases_lt}
use Rattle.std.proofs.lemmas.List.{length_push, get_or_push, get_or_append_left}
use Rattle.known_targets.specs.declared.known.KnownTarget.{KnownTarget}
use Rattle.cargo_features.specs.declared.rules.Rule.{Rule}
use Rattle.cargo_features.specs.Inside.Numbered.{IsNumbered, AreNumbered}
use Rattle.cargo_features.specs.declared.claims.Step.{Step}
use Rattle.cargo_features.specs.declared.packages.Package.{Package}

pub numbered_push : (packages : List Package) (host : KnownTarget) (steps : List Step) (rules : List Rule)
    (step : Step) (rule : Rule) → AreNumbered packages host steps rules → IsNumbered packages host step rule
    → AreNumbered packages host (steps ++ step ∷ []) (rules ++ rule ∷ [])
numbered_push packages host steps rules step rule are is =
    let more = length_push steps step in
    let many = length_push rules rule in
    let same = are.count in
    record {
      count = omega (arith, more, many, same);
      each = λ i below s r.
          elim (cases_lt i (length steps))
          as (λ _. IsNumbered packages host (get_or (steps ++ step ∷ []) i s) (get_or (rules ++ rule ∷ []) i r)) [
            | inl low ↦
                let at : i < length rules = omega (arith, low, same) in
                subst (λ (x : Step). IsNumbered packages host x (get_or (rules ++ rule ∷ []) i r))
                (sym (get_or_append_left steps (step ∷ []) s i low))
                (subst (λ (x : Rule). IsNumbered packages host (get_or steps i s) x)
                (sym (get_or_append_left rules (rule ∷ []) r i at)) (are.each i low s r))
            | inr high ↦
                let last : length steps ≡ i = omega (arith, more, high, below) in
                let end : length rules ≡ i = omega (arith, last, same) in
                subst (λ (x : Step). IsNumbered packages host x (get_or (rules ++ rule ∷ []) i r))
                (sym (get_or_push steps step s i last))
                (subst (λ (x : Rule). IsNumbered packages host step x)
                (sym (get_or_push rules rule r i end)) is)
          ];
    }
