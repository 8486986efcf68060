-- What is written of accepted lines.
use Rattle.std.proofs.Common.{◌≡◌, ◌<◌, ◌+◌, ◌∙◌, ℕ, List, [], ◌∷◌, ◌++◌, codes, length, get_or, take, map, flat_map}
use Rattle.std.proofs.Common.{sym, ap, append_assoc}
use Rattle.std.proofs.lemmas.List.{map_more, flat_map_more}
use Rattle.platform_answers.specs.Answering.{warning_line}

-- the three parts of a warning's line
pub one_line : (now begun told new bytes warning : List ℕ) → begun ≡ now ++ codes "warning: " → told ≡ begun ++ bytes
    → bytes ≡ warning → new ≡ told ++ 10 ∷ []
    → new ≡ now ++ warning_line warning
one_line now begun told new bytes warning b t same e =
    e ∙ ap (λ z. z ++ 10 ∷ []) (t ∙ (λ i. b i ++ same i) ∙ append_assoc now (codes "warning: ") warning)
    ∙ append_assoc now (codes "warning: " ++ warning) (10 ∷ [])

-- one more warning has its line
pub one_more_line : {A : Type 0} (text_of : A → List ℕ) (ws : List A) (i : ℕ) (w : A) (old now new : List ℕ)
    → i < length ws → w ≡ get_or ws i w
    → now ≡ old ++ flat_map warning_line (map text_of (take i ws)) → new ≡ now ++ warning_line (text_of w)
    → new ≡ old ++ flat_map warning_line (map text_of (take (i + 1) ws))
one_more_line {A} text_of ws i w old now new below is h next =
    next ∙ ap (λ z. z ++ warning_line (text_of w)) h
    ∙ flat_map_more warning_line old (map text_of (take i ws)) (text_of w)
    ∙ ap (λ (z : A). old ++ flat_map warning_line (map text_of (take i ws) ++ text_of z ∷ [])) is
    ∙ ap (λ zs. old ++ flat_map warning_line zs) (sym (map_more text_of ws i w below))
