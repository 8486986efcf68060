-- Lines after a report.
use Rattle.std.proofs.Common.{◌≡◌, ◌<◌, ◌+◌, ◌∙◌, ℕ, List, [], ◌∷◌, ◌++◌, length, get_or, take, map, sym, ap}
use Rattle.std.proofs.Common.{append_assoc}
use Rattle.std.proofs.lemmas.List.{map_more, flat_map_more}
use Rattle.cargo_platform.specs.Lines.{line, ended}

-- a text and its line end
pub one_line : (now told new bytes text : List ℕ) → told ≡ now ++ bytes → bytes ≡ text → new ≡ told ++ 10 ∷ []
    → new ≡ now ++ line text
one_line now told new bytes text t same e =
    e ∙ ap (λ z. z ++ 10 ∷ []) (t ∙ ap (λ z. now ++ z) same) ∙ append_assoc now text (10 ∷ [])

-- one more text has its line
pub one_more_line : {A : Type 0} (text_of : A → List ℕ) (ts : List A) (i : ℕ) (t : A) (old now new : List ℕ)
    → i < length ts → t ≡ get_or ts i t → now ≡ old ++ ended (map text_of (take i ts)) → new ≡ now ++ line (text_of t)
    → new ≡ old ++ ended (map text_of (take (i + 1) ts))
one_more_line {A} text_of ts i t old now new below is h next =
    next ∙ ap (λ z. z ++ line (text_of t)) h
    ∙ flat_map_more line old (map text_of (take i ts)) (text_of t)
    ∙ ap (λ (z : A). old ++ ended (map text_of (take i ts) ++ text_of z ∷ [])) is
    ∙ ap (λ zs. old ++ ended zs) (sym (map_more text_of ts i t below))
