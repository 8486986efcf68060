-- A map of names after one more name.
use Rattle.std.proofs.Common.{◌≡◌, ℕ, List, Bool, true, false, cond, Option, Some, None, IsSome, is_some, option_map}
use Rattle.std.proofs.Common.{Bor, bytes_eq, refl, sym, ap, ◌∙◌, subst, inl, inr}
use Rattle.std.proofs.lemmas.Bool.{cases_Bool}
use Rattle.std.proofs.lemmas.Slice.Eq.{bytes_eq-Decides}

-- the map g has the value at that name, and is otherwise f
abbrev pub HasAlso : (List ℕ → Option (List ℕ)) → (List ℕ → Option (List ℕ)) → List ℕ → List ℕ → Type 0
HasAlso f g new name = (other : List ℕ) → g other ≡ cond (bytes_eq new other) (Some name) (f other)

mapped : (b : Bool) (w : Bor (List ℕ)) (o : Option (Bor (List ℕ))) → option_map
    (λ name. name.now) (cond b (Some w) o) ≡ cond b (Some w.now) (option_map (λ name. name.now) o)
mapped true w o = refl
mapped false w o = refl

pub has_also : (f g : List ℕ → Option (Bor (List ℕ))) (new : List ℕ) (w : Bor (List ℕ)) → ((other : List ℕ)
    → g other ≡ cond (bytes_eq new other) (Some w) (f other))
    → HasAlso (λ other. option_map (λ name. name.now) (f other)) (λ other. option_map
    (λ name. name.now) (g other)) new w.now
has_also f g new w updated = λ other. ap (option_map (λ name. name.now)) (updated other)
    ∙ mapped (bytes_eq new other) w (f other)

pub found_also : (f g : List ℕ → Option (List ℕ)) (new name : List ℕ) → HasAlso f g new name → g new ≡ Some name
found_also f g new name also = also new ∙ rw ((bytes_eq-Decides new new).1 refl) refl

-- the names that f has stay, since it does not have the new one
pub still_found : (f g : List ℕ → Option (List ℕ)) (new name : List ℕ) → HasAlso f g new name → f new ≡ None
    → (other x : List ℕ) → f other ≡ Some x → g other ≡ Some x
still_found f g new name also none other x h = elim (cases_Bool (bytes_eq new other)) [
  | inl same ↦
      let both : f new ≡ f other = ap f ((bytes_eq-Decides new other).0 same) in
      cc
  | inr apart ↦ also other ∙ rw apart h
]

pub only_also : (P : List ℕ → List ℕ → Type 0) (f g : List ℕ → Option (List ℕ)) (new name : List ℕ)
    → HasAlso f g new name → P new name
    → ((other x : List ℕ) → f other ≡ Some x → P other x) → (other x : List ℕ) → g other ≡ Some x → P other x
only_also P f g new name also here there other x h = elim (cases_Bool (bytes_eq new other)) [
  | inl same ↦
      let value : name ≡ x = let e : Some name ≡ Some x = sym (also other ∙ rw same refl) ∙ h in cc in
      subst (λ k. P k x) ((bytes_eq-Decides new other).0 same) (subst (λ v. P new v) value here)
  | inr apart ↦ there other x (sym (also other ∙ rw apart refl) ∙ h)
]

pub none_from : (o : Option (Bor (List ℕ))) → is_some o ≡ false → o ≡ None
none_from None h = refl
none_from (Some x) h = cc

pub some_mapped : (o : Option (Bor (List ℕ))) → IsSome o → IsSome (option_map (λ name. name.now) o)
some_mapped None h = h
some_mapped (Some x) h = refl
