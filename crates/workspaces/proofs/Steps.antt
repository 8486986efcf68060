-- What a pattern with one more piece matches, and of one more item.
use Rattle.std.proofs.Common.{◌≡◌, ◌⊎◌, ◌∷◌, ◌++◌, [], List, Bool, inl, inr, refl, sym, ap, ◌∙◌, subst}
use Rattle.std.proofs.Common.{true≢false}
use Rattle.std.specs.Prelude.{◌↔◌, IsTrue, IsFalse}
use Rattle.workspaces.specs.Stretches.{Matches, IsMatched}

tail_of : {T : Type 0} (x y : T) (xs ys : List T) → x ∷ xs ≡ y ∷ ys → xs ≡ ys
tail_of x y xs ys e = cc

head_of : {T : Type 0} (x y : T) (xs ys : List T) → x ∷ xs ≡ y ∷ ys → x ≡ y
head_of x y xs ys e = cc

-- no items: the first piece is of many, and the others take none
none_by : {P T : Type 0} (m : P → Bool) (t : P → T → Type 0) (p : P) (ps : List P) (front rest : List T)
    → [] ≡ front ++ rest → Matches m t p front → IsMatched m t ps rest → IsTrue (m p) × IsMatched m t ps []
none_by m t p ps [] rest e (inl many) more = (many, subst (λ xs. IsMatched m t ps xs) (sym e) more)
none_by m t p ps [] rest e (inr one) more = let e2 = one.1.1 in absurd (cc)
none_by m t p ps (y ∷ ys) rest e matches more = absurd (cc)

pub none : {P T : Type 0} (m : P → Bool) (t : P → T → Type 0) (p : P) (ps : List P)
    → IsMatched m t (p ∷ ps) [] ↔ IsTrue (m p) × IsMatched m t ps []
none m t p ps = (λ h. none_by m t p ps h.0 h.1 h.2 h.3 h.4, λ h. ([], [], refl, inl h.0, h.1))

many_by : {P T : Type 0} (m : P → Bool) (t : P → T → Type 0) (p : P) (ps : List P) (x : T) (xs front rest : List T)
    → IsTrue (m p) → x ∷ xs ≡ front ++ rest → IsMatched m t ps rest
    → IsMatched m t ps (x ∷ xs) ⊎ IsMatched m t (p ∷ ps) xs
many_by m t p ps x xs [] rest many e more = inl (subst (λ zs. IsMatched m t ps zs) (sym e) more)
many_by m t p ps x xs (y ∷ ys) rest many e more = inr (ys, rest, tail_of x y xs (ys ++ rest) e, inl many, more)

-- one more item, where the first piece is of many: `b` is whether fewer pieces or fewer items are taken
pub with_many : {P T : Type 0} (m : P → Bool) (t : P → T → Type 0) (p : P) (x : T) (fp fi b : Bool) → IsTrue (m p)
    → (IsTrue b → IsTrue fp ⊎ IsTrue fi) → (IsTrue fp → IsTrue b) → (IsTrue fi → IsTrue b)
    → (ps : List P) (xs : List T) → IsTrue fp ↔ IsMatched m t ps (x ∷ xs) → IsTrue fi ↔ IsMatched m t (p ∷ ps) xs
    → IsTrue b ↔ IsMatched m t (p ∷ ps) (x ∷ xs)
with_many m t p x fp fi b is either first second ps xs pieces items = (
  λ h. elim (either h) [
    | inl f ↦ ([], x ∷ xs, refl, inl is, pieces.0 f)
    | inr f ↦ let k = items.0 f in (x ∷ k.0, k.1, ap (λ zs. x ∷ zs) k.2, inl is, k.4)
  ],
  λ h. elim (many_by m t p ps x xs h.0 h.1 is h.2 h.4) [ inl k ↦ first (pieces.1 k) | inr k ↦ second (items.1 k) ],
)

one_by : {P T : Type 0} (m : P → Bool) (t : P → T → Type 0) (p : P) (ps : List P) (x : T) (xs front rest : List T)
    → IsFalse (m p) → x ∷ xs ≡ front ++ rest → Matches m t p front → IsMatched m t ps rest
    → t p x × IsMatched m t ps xs
one_by m t p ps x xs front rest not_many e (inl is) more = absurd (true≢false (sym is ∙ not_many))
one_by m t p ps x xs front rest not_many e (inr one) more =
    let y = one.1.0 in
    let whole : x ∷ xs ≡ y ∷ rest = e ∙ ap (λ zs. zs ++ rest) one.1.1 in (
      subst (λ z. t p z) (sym (head_of x y xs rest whole)) one.1.2,
      subst (λ zs. IsMatched m t ps zs) (sym (tail_of x y xs rest whole)) more,
    )

-- one more item, where the first piece matches one: `b` is whether it matches it and the others take the other items
pub with_one : {P T : Type 0} (m : P → Bool) (t : P → T → Type 0) (p : P) (x : T) (f b : Bool) → IsFalse (m p)
    → (IsTrue b → t p x × IsTrue f) → (t p x → IsTrue f → IsTrue b)
    → (ps : List P) (xs : List T) → IsTrue f ↔ IsMatched m t ps xs → IsTrue b ↔ IsMatched m t (p ∷ ps) (x ∷ xs)
with_one m t p x f b not_many both back ps xs fewer = (
  λ h. let k = both h in (x ∷ [], xs, refl, inr (not_many, (x, refl, k.0)), fewer.0 k.1),
  λ h. let k = one_by m t p ps x xs h.0 h.1 not_many h.2 h.3 h.4 in back k.0 (fewer.1 k.1),
)
