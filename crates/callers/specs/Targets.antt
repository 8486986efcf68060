-- Several sets of facts, one of which is that of a target.
use Rattle.std.specs.Prelude.{◌≡◌, ◌⊎◌, Bool, true, false, List, [], ◌∷◌, map, Option, Some, None, IfSome, Contains}
use Rattle.std.specs.Prelude.{refl}
use Rattle.std.proofs.Common.{Bor, inl, inr, ap, subst, arith}
use Rattle.std.proofs.lemmas.List.Elements.{Contains-append_left, Contains-push, Contains-push_cases}
use Rattle.std.proofs.lemmas.List.Elements.{Contains-append_cases}
use Rattle.std.specs.FinSet.{contains}
use Rattle.cargo_platform.specs.declared.cfg.Cfg.{Cfg}
use Rattle.cargo_platform.specs.Trees.{value_of}
use Rattle.cargo_platform.specs.Facts.{Pair, FactSet, fact_set}

-- the facts of one target, and those of several
abbrev pub set_of : List Cfg → FactSet
set_of facts = fact_set (map value_of facts)

abbrev pub sets_of : List (Bor (List Cfg)) → List FactSet
sets_of targets = map (λ t. set_of t.now) targets

-- the truth value that all have
abbrev pub agreed : Bool → List Bool → Option Bool
agreed b [] = Some b
agreed true (true ∷ cs) = agreed true cs
agreed true (false ∷ cs) = None
agreed false (true ∷ cs) = None
agreed false (false ∷ cs) = agreed false cs

-- whether a pair is in each of the sets
abbrev pub agreed_on : FactSet → List FactSet → Pair → Option Bool
agreed_on first others p = agreed (contains first p) (map (λ s. contains s p) others)

pub first_contained : (first : FactSet) (others : List FactSet) → Contains (first ∷ others) first
first_contained first others = Contains-append_left (first ∷ []) others first (Contains-push [] first)

first_or_other : (t : FactSet) (ts : List FactSet) (s : FactSet) → Contains (t ∷ ts) s → (t ≡ s) ⊎ Contains ts s
first_or_other t ts s h = elim (Contains-append_cases (t ∷ []) ts s h) [
  | inl here ↦ elim (Contains-push_cases [] t s here) [ inl never ↦ absurd (omega (arith, never.1)) | inr is ↦ inl is ]
  | inr there ↦ inr there
]

agrees_with_first : (b : Bool) (cs : List Bool) → IfSome (agreed b cs) (λ x. b ≡ x)
agrees_with_first b [] = refl
agrees_with_first true (true ∷ cs) = agrees_with_first true cs
agrees_with_first true (false ∷ cs) = tt
agrees_with_first false (true ∷ cs) = tt
agrees_with_first false (false ∷ cs) = agrees_with_first false cs

one_more : (b c : Bool) (cs : List Bool) (a : Bool) → (c ≡ a) ⊎ IfSome (agreed b cs) (λ x. a ≡ x)
    → IfSome (agreed b (c ∷ cs)) (λ x. a ≡ x)
one_more true true cs a (inl is) = subst (λ z. IfSome (agreed true cs) (λ x. z ≡ x)) is (agrees_with_first true cs)
one_more true true cs a (inr h) = h
one_more true false cs a h = tt
one_more false true cs a h = tt
one_more false false cs a (inl is) = subst (λ z. IfSome (agreed false cs) (λ x. z ≡ x)) is (agrees_with_first false cs)
one_more false false cs a (inr h) = h

agrees_with_other : (b : Bool) (sets : List FactSet) (s : FactSet) (p : Pair) → Contains sets s
    → IfSome (agreed b (map (λ t. contains t p) sets)) (λ x. contains s p ≡ x)
agrees_with_other b [] s p h = absurd (omega (arith, h.1))
agrees_with_other b (t ∷ ts) s p h = elim (first_or_other t ts s h) [
  | inl is ↦ one_more b (contains t p) (map (λ t. contains t p) ts) (contains s p) (inl (ap (λ u. contains u p) is))
  | inr there ↦ one_more b (contains t p) (map (λ t. contains t p) ts) (contains s p)
      (inr (agrees_with_other b ts s p there))
]

pub agreed_sound : (first : FactSet) (others : List FactSet) (s : FactSet) (p : Pair) → Contains (first ∷ others) s
    → IfSome (agreed_on first others p) (λ b. contains s p ≡ b)
agreed_sound first others s p h = elim (first_or_other first others s h) [
  | inl is ↦ subst (λ t. IfSome (agreed_on first others p) (λ b. contains t p ≡ b)) is
      (agrees_with_first (contains first p) (map (λ t. contains t p) others))
  | inr there ↦ agrees_with_other (contains first p) others s p there
]
