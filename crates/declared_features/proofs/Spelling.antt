-- Texts at their first slash.
use Rattle.std.proofs.Common.{◌≡◌, ◌≢◌, ◌<◌, ◌∙◌, ℕ, List, [], ◌∷◌, ◌++◌, length, get_or, sym, ap, lit<, append_assoc}
use Rattle.std.proofs.Common.{Option, Some, None, Bor, ◌+◌, refl, subst, arith, inl, inr, codes}
use Rattle.std.specs.Option.{MatchOption}
use Rattle.std.proofs.lemmas.List.{get_or_default}
use Rattle.std.proofs.lemmas.List.Elements.{Contains-append_left, Contains-append_right, Contains-append_cases}
use Rattle.std.proofs.lemmas.Str.Pattern.{IsSplitOnceResult, split_parts}
use Rattle.declared_features.specs.Entries.{HasSlash, IsEntry}
use Rattle.declared_features.specs.MissingEdges.{turned_on_by}
use Rattle.declared_features.specs.declared.entries.FeatureEntry.{FeatureEntry}
use Rattle.declared_features.specs.declared.entries.FeatureEntry.TheVariants as entry
use Rattle.declared_features.proofs.Collecting.{only}

unslashed : (text : List ℕ) → ((i : ℕ) → i < length text → get_or text i 0 ≢ 47) → HasSlash text → ⊥
unslashed text none (k, below, same) = none k below (get_or_default text k 0 47 below ∙ same)

-- what is before the first slash and what is after it, or no slash
pub at_slash : (text : List ℕ) (r : Option (Bor (List ℕ) × Bor (List ℕ))) → IsSplitOnceResult 47 text r
    → MatchOption r (¬ HasSlash text) (λ x. (text ≡ x.0.now ++ 47 ∷ x.1.now) × ¬ HasSlash x.0.now)
at_slash text None h = unslashed text (split_parts 47 text None h (lit< tt))
at_slash text (Some x) h =
    let parts = split_parts 47 text (Some x) h (lit< tt) in
    (parts.0, unslashed x.0.now parts.1)

pub with_slash : (text d g : List ℕ) → text ≡ d ++ 47 ∷ g → text ≡ d ++ (47 ∷ []) ++ g
with_slash text d g is = is ∙ sym (append_assoc d (47 ∷ []) g)

pub with_mark : (text d e g : List ℕ) → text ≡ d ++ 47 ∷ g → d ≡ e ++ 63 ∷ [] → text ≡ e ++ (63 ∷ 47 ∷ []) ++ g
with_mark text d e g is marked =
    is ∙ ap (λ (s : List ℕ). s ++ 47 ∷ g) marked ∙ append_assoc e (63 ∷ []) (47 ∷ g)
    ∙ sym (append_assoc e (63 ∷ 47 ∷ []) g)

pub before_mark : (d e : List ℕ) → d ≡ e ++ 63 ∷ [] → ¬ HasSlash d → HasSlash e → ⊥
before_mark d e marked none has =
    let whole : HasSlash (e ++ 63 ∷ []) = Contains-append_left e (63 ∷ []) 47 has in
    none (rw marked whole)

-- ---- a text spells one entry

slash_later : (x : ℕ) (d : List ℕ) → HasSlash d → HasSlash (x ∷ d)
slash_later x d has = Contains-append_right (x ∷ []) d 47 has

slash_within : (d g : List ℕ) → HasSlash (d ++ 47 ∷ g)
slash_within [] g = (0, omega arith, refl)
slash_within (x ∷ d) g = slash_later x (d ++ 47 ∷ g) (slash_within d g)

pub before_slash : (d e g h : List ℕ) → ¬ HasSlash d → ¬ HasSlash e → d ++ 47 ∷ g ≡ e ++ 47 ∷ h → d ≡ e
before_slash [] [] g h none other is = refl
before_slash [] (y ∷ e) g h none other is =
    let first : 47 ≡ y = cc in
    absurd (other (0, omega arith, sym first))
before_slash (x ∷ d) [] g h none other is =
    let first : x ≡ 47 = cc in
    absurd (none (0, omega arith, first))
before_slash (x ∷ d) (y ∷ e) g h none other is =
    let first : x ≡ y = cc in
    let rest : d ++ 47 ∷ g ≡ e ++ 47 ∷ h = cc in
    let same : d ≡ e =
    before_slash d e g h (λ has. none (slash_later x d has)) (λ has. other (slash_later y e has)) rest in
    cc

other_numbers : ◌≡◌ {A = ℕ} 63 47 → ⊥
other_numbers is = omega arith

mark_no_slash : (d : List ℕ) → ¬ HasSlash d → ¬ HasSlash (d ++ 63 ∷ [])
mark_no_slash d none has =
    elim (Contains-append_cases d (63 ∷ []) 47 has) [
      | inl before ↦ none before
      | inr here ↦ absurd (other_numbers (only 63 47 here))
    ]

slashed : (text d g : List ℕ) → text ≡ d ++ 47 ∷ g → ¬ HasSlash text → ⊥
slashed text d g is none = none (subst (λ (s : List ℕ). HasSlash s) (sym is) (slash_within d g))

slash_parts : (text d g : List ℕ) → text ≡ (d ++ 47 ∷ []) ++ g → text ≡ d ++ 47 ∷ g
slash_parts text d g is = is ∙ append_assoc d (47 ∷ []) g

marked_parts : (text d g : List ℕ) → text ≡ (d ++ 63 ∷ 47 ∷ []) ++ g → text ≡ (d ++ 63 ∷ []) ++ 47 ∷ g
marked_parts text d g is = is ∙ append_assoc d (63 ∷ 47 ∷ []) g ∙ sym (append_assoc d (63 ∷ []) (47 ∷ g))

-- the dependency that it turns on is determined by the text
pub turned_on_once : (text : List ℕ) (one other : FeatureEntry) → IsEntry text one → IsEntry text other
    → turned_on_by one ≡ turned_on_by other
turned_on_once text (entry.Feature f) (entry.Feature g) one other = refl
turned_on_once text (entry.Feature f) (entry.Dependency d) one other = absurd (one.2 (d.now, other.0))
turned_on_once text (entry.Feature f) (entry.Strong d g) one other =
    absurd (slashed text d.now g.now (slash_parts text d.now g.now other.0) one.1)
turned_on_once text (entry.Feature f) (entry.Weak d g) one other = refl
turned_on_once text (entry.Dependency d) (entry.Feature f) one other = absurd (other.2 (d.now, one.0))
turned_on_once text (entry.Dependency d) (entry.Dependency e) one other =
    let whole : codes "dep:" ++ d.now ≡ codes "dep:" ++ e.now = sym one.0 ∙ other.0 in
    let same : d.now ≡ e.now = cc in
    ap (λ (s : List ℕ). Some s) same
turned_on_once text (entry.Dependency d) (entry.Strong e g) one other =
    absurd (slashed text e.now g.now (slash_parts text e.now g.now other.0) one.1)
turned_on_once text (entry.Dependency d) (entry.Weak e g) one other =
    absurd (slashed text (e.now ++ 63 ∷ []) g.now (marked_parts text e.now g.now other.0) one.1)
turned_on_once text (entry.Strong d g) (entry.Feature f) one other =
    absurd (slashed text d.now g.now (slash_parts text d.now g.now one.0) other.1)
turned_on_once text (entry.Strong d g) (entry.Dependency e) one other =
    absurd (slashed text d.now g.now (slash_parts text d.now g.now one.0) other.1)
turned_on_once text (entry.Strong d g) (entry.Strong e h) one other =
    ap (λ (s : List ℕ). Some s) (before_slash d.now e.now g.now h.now one.1 other.1
    (sym (slash_parts text d.now g.now one.0) ∙ slash_parts text e.now h.now other.0))
turned_on_once text (entry.Strong d g) (entry.Weak e h) one other =
    absurd (one.2 (
      e.now,
      before_slash d.now (e.now ++ 63 ∷ []) g.now h.now one.1 (mark_no_slash e.now other.1)
          (sym (slash_parts text d.now g.now one.0) ∙ marked_parts text e.now h.now other.0),
    ))
turned_on_once text (entry.Weak d g) (entry.Feature f) one other = refl
turned_on_once text (entry.Weak d g) (entry.Dependency e) one other =
    absurd (slashed text (d.now ++ 63 ∷ []) g.now (marked_parts text d.now g.now one.0) other.1)
turned_on_once text (entry.Weak d g) (entry.Strong e h) one other =
    absurd (other.2 (
      d.now,
      before_slash e.now (d.now ++ 63 ∷ []) h.now g.now other.1 (mark_no_slash d.now one.1)
          (sym (slash_parts text e.now h.now other.0) ∙ marked_parts text d.now g.now one.0),
    ))
turned_on_once text (entry.Weak d g) (entry.Weak e h) one other = refl
