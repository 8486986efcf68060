-- What is written for a text stands for it.
use Rattle.std.proofs.Common.{◌≡◌, ℕ, Bool, true, false, ◌==◌, ◌||◌, if◌then◌else◌, List, [], ◌∷◌, ◌++◌, refl, sym}
use Rattle.std.proofs.Common.{subst, flat_map, map, ap, ◌∙◌, append_assoc, encode_utf8_all}
use Rattle.std.proofs.lemmas.Bool.{eqb-true}
use Rattle.std.proofs.lemmas.List.{flat_map_more}
use Rattle.std.proofs.lemmas.Str.{encodes-append}
use Rattle.html_pages.specs.Escaping.{IsEntity, less, greater, ampersand, quote, apostrophe, escape}
use Rattle.html_pages.specs.Escaping.{StandFor, nothing, plain, entity}

-- whichever way a test goes
chosen : (P : List ℕ → Type 0) (b : Bool) (e f : List ℕ) → (b ≡ true → P e) → (b ≡ false → P f)
    → P (if b then e else f)
chosen P b e f =
    elim b as (λ v. (v ≡ true → P e) → (v ≡ false → P f) → P (if v then e else f)) [
      | true ↦ λ yes no. yes refl
      | false ↦ λ yes no. no refl
    ]

-- what holds of each entity where the character is its mark, and of the character alone where it is no mark, holds of
-- what is written for the character
pub written : (P : List ℕ → Type 0) (c : ℕ)
    → ((e : List ℕ) (mark : ℕ) → IsEntity e mark → c ≡ mark → P e)
    → ((c == 60) ≡ false → (c == 62) ≡ false → (c == 38) ≡ false → (c == 34) ≡ false → (c == 39) ≡ false → P (c ∷ []))
    → P (escape c)
written P c marked alone =
    chosen P (c == 60) _ _ (λ p. marked _ 60 less (eqb-true c 60 p)) (λ p.
    chosen P (c == 62) _ _ (λ q. marked _ 62 greater (eqb-true c 62 q)) (λ q.
    chosen P (c == 38) _ _ (λ r. marked _ 38 ampersand (eqb-true c 38 r)) (λ r.
    chosen P (c == 34) _ _ (λ s. marked _ 34 quote (eqb-true c 34 s)) (λ s.
    chosen P (c == 39) _ _ (λ t. marked _ 39 apostrophe (eqb-true c 39 t)) (λ t. alone p q r s t)))))

none_of : (a b c d e : Bool) → a ≡ false → b ≡ false → c ≡ false → d ≡ false → e ≡ false
    → (a || b || c || d || e) ≡ false
none_of a b c d e p q r s t = rw (p, q, r, s, t) refl

escape_stands : (c : ℕ) (page text : List ℕ) → StandFor page text → StandFor (escape c ++ page) (c ∷ text)
escape_stands c page text stand =
    written (λ e. StandFor (e ++ page) (c ∷ text)) c
    (λ e mark is same. subst (λ (m : ℕ). StandFor (e ++ page) (m ∷ text)) (sym same) (entity e mark page text is stand))
    (λ p q r s t. plain c page text (none_of _ _ _ _ _ p q r s t) stand)

pub all_stand : (cs : List ℕ) → StandFor (flat_map escape cs) cs
all_stand [] = nothing
all_stand (c ∷ cs) = escape_stands c (flat_map escape cs) cs (all_stand cs)

-- ---- a page that grows by a character

pub more_written : (before page longer cs : List ℕ) (c : ℕ) → page ≡ before ++ encode_utf8_all (flat_map escape cs)
    → longer ≡ page ++ encode_utf8_all (escape c)
    → longer ≡ before ++ encode_utf8_all (flat_map escape (cs ++ c ∷ []))
more_written before page longer cs c is grown =
    let first = encode_utf8_all (flat_map escape cs) in
    let one = encode_utf8_all (escape c) in
    grown ∙ ap (λ (p : List ℕ). p ++ one) is ∙ append_assoc before first one
    ∙ ap (λ (p : List ℕ). before ++ p)
    (sym (encodes-append (flat_map escape cs) (escape c)) ∙ ap encode_utf8_all (flat_map_more escape [] cs c))

same_items : (xs : List ℕ) → map (λ x. x) xs ≡ xs
same_items [] = refl
same_items (x ∷ xs) = ap (λ (ys : List ℕ). x ∷ ys) (same_items xs)

pub all_written : (before page xs cs : List ℕ) → map (λ x. x) xs ≡ cs
    → page ≡ before ++ encode_utf8_all (flat_map escape xs) → page ≡ before ++ encode_utf8_all (flat_map escape cs)
all_written before page xs cs are is =
    is ∙ ap (λ (ys : List ℕ). before ++ encode_utf8_all (flat_map escape ys)) (sym (same_items xs) ∙ are)
