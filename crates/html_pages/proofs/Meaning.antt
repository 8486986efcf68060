-- What stands for a text is what is written for it, has no other marks, and stands for no other text.
use Rattle.std.proofs.Common.{◌≡◌, ℕ, Bool, true, false, ◌==◌, ◌||◌, if◌then◌else◌, List, [], ◌∷◌, ◌++◌, refl, sym}
use Rattle.std.proofs.Common.{ap, ◌∙◌, flat_map, get_or, All}
use Rattle.std.specs.List.{AllByRecursion}
use Rattle.std.proofs.lemmas.List.{append_cancel_left}
use Rattle.std.proofs.lemmas.List.Elements.{All-nil, All-cons, All-append, All-from_recursion}
use Rattle.html_pages.specs.Escaping.{is_mark, IsEntity, less, greater, ampersand, quote, apostrophe, escape}
use Rattle.html_pages.specs.Escaping.{StandFor, nothing, plain, entity}
use Rattle.html_pages.specs.Laws.{HasNoMark, HasOneMeaning}
use Rattle.html_pages.proofs.Written.{written}

-- ---- no other marks

abbrev IsFree : ℕ → Type 0
IsFree c = (c == 60 || c == 62 || c == 34 || c == 39) ≡ false

entity_free : (e : List ℕ) (mark : ℕ) → IsEntity e mark → AllByRecursion IsFree e
entity_free _ _ less = (refl, (refl, (refl, (refl, tt))))
entity_free _ _ greater = (refl, (refl, (refl, (refl, tt))))
entity_free _ _ ampersand = (refl, (refl, (refl, (refl, (refl, tt)))))
entity_free _ _ quote = (refl, (refl, (refl, (refl, (refl, (refl, tt))))))
entity_free _ _ apostrophe = (refl, (refl, (refl, (refl, (refl, tt)))))

others : (a b c d e : Bool) → (a || b || c || d || e) ≡ false → (a || b || d || e) ≡ false
others true b c d e h = h
others false true c d e h = h
others false false true d e h = cc
others false false false d e h = h

stand_free : (page text : List ℕ) → StandFor page text → All IsFree page
stand_free _ _ nothing = All-nil IsFree
stand_free _ _ (plain c page text no_mark stand) =
    All-cons IsFree c page (others (c == 60) (c == 62) (c == 38) (c == 34) (c == 39) no_mark)
    (stand_free page text stand)
stand_free _ _ (entity e c page text is stand) =
    All-append IsFree e page (All-from_recursion IsFree e (entity_free e c is)) (stand_free page text stand)

pub no_mark : HasNoMark
no_mark page text stand = stand_free page text stand

-- ---- what is on the page is what is written

record AllFalse (a b c d e : Bool) : Type 0 where
  pub first : a ≡ false
  pub second : b ≡ false
  pub third : c ≡ false
  pub fourth : d ≡ false
  pub fifth : e ≡ false

all_false : (a b c d e : Bool) → (a || b || c || d || e) ≡ false → AllFalse a b c d e
all_false true b c d e h = absurd cc
all_false false true c d e h = absurd cc
all_false false false true d e h = absurd cc
all_false false false false true e h = absurd cc
all_false false false false false e h =
    record { first = refl; second = refl; third = refl; fourth = refl; fifth = h }

escape_plain : (c : ℕ) → is_mark c ≡ false → escape c ≡ c ∷ []
escape_plain c h =
    let f = all_false (c == 60) (c == 62) (c == 38) (c == 34) (c == 39) h in
    rw (f.first, f.second, f.third, f.fourth, f.fifth) refl

escape_entity : (e : List ℕ) (mark : ℕ) → IsEntity e mark → e ≡ escape mark
escape_entity _ _ less = refl
escape_entity _ _ greater = refl
escape_entity _ _ ampersand = refl
escape_entity _ _ quote = refl
escape_entity _ _ apostrophe = refl

is_written : (page text : List ℕ) → StandFor page text → page ≡ flat_map escape text
is_written _ _ nothing = refl
is_written _ _ (plain c page text no_mark stand) =
    ap (λ (xs : List ℕ). c ∷ xs) (is_written page text stand)
    ∙ ap (λ (xs : List ℕ). xs ++ flat_map escape text) (sym (escape_plain c no_mark))
is_written _ _ (entity e c page text is stand) =
    ap (λ (xs : List ℕ). e ++ xs) (is_written page text stand)
    ∙ ap (λ (xs : List ℕ). xs ++ flat_map escape text) (escape_entity e c is)

-- ---- what is written tells the text

-- the character that the front of a page stands for
abbrev meant : List ℕ → ℕ
meant page =
    if get_or page 0 0 == 38
    then (if get_or page 1 0 == 108 then 60
    else (if get_or page 1 0 == 103 then 62
    else (if get_or page 1 0 == 97 then 38
    else (if get_or page 1 0 == 113 then 34 else 39))))
    else get_or page 0 0

entity_means : (e : List ℕ) (mark : ℕ) (more : List ℕ) → IsEntity e mark → meant (e ++ more) ≡ mark
entity_means _ _ more less = refl
entity_means _ _ more greater = refl
entity_means _ _ more ampersand = refl
entity_means _ _ more quote = refl
entity_means _ _ more apostrophe = refl

means : (c : ℕ) (more : List ℕ) → meant (escape c ++ more) ≡ c
means c more =
    written (λ e. meant (e ++ more) ≡ c) c (λ e mark is same. entity_means e mark more is ∙ sym same)
    (λ p q r s t. rw r refl)

abbrev is_filled : List ℕ → Bool
is_filled [] = false
is_filled (x ∷ xs) = true

entity_filled : (e : List ℕ) (mark : ℕ) (more : List ℕ) → IsEntity e mark → is_filled (e ++ more) ≡ true
entity_filled _ _ more less = refl
entity_filled _ _ more greater = refl
entity_filled _ _ more ampersand = refl
entity_filled _ _ more quote = refl
entity_filled _ _ more apostrophe = refl

filled : (c : ℕ) (more : List ℕ) → is_filled (escape c ++ more) ≡ true
filled c more =
    written (λ e. is_filled (e ++ more) ≡ true) c (λ e mark is same. entity_filled e mark more is) (λ p q r s t. refl)

tells : (text other : List ℕ) → flat_map escape text ≡ flat_map escape other → text ≡ other
tells [] [] same = refl
tells [] (d ∷ ds) same =
    let empty : false ≡ true = ap is_filled same ∙ filled d (flat_map escape ds) in absurd cc
tells (c ∷ cs) [] same =
    let empty : true ≡ false = sym (filled c (flat_map escape cs)) ∙ ap is_filled same in absurd cc
tells (c ∷ cs) (d ∷ ds) same =
    let first : c ≡ d = sym (means c (flat_map escape cs)) ∙ ap meant same ∙ means d (flat_map escape ds) in
    let rest : escape c ++ flat_map escape cs ≡ escape c ++ flat_map escape ds =
    same ∙ ap (λ (x : ℕ). escape x ++ flat_map escape ds) (sym first) in
    ap (λ (x : ℕ). x ∷ cs) first
    ∙ ap (λ (xs : List ℕ). d ∷ xs)
    (tells cs ds (append_cancel_left (escape c) (flat_map escape cs) (flat_map escape ds) rest))

pub one_meaning : HasOneMeaning
one_meaning page text other stand stands =
    tells text other (sym (is_written page text stand) ∙ is_written page other stands)
