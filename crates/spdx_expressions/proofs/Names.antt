-- Words that are names of licences.
use Rattle.std.proofs.Common.{◌≡◌, refl, sym, ap, ◌∙◌, subst, ℕ, ◌+◌, ◌-◌, ◌≤◌, ◌<◌, Bool, true, false, not}
use Rattle.std.proofs.Common.{◌&&◌, List, [], ◌∷◌, ◌++◌, length, take, drop, get_or, arith, cond, Some, None}
use Rattle.std.proofs.Common.{append-nil}
use Rattle.std.proofs.Common.{length-append, true≢false}
use Rattle.std.specs.Prelude.{◌==◌, ◌||◌, codes}
use Rattle.std.specs.List.{position_or_len, list_all, after_first}
use Rattle.std.proofs.lemmas.Bool.{and_parts}
use Rattle.std.proofs.lemmas.Bool.Decides.{nat_tests}
use Rattle.std.proofs.lemmas.List.{drop_all, get_or-drop, length-drop}
use Rattle.std.proofs.Math.Seq.{take-suc, take-length, take-append_seam}
use Rattle.std.proofs.lemmas.List.Folds.{list_all_at}
use Rattle.spdx_expressions.specs.Words.{is_foreign_reference, is_own_reference, is_listed, is_identifier, is_id_string}
use Rattle.spdx_expressions.specs.Words.{is_id_byte, is_name, ends_with_plus, without_plus, names_licence}
use Rattle.spdx_expressions.specs.Trees.{Term}
use Rattle.spdx_expressions.specs.Grammar.{IsTerm, plus}
use Rattle.spdx_expressions.specs.Inside.Reading.{named}

and_false : (a b : Bool) → (a && b && false) ≡ false
and_false true true = refl
and_false true false = refl
and_false false b = refl

-- a name without `:` is no reference to a licence of another document
pub no_reference : (bs : List ℕ) → position_or_len (λ b. b == 0x3A) bs ≡ length bs → false ≡ is_foreign_reference bs
no_reference bs none =
    let past : length bs ≤ position_or_len (λ b. b == 0x3A) bs + 1 = omega (arith, none) in
    rw (drop_all (position_or_len (λ b. b == 0x3A) bs + 1) bs past, and_false) refl

-- ---- the last byte of a name

last : List ℕ → ℕ
last bs = get_or bs (length bs - 1) 0

id_byte_is_no_plus : (b : ℕ) → is_id_byte b ≡ true → (b == 0x2B) ≡ false
id_byte_is_no_plus b h = grind (arith, nat_tests)

id_string_parts : (bs : List ℕ) → is_id_string bs ≡ true → (0 < length bs) × (list_all is_id_byte bs ≡ true)
id_string_parts [] h = absurd cc
id_string_parts (b ∷ bs) h = (omega arith, (and_parts (not (length (b ∷ bs) == 0)) _ h).1)

id_string_ends : (bs : List ℕ) → is_id_string bs ≡ true → ends_with_plus bs ≡ false
id_string_ends bs h =
    let parts = id_string_parts bs h in
    let within : length bs - 1 < length bs = omega (arith, parts.0) in
    let byte : is_id_byte (get_or bs (length bs - 1) 0) ≡ true = each parts.1 (length bs - 1) within in
    id_byte_is_no_plus _ byte
  where
    each : list_all is_id_byte bs ≡ true → (i : ℕ) → i < length bs → is_id_byte (get_or bs i 0) ≡ true
    each all i within = by_test (is_id_byte (get_or bs i 0)) refl
      where
        by_test : (v : Bool) → is_id_byte (get_or bs i 0) ≡ v → v ≡ true
        by_test true e = refl
        by_test false e = absurd (true≢false (sym all ∙ list_all_at is_id_byte bs i 0 within e))

own_ends : (bs : List ℕ) → is_own_reference bs ≡ true → ends_with_plus bs ≡ false
own_ends bs h = id_string_ends bs (and_parts (is_id_string bs) _ h).0

-- the last byte of what is after some bytes is the last of all
drop_ends : (n : ℕ) (bs : List ℕ) → 0 < length (drop n bs) → ends_with_plus (drop n bs) ≡ ends_with_plus bs
drop_ends n bs some =
    let size = length-drop n bs in
    let is : n + (length (drop n bs) - 1) ≡ length bs - 1 = omega (arith, size, some) in
    ap (λ (b : ℕ). b == 0x2B) (get_or-drop n bs (length (drop n bs) - 1) 0 ∙ ap (λ (i : ℕ). get_or bs i 0) is)

foreign_ends : (bs : List ℕ) → is_foreign_reference bs ≡ true → ends_with_plus bs ≡ false
foreign_ends bs h =
    let after = after_first (λ b. b == 0x3A) bs in
    let behind = (and_parts _ (is_own_reference after) h).1 in
    let some = id_string_parts after (and_parts (is_id_string after) _ behind).0 in
    sym (drop_ends (position_or_len (λ b. b == 0x3A) bs + 1) bs some.0) ∙ own_ends after behind

listed_ends : (bs : List ℕ) → is_listed bs ≡ true → ends_with_plus bs ≡ false
listed_ends bs h =
    id_string_ends bs (and_parts (is_id_string bs) _
    (and_parts (is_identifier bs) _ (and_parts _ _ h).0).0).0

-- no name ends with `+`
name_ends : (later : Bool) (bs : List ℕ) → is_name later bs ≡ true → ends_with_plus bs ≡ false
name_ends true bs h = listed_ends bs h
name_ends false bs h = by (is_listed bs) (is_own_reference bs) (is_foreign_reference bs) refl refl refl h
  where
    by : (l o f : Bool) → is_listed bs ≡ l → is_own_reference bs ≡ o → is_foreign_reference bs ≡ f
        → (l || o || f) ≡ true → ends_with_plus bs ≡ false
    by true o f el eo ef e = listed_ends bs el
    by false true f el eo ef e = own_ends bs eo
    by false false true el eo ef e = foreign_ends bs ef
    by false false false el eo ef e = absurd cc

-- ---- a word is the name and perhaps `+`

split_word : (w : List ℕ) → w ≡ without_plus w ++ plus (ends_with_plus w)
split_word w = by (ends_with_plus w) refl
  where
    by : (v : Bool) → ends_with_plus w ≡ v → w ≡ cond v (take (length w - 1) w) w ++ plus v
    by false e = sym (append-nil w)
    by true e = front w e
      where
        front : (u : List ℕ) → ends_with_plus u ≡ true → u ≡ take (length u - 1) u ++ codes "+"
        front [] e = absurd cc
        front (b ∷ u) e =
            let within : length u < length (b ∷ u) = omega arith in
            let is : length (b ∷ u) - 1 ≡ length u = omega arith in
            let byte : get_or (b ∷ u) (length u) 0 ≡ 0x2B = let last : (get_or (b ∷ u) (length u) 0 == 0x2B) ≡ true =
            rw is at e in grind (arith, nat_tests) in
            rw is (sym (take-length (b ∷ u)) ∙ take-suc (b ∷ u) (length u) 0 within ∙ ap (λ (x : ℕ). take (length u)
            (b ∷ u) ++ x ∷ []) byte)

pub named_sound : (w : List ℕ) (t : Term) → named w ≡ Some t
    → IsTerm t × (t.exception ≡ None) × (w ≡ t.name ++ plus t.or_later)
named_sound w t h = by (names_licence w) refl h
  where
    by : (v : Bool) → names_licence w ≡ v
        → cond v (Some (record { name = without_plus w; or_later = ends_with_plus w; exception = None })) None ≡ Some t
        → IsTerm t × (t.exception ≡ None) × (w ≡ t.name ++ plus t.or_later)
    by false e h = absurd cc
    by true e h =
        let is : record { name = without_plus w; or_later = ends_with_plus w; exception = None } ≡ t = cc in
        let P : Term → Type 0 = λ u. IsTerm u × (u.exception ≡ None) × (w ≡ u.name ++ plus u.or_later) in
        subst P is ((e, tt), refl, split_word w)

with_plus : (bs : List ℕ) → ends_with_plus (bs ++ codes "+") ≡ true
with_plus bs =
    let size : length (bs ++ codes "+") - 1 ≡ length bs = omega (arith, length-append bs (codes "+")) in
    rw (size, seam bs) refl
  where
    seam : (bs : List ℕ) → get_or (bs ++ 0x2B ∷ []) (length bs) 0 ≡ 0x2B
    seam [] = refl
    seam (b ∷ bs) = seam bs

pub named_complete : (t : Term) → IsTerm t → named (t.name ++ plus t.or_later)
    ≡ Some (record { name = t.name; or_later = t.or_later; exception = None })
named_complete t is = by t.or_later t.name is.0
  where
    by : (v : Bool) (n : List ℕ) → is_name v n ≡ true
        → named (n ++ plus v) ≡ Some (record { name = n; or_later = v; exception = None })
    by false n h = rw (append-nil n, name_ends false n h, h) refl
    by true n h =
        let size : length (n ++ codes "+") - 1 ≡ length n = omega (arith, length-append n (codes "+")) in
        rw (with_plus n, size, take-append_seam n (codes "+"), h) refl
