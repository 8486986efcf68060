-- Rows by their places.
use Rattle.std.proofs.Common.{◌≡◌, ◌≢◌, ◌∙◌, ℕ, ◌+◌, ◌<◌, List, [], ◌∷◌, ◌++◌, sym, ap}
use Rattle.std.proofs.Common.{length, get_or, map, arith, below_more, length-append, append-nil}
use Rattle.std.proofs.Common.{Bool, true, false, cond, refl}
use Rattle.std.specs.List.{filter, range_with_len}
use Rattle.std.proofs.lemmas.List.FromFn.{filter_of_map_range_with_len_more}
use Rattle.std.proofs.Math.ListN.{get_or-append}
use Rattle.std.proofs.Math.Seq.{get_or-append_seam}
use Rattle.std.proofs.lemmas.List.{get_or-map}
use Rattle.target_tables.specs.Rows.{Row, row_of, row_at, no_row, name_at, HasNoRow, AreDistinct}
use Rattle.target_tables.specs.declared.table.TargetRow.{TargetRow}

-- the row that a place holds
pub row_read : (rows : List TargetRow) (i : ℕ) (r : TargetRow) → i < length rows → r ≡ get_or rows i r
    → row_at (map row_of rows) i ≡ row_of r
row_read rows i r below is = get_or-map row_of rows i r no_row below ∙ ap row_of (sym is)

-- ---- names that differ

at_front : (rows : List Row) (row : Row) (k : ℕ) → k < length rows → name_at (rows ++ row ∷ []) k ≡ name_at rows k
at_front rows row k below = ap (λ (r : Row). r.name) (get_or-append rows (row ∷ []) no_row k below)

at_end : (rows : List Row) (row : Row) → name_at (rows ++ row ∷ []) (length rows) ≡ row.name
at_end rows row = ap (λ (r : Row). r.name) (get_or-append_seam rows row [] no_row)

-- one more row, whose name no row has
pub distinct_more : (rows : List Row) (row : Row) → AreDistinct rows → HasNoRow rows row.name
    → AreDistinct (rows ++ row ∷ [])
distinct_more rows row d none j k before below =
    let more = rows ++ row ∷ [] in
    below_more (λ (k : ℕ). (j : ℕ) → j < k → name_at more j ≢ name_at more k) (length rows)
    (λ k inside j earlier same.
    d j k earlier inside
    (sym (at_front rows row j (omega (arith, earlier, inside))) ∙ same ∙ at_front rows row k inside))
    (λ j earlier same. none j earlier (sym (at_front rows row j earlier) ∙ same ∙ at_end rows row)) k
    (omega (arith, below, length-append rows (row ∷ []))) j before

-- ---- places where something holds

map_same : (xs : List ℕ) → map (λ (j : ℕ). j) xs ≡ xs
map_same [] = refl
map_same (x ∷ xs) = ap (λ z. x ∷ z) (map_same xs)

more_places : (p : ℕ → Bool) (i : ℕ)
    → filter p (range_with_len 0 (i + 1)) ≡ filter p (range_with_len 0 i) ++ cond (p i) (i ∷ []) []
more_places p i =
    ap (filter p) (sym (map_same (range_with_len 0 (i + 1))))
    ∙ filter_of_map_range_with_len_more p (λ (j : ℕ). j) 0 i i (omega arith)
    ∙ ap (λ z. filter p z ++ cond (p i) (i ∷ []) []) (map_same (range_with_len 0 i))

pub one_place : (p : ℕ → Bool) (i : ℕ) (old new : List ℕ) → p i ≡ true → old ≡ filter p (range_with_len 0 i)
    → new ≡ old ++ i ∷ [] → new ≡ filter p (range_with_len 0 (i + 1))
one_place p i old new holds is pushed =
    pushed ∙ ap (λ z. z ++ i ∷ []) is
    ∙ sym (more_places p i ∙ ap (λ (b : Bool). filter p (range_with_len 0 i) ++ cond b (i ∷ []) []) holds)

pub no_place : (p : ℕ → Bool) (i : ℕ) (old new : List ℕ) → p i ≡ false → old ≡ filter p (range_with_len 0 i)
    → new ≡ old → new ≡ filter p (range_with_len 0 (i + 1))
no_place p i old new fails is same =
    same ∙ is
    ∙ sym (more_places p i ∙ ap (λ (b : Bool). filter p (range_with_len 0 i) ++ cond b (i ∷ []) []) fails
    ∙ append-nil (filter p (range_with_len 0 i)))
