-- From the lanes of one load to the bytes that it has.
use Rattle.std.proofs.Common.{◌≡◌, ◌≢◌, ℕ, suc, ◌+◌, ◌*◌, ◌%◌, ◌^◌, ◌≤◌, Bool, true, false, not}
use Rattle.std.proofs.Common.{List, [], ◌∷◌, map, length, get_or, cond, eqb, Fits, w8, refl, sym, ap, ◌∙◌}
use Rattle.std.proofs.Common.{arith, ◌<◌, ◌+◌}
use Rattle.std.proofs.lemmas.Bool.{agree_below, agree_below_at, eq-eqb, ne_eqb, cond-true, cond-false}
use Rattle.std.proofs.lemmas.Simd.{map-map, mask_l-mod, length-chunk, first_set_mask_l, run_in_chunk_le}
use Rattle.std.proofs.lemmas.Simd.{run_in_chunk_fails, run_in_chunk_stops}
use Rattle.std.proofs.lemmas.List.{length-map}
use Rattle.std.specs.List.{prefix_len}
use lib.Count.{count_trailing_zeros}
use lib.Lanes.{chunk, mask_l, top}
use Rattle.cargo_platform.specs.Inside.Looking.{IsRun}

-- a comparison leaves a number in each lane, of which the top bit is read
abbrev pub is_set : (ℕ → ℕ) → ℕ → Bool
is_set f b = top 7 (f b)

-- the mask of lanes that were computed one by one from a load
mask_is : (f : ℕ → ℕ) (v lanes : List ℕ) → length v ≡ 16 → lanes ≡ map f v
    → mask_l (map (top 7) lanes) % 2 ^ 64 ≡ mask_l (map (is_set f) v)
mask_is f v lanes long is =
    ap (λ l. mask_l (map (top 7) l) % 2 ^ 64) is ∙ ap (λ l. mask_l l % 2 ^ 64) (map-map (top 7) f v)
    ∙ mask_l-mod (map (is_set f) v) 64 (omega (arith, length-map v (is_set f)))

-- where a bit is set, some lane passes the test, and fewer lanes come before the first that does
set_lane : (p : ℕ → Bool) (xs : List ℕ) → mask_l (map p xs) ≢ 0 → prefix_len (λ x. not (p x)) xs < length xs
set_lane p [] some = absurd (some refl)
set_lane p (x ∷ xs) some = go (p x) some (set_lane p xs)
  where
    go : (b : Bool) → cond {A = ℕ} b 1 0 + 2 * mask_l (map p xs) ≢ 0
        → (mask_l (map p xs) ≢ 0 → prefix_len (λ y. not (p y)) xs < length xs)
        → cond {A = ℕ} (not b) (1 + prefix_len (λ y. not (p y)) xs) 0 < suc (length xs)
    go true h others = omega arith
    go false h others = omega (arith, others (λ none. h (omega (arith, none))))

-- ---- how far a test is passed

module _ (test : ℕ → Bool) (f : ℕ → ℕ) (agrees : agree_below (is_set f) (λ b. not (test b)) 256 ≡ true)
    (bytes lanes : List ℕ) (at : ℕ) (room : at + 16 ≤ length bytes) (fits : (k : ℕ) → Fits w8 (get_or bytes k 0))
    (is : lanes ≡ map f (chunk at 16 bytes)) where
  abbrev mask : ℕ
  mask = mask_l (map (top 7) lanes) % 2 ^ 64

  agree : (i : ℕ) → is_set f (get_or bytes i 0) ≡ not (test (get_or bytes i 0))
  agree i = agree_below_at (is_set f) (λ b. not (test b)) 256 (get_or bytes i 0) agrees (fits i).fits

  passes_by : (b : Bool) → not b ≡ false → b ≡ true
  passes_by true h = refl
  passes_by false h = sym h

  fails_by : (b : Bool) → not b ≡ true → b ≡ false
  fails_by true h = sym h
  fails_by false h = refl

  run_is : (run : ℕ) → run ≡ cond (eqb mask 0) 16 (count_trailing_zeros 64 mask) → IsRun test bytes at 16 run
  run_is run found =
      let long : length (chunk at 16 bytes) ≡ 16 = length-chunk at 16 bytes room in
      let counted : run ≡ prefix_len (λ b. not (is_set f b)) (chunk at 16 bytes) =
      found ∙ ap (λ m. cond (eqb m 0) 16 (count_trailing_zeros 64 m)) (mask_is f (chunk at 16 bytes) lanes long is)
      ∙ first_set_mask_l (is_set f) (chunk at 16 bytes) 16 long (omega arith) in
      record {
        within = run_in_chunk_le (is_set f) bytes at 16 run 0 room counted;
        passes = λ i from below. passes_by (test (get_or bytes i 0)) (sym (agree i)
            ∙ run_in_chunk_fails (is_set f) bytes at 16 run 0 room counted i from below);
        fails = λ short. fails_by (test (get_or bytes (at + run) 0)) (sym (agree (at + run))
            ∙ run_in_chunk_stops (is_set f) bytes at 16 run 0 room counted short);
      }

  -- no lane is set, so that each byte passes
  pub all_pass : mask_l (map (top 7) lanes) % 2 ^ 64 ≡ 0 → IsRun test bytes at 16 16
  all_pass none = run_is 16 (sym (cond-true _ _ _ (eq-eqb _ _ none)))

  -- the first lane that is set is the first byte that fails
  pub first_fails : mask_l (map (top 7) lanes) % 2 ^ 64 ≢ 0 →
      IsRun test bytes at 16 (count_trailing_zeros 64 (mask_l (map (top 7) lanes) % 2 ^ 64))
  first_fails some = run_is _ (sym (cond-false _ _ _ (ne_eqb _ _ some)))

  -- and it is one of them
  pub first_is_among : mask_l (map (top 7) lanes) % 2 ^ 64 ≢ 0 →
      count_trailing_zeros 64 (mask_l (map (top 7) lanes) % 2 ^ 64) < 16
  first_is_among some =
      let long : length (chunk at 16 bytes) ≡ 16 = length-chunk at 16 bytes room in
      let is_mask = mask_is f (chunk at 16 bytes) lanes long is in
      let first = first_set_mask_l (is_set f) (chunk at 16 bytes) 16 long (omega arith) in
      let some_lane : mask_l (map (is_set f) (chunk at 16 bytes)) ≢ 0 = λ none. some (is_mask ∙ none) in
      omega (
        arith,
        ap (count_trailing_zeros 64) is_mask,
        sym (cond-false {A = ℕ} _ 16 (count_trailing_zeros 64 (mask_l (map (is_set f) (chunk at 16 bytes))))
            (ne_eqb _ _ some_lane)) ∙ first,
        set_lane (is_set f) (chunk at 16 bytes) some_lane,
        long,
      )
