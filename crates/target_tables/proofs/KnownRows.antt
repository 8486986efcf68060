-- The rows of the known targets.
use Rattle.std.proofs.Common.{◌≡◌, ◌≢◌, ◌∙◌, ℕ, zero, suc, ◌+◌, ◌<◌, ◌≤◌, List, [], ◌∷◌, refl, sym, ap}
use Rattle.std.proofs.Common.{length, get_or, map, arith, true, true≢false}
use Rattle.std.specs.declared.cmp.Ordering.{Ordering}
use Rattle.std.specs.declared.cmp.Ordering.TheVariants.{Less, Greater}
use Rattle.std.specs.Cmp.{IsTotalOrder}
use Rattle.std.specs.Cmp.Lexicographic.{nat_list_cmp_total}
use Rattle.std.specs.Ordering.{ordering_reverse}
use Rattle.std.specs.List.{AllByRecursion, range_with_len}
use Rattle.std.specs.List.Sorted.{IsStrictlySortedBy}
use Rattle.std.proofs.lemmas.List.FromFn.{get_or-map-range_with_len, length-map-range_with_len}
use Rattle.cargo_platform.specs.Key.{text_cmp}
use Rattle.known_targets.specs.Table.{table_names, target_name, is_less, is_rising}
use Rattle.known_targets.specs.Sets.{is_member, place_where, members_among, members}
use Rattle.known_targets.specs.declared.target_set.TargetSet.{TargetSet}
use Rattle.known_targets.specs.declared.table.TheConstants.{COUNT}
use Rattle.known_targets.proofs.Rising.{sorted}
use Rattle.target_tables.specs.Rows.{Row, name_at, no_row, AreDistinct}
use Rattle.target_tables.specs.Added.{known_row, known_rows}

-- ---- the places of all targets

all_among : (set : TargetSet) → ((k : ℕ) → k < COUNT → is_member set k ≡ true) → (n k : ℕ) → k + n ≤ COUNT
    → members_among n set k ≡ range_with_len k n
unfolding members_among
all_among set all zero k h = refl
all_among set all (suc n) k h =
    let here : k < COUNT = omega arith in
    let rest : k + 1 + n ≤ COUNT = omega arith in
    ap (λ b. place_where b k (members_among n set (k + 1))) (all k here)
    ∙ ap (λ ks. k ∷ ks) (all_among set all n (k + 1) rest)

pub all_rows : (set : TargetSet) → ((k : ℕ) → k < COUNT → is_member set k ≡ true)
    → map known_row (members set) ≡ known_rows
all_rows set all = ap (map known_row) (all_among set all COUNT 0 (omega arith))

-- ---- names that differ

above : {K : Type 0} (cmp : K → K → Ordering) (x : K) (ys : List K) → AllByRecursion (λ y. cmp x y ≡ Less) ys
    → (k : ℕ) (d : K) → k < length ys → cmp x (get_or ys k d) ≡ Less
above cmp x [] all k d below = absurd (omega (arith, below))
above cmp x (y ∷ ys) all zero d below = all.0
above cmp x (y ∷ ys) all (suc k) d below = above cmp x ys all.1 k d (omega (arith, below))

less_at : {K : Type 0} (cmp : K → K → Ordering) (xs : List K) → IsStrictlySortedBy cmp xs → (d : K) (j k : ℕ) → j < k
    → k < length xs → cmp (get_or xs j d) (get_or xs k d) ≡ Less
unfolding IsStrictlySortedBy
less_at cmp [] s d j k before below = absurd (omega (arith, below))
less_at cmp (x ∷ xs) s d zero zero before below = absurd (omega (arith, before))
less_at cmp (x ∷ xs) s d zero (suc k) before below = above cmp x xs s.0 k d (omega (arith, below))
less_at cmp (x ∷ xs) s d (suc j) zero before below = absurd (omega (arith, before))
less_at cmp (x ∷ xs) s d (suc j) (suc k) before below =
    less_at cmp xs s.1 d j k (omega (arith, before)) (omega (arith, below))

not_less : {K : Type 0} (cmp : K → K → Ordering) → IsTotalOrder cmp → (x : K) → cmp x x ≢ Less
not_less cmp order x less =
    true≢false (ap is_less (sym less ∙ order.antisymm x x ∙ ap ordering_reverse less))

names_rise : is_rising text_cmp table_names ≡ true
unfolding table_names is_rising
names_rise = refl

names_count : length table_names ≡ COUNT
unfolding table_names
names_count = refl

names_apart : (j k : ℕ) → j < k → k < COUNT → target_name j ≢ target_name k
names_apart j k before below same =
    let less =
    less_at text_cmp table_names (sorted text_cmp nat_list_cmp_total table_names names_rise) [] j k before
    (omega (arith, below, names_count)) in
    not_less text_cmp nat_list_cmp_total (target_name j) (ap (text_cmp (target_name j)) same ∙ less)

known_name : (k : ℕ) → k < COUNT → name_at known_rows k ≡ target_name k
known_name k below = ap (λ (r : Row). r.name)
    (get_or-map-range_with_len known_row 0 COUNT k k no_row below (omega arith))

pub known_distinct : AreDistinct known_rows
known_distinct j k before below same =
    let known : k < COUNT = omega (arith, below, length-map-range_with_len known_row 0 COUNT) in
    names_apart j k before known
    (sym (known_name j (omega (arith, before, known))) ∙ same ∙ known_name k known)
