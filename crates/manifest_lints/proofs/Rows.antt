-- Of a key that has one value a known target has one at most, and what it has of families goes together.
use Prim.Native.Nat.{zero, suc}
use Rattle.std.proofs.Common.{◌≡◌, ◌∙◌, refl, sym, ap, subst, ℕ, ◌/◌, ◌%◌, ◌<◌, List, [], ◌∷◌, map, inl, inr}
use Rattle.std.proofs.Common.{Bool, true, false, ◌||◌, ◌&&◌, not, arith, true≢false, Option, Some, None}
use Rattle.std.specs.Prelude.{bit_or, bytes_eq, codes, is_some, slice_index}
use Rattle.std.specs.List.{list_any}
use Rattle.std.specs.FinSet.{contains}
use Rattle.std.proofs.lemmas.Bool.{cases_eq}
use Rattle.std.proofs.lemmas.Slice.Eq.{bytes_eq-Decides}
use Rattle.cargo_platform.specs.Facts.{Pair}
use Rattle.partial_facts.specs.Partly.{is_named}
use Rattle.partial_facts.specs.OneValued.{is_single}
use Rattle.known_targets.specs.Bits.{has}
use Rattle.known_targets.specs.Rows.{Values, Keys, plain, has_name, has_value, has_pair}
use Rattle.known_targets.specs.Listed.{some_below}
use Rattle.known_targets.specs.Table.{table_keys, target_facts}
use Rattle.known_targets.specs.declared.table.TheConstants.{COUNT, SET_WORDS}
use Rattle.known_targets.proofs.Found.{has_name-contains, has_pair-contains}
use Rattle.manifest_lints.specs.Samples.{is_set, one_valued, is_rustcs}
use Rattle.manifest_lints.proofs.SetWords.{are_apart, none_more, set_or, left_true, right_true}

either : (P : Type 0) (a b : Bool) → (a || b) ≡ true → (a ≡ true → P) → (b ≡ true → P) → P
either P true b h f g = f refl
either P false b h f g = g h

or_right : (a : Bool) {b : Bool} → b ≡ true → (a || b) ≡ true
or_right true h = refl
or_right false h = h

-- ---- values of which no two are had by one target

abbrev words_at : ℕ → Values → List ℕ
words_at j values = map (λ v. slice_index v.1 j) values

some_word : (k : ℕ) (text : List ℕ) (vs : Values) → has_value k text vs ≡ true
    → list_any (λ w. is_set w (k % 64)) (words_at (k / 64) vs) ≡ true
unfolding has
some_word k text [] h = h
some_word k text (v ∷ vs) h =
    either (list_any (λ w. is_set w (k % 64)) (words_at (k / 64) (v ∷ vs)) ≡ true)
    (bytes_eq text v.0 && is_set (slice_index v.1 (k / 64)) (k % 64)) (has_value k text vs) h
    (λ here. ap (λ b. b || list_any (λ w. is_set w (k % 64)) (words_at (k / 64) vs)) (right_true _ _ here))
    (λ there. or_right (is_set (slice_index v.1 (k / 64)) (k % 64)) (some_word k text vs there))

-- of two values that a target has, one among the first
none_beside : (k so_far : ℕ) (text : List ℕ) (vs : Values) → are_apart so_far (words_at (k / 64) vs) ≡ true
    → is_set so_far (k % 64) ≡ true → has_value k text vs ≡ true → ⊥
none_beside k so_far text vs apart is there =
    true≢false (sym (some_word k text vs there) ∙ none_more so_far (words_at (k / 64) vs) (k % 64) apart is)

one_text : (k so_far : ℕ) (v w : List ℕ) (vs : Values) → are_apart so_far (words_at (k / 64) vs) ≡ true
    → has_value k v vs ≡ true → has_value k w vs ≡ true → v ≡ w
unfolding has are_apart
one_text k so_far v w [] apart hv hw = absurd (true≢false (sym hv))
one_text k so_far v w (x ∷ vs) apart hv hw =
    let word = slice_index x.1 (k / 64) in
    let there = is_set word (k % 64) in
    let rest = right_true _ _ apart in
    let beside = λ (text : List ℕ) (is : there ≡ true) (h : has_value k text vs ≡ true).
    none_beside k (bit_or so_far word) text vs rest
    (set_or so_far word (k % 64) ∙ or_right (is_set so_far (k % 64)) is) h in
    either (v ≡ w) (bytes_eq v x.0 && there) (has_value k v vs) hv
    (λ here. either (v ≡ w) (bytes_eq w x.0 && there) (has_value k w vs) hw
    (λ also. (bytes_eq-Decides v x.0).0 (left_true _ _ here) ∙ sym ((bytes_eq-Decides w x.0).0 (left_true _ _ also)))
    (λ after. absurd (beside w (right_true _ _ here) after)))
    (λ after. either (v ≡ w) (bytes_eq w x.0 && there) (has_value k w vs) hw
    (λ also. absurd (beside v (right_true _ _ also) after))
    (λ other. one_text k (bit_or so_far word) v w vs rest after other))

-- ---- rows

unfoldable all_below : ℕ → (ℕ → Bool) → Bool
all_below zero p = true
all_below (suc n) p = p n && all_below n p

below_all : (n : ℕ) (p : ℕ → Bool) → all_below n p ≡ true → (k : ℕ) → k < n → p k ≡ true
unfolding all_below
below_all zero p all k h = absurd (omega arith)
below_all (suc n) p all k h = elim (cases_eq k n) [
  | inl same ↦ ap p same ∙ left_true (p n) (all_below n p) all
  | inr other ↦ below_all n p (right_true (p n) (all_below n p) all) k (omega arith)
]

-- the values of the keys that have one value are apart, and no name has two rows
abbrev names_of_rows : Keys → List (List ℕ)
names_of_rows keys = map (λ key. key.0) keys

unfoldable are_one_valued : Keys → Bool
are_one_valued [] = true
are_one_valued (key ∷ keys) =
    (not (is_named key.0 one_valued) || all_below SET_WORDS (λ j. are_apart 0 (words_at j key.2)))
    && (not (is_named key.0 (names_of_rows keys)) && are_one_valued keys)

not_so : (b : Bool) → not b ≡ true → b ≡ true → ⊥
not_so true h k = true≢false (sym h)
not_so false h k = true≢false (sym k)

-- a pair stands in the row of its name
named_row : (k : ℕ) (name text : List ℕ) (keys : Keys) → has_pair k name text keys ≡ true
    → is_named name (names_of_rows keys) ≡ true
named_row k name text [] h = h
named_row k name text (key ∷ keys) h =
    either (is_named name (names_of_rows (key ∷ keys)) ≡ true) (bytes_eq name key.0 && has_value k text key.2)
    (has_pair k name text keys) h
    (λ here. ap (λ b. b || is_named name (names_of_rows keys)) (left_true _ _ here))
    (λ there. or_right (bytes_eq name key.0) (named_row k name text keys there))

one_row : (k : ℕ) (name v w : List ℕ) (keys : Keys) → k < COUNT → are_one_valued keys ≡ true
    → is_named name one_valued ≡ true → has_pair k name v keys ≡ true → has_pair k name w keys ≡ true → v ≡ w
unfolding are_one_valued
one_row k name v w [] below rows one hv hw = absurd (true≢false (sym hv))
one_row k name v w (key ∷ keys) below rows one hv hw =
    let values = all_below SET_WORDS (λ j. are_apart 0 (words_at j key.2)) in
    let again = is_named key.0 (names_of_rows keys) in
    let apart : (not (is_named key.0 one_valued) || values) ≡ true =
    left_true (not (is_named key.0 one_valued) || values) (not again && are_one_valued keys) rows in
    let others : (not again && are_one_valued keys) ≡ true =
    right_true (not (is_named key.0 one_valued) || values) (not again && are_one_valued keys) rows in
    let word : k / 64 < SET_WORDS = omega arith in
    let twice = λ (text : List ℕ) (is : bytes_eq name key.0 ≡ true) (h : has_pair k name text keys ≡ true).
    not_so again (left_true (not again) (are_one_valued keys) others)
    (subst (λ n. is_named n (names_of_rows keys) ≡ true) ((bytes_eq-Decides name key.0).0 is)
    (named_row k name text keys h)) in
    either (v ≡ w) (bytes_eq name key.0 && has_value k v key.2) (has_pair k name v keys) hv
    (λ here. either (v ≡ w) (bytes_eq name key.0 && has_value k w key.2) (has_pair k name w keys) hw
    (λ also. one_text k 0 v w key.2
    (below_all SET_WORDS (λ j. are_apart 0 (words_at j key.2))
    (either (values ≡ true) (not (is_named key.0 one_valued)) values apart
    (λ no. absurd (not_so (is_named key.0 one_valued) no
    (subst (λ n. is_named n one_valued ≡ true) ((bytes_eq-Decides name key.0).0 (left_true _ _ here)) one)))
    (λ yes. yes)) (k / 64) word) (right_true _ _ here) (right_true _ _ also))
    (λ after. absurd (twice w (left_true _ _ here) after)))
    (λ after. either (v ≡ w) (bytes_eq name key.0 && has_value k w key.2) (has_pair k name w keys) hw
    (λ also. absurd (twice v (left_true _ _ also) after))
    (λ other. one_row k name v w keys below (right_true (not again) (are_one_valued keys) others) one after other))

table_one_valued : are_one_valued table_keys ≡ true
unfolding are_one_valued are_apart all_below table_keys
table_one_valued = refl

has_pair_in : (k : ℕ) (p : Pair) (v : List ℕ) → p.value ≡ Some v → contains (target_facts k) p ≡ true
    → has_pair k p.name v table_keys ≡ true
has_pair_in k p v is h =
    has_pair-contains k (plain p.name) v table_keys
    ∙ sym (λ i. contains (target_facts k) (record { name = p.name; value = is i })) ∙ h

values_same : (k : ℕ) (p q : Pair) → k < COUNT → is_named p.name one_valued ≡ true → p.name ≡ q.name
    → contains (target_facts k) p ≡ true → contains (target_facts k) q ≡ true
    → (u v : Option (List ℕ)) → p.value ≡ u → q.value ≡ v → is_some u ≡ true → is_some v ≡ true → u ≡ v
values_same k p q below one names hp hq None v pu qv su sv = absurd (true≢false (sym su))
values_same k p q below one names hp hq (Some x) None pu qv su sv = absurd (true≢false (sym sv))
values_same k p q below one names hp hq (Some x) (Some y) pu qv su sv =
    ap Some (one_row k p.name x y table_keys below table_one_valued one (has_pair_in k p x pu hp)
    (subst (λ n. has_pair k n y table_keys ≡ true) (sym names) (has_pair_in k q y qv hq)))

-- a known target has one value at most of such a key
pub one_value : (k : ℕ) (p q : Pair) → k < COUNT → is_single one_valued p ≡ true → is_some q.value ≡ true
    → p.name ≡ q.name → contains (target_facts k) p ≡ true → contains (target_facts k) q ≡ true → p ≡ q
one_value k p q below single some names hp hq =
    let values : p.value ≡ q.value =
    values_same k p q below (left_true _ _ single) names hp hq p.value q.value refl refl (right_true _ _ single) some in
    λ i. record { name = names i; value = values i }

-- ---- families

or_false : (a : Bool) → (a || false) ≡ a
or_false true = refl
or_false false = refl

abbrev pub family_name : List ℕ → Pair
family_name family = record { name = family; value = None }

abbrev pub family_pair : List ℕ → Pair
family_pair family = record { name = codes "target_family"; value = Some family }

unix_rows : (k : ℕ) → has_name k (codes "unix") table_keys
    ≡ has_pair k (codes "target_family") (codes "unix") table_keys
unfolding table_keys
unix_rows k = search (or_false)

windows_rows : (k : ℕ) → has_name k (codes "windows") table_keys
    ≡ has_pair k (codes "target_family") (codes "windows") table_keys
unfolding table_keys
windows_rows k = search (or_false)

as_pair : (k : ℕ) (family : List ℕ)
    → has_name k family table_keys ≡ has_pair k (codes "target_family") family table_keys
    → contains (target_facts k) (family_name family) ≡ contains (target_facts k) (family_pair family)
as_pair k family same =
    sym (has_name-contains k (plain family) table_keys) ∙ same
    ∙ has_pair-contains k (plain (codes "target_family")) family table_keys

pub unix_family : (k : ℕ)
    → contains (target_facts k) (family_name (codes "unix")) ≡ contains (target_facts k) (family_pair (codes "unix"))
unix_family k = as_pair k (codes "unix") (unix_rows k)

pub windows_family : (k : ℕ) → contains (target_facts k) (family_name (codes "windows"))
    ≡ contains (target_facts k) (family_pair (codes "windows"))
windows_family k = as_pair k (codes "windows") (windows_rows k)

some_same : (n : ℕ) (p q : ℕ → Bool) → ((k : ℕ) → p k ≡ q k) → some_below n p ≡ some_below n q
unfolding some_below
some_same zero p q same = refl
some_same (suc n) p q same = λ i. same n i || some_same n p q same i

family_had : (family : List ℕ) → some_below COUNT (λ k. has_name k family table_keys) ≡ true
    → some_below COUNT (λ k. contains (target_facts k) (family_name family)) ≡ true
family_had family had =
    some_same COUNT (λ k. contains (target_facts k) (family_name family)) (λ k. has_name k family table_keys)
    (λ k. sym (has_name-contains k (plain family) table_keys)) ∙ had

unix_had : some_below COUNT (λ k. has_name k (codes "unix") table_keys) ≡ true
unfolding some_below table_keys has
unix_had = refl

windows_had : some_below COUNT (λ k. has_name k (codes "windows") table_keys) ≡ true
unfolding some_below table_keys has
windows_had = refl

pair_had : (family : List ℕ)
    → ((k : ℕ) → contains (target_facts k) (family_name family) ≡ contains (target_facts k) (family_pair family))
    → some_below COUNT (λ k. contains (target_facts k) (family_name family)) ≡ true
    → some_below COUNT (λ k. contains (target_facts k) (family_pair family)) ≡ true
pair_had family same had =
    some_same COUNT (λ k. contains (target_facts k) (family_pair family))
    (λ k. contains (target_facts k) (family_name family)) (λ k. sym (same k)) ∙ had

pub unix_is : (is_rustcs (family_name (codes "unix")) ≡ true) × (is_rustcs (family_pair (codes "unix")) ≡ true)
unix_is =
    let had = family_had (codes "unix") unix_had in (
      or_right (is_single one_valued (family_name (codes "unix"))) had,
      or_right (is_single one_valued (family_pair (codes "unix"))) (pair_had (codes "unix") unix_family had),
    )

pub windows_is : (is_rustcs (family_name (codes "windows")) ≡ true)
    × (is_rustcs (family_pair (codes "windows")) ≡ true)
windows_is =
    let had = family_had (codes "windows") windows_had in (
      or_right (is_single one_valued (family_name (codes "windows"))) had,
      or_right (is_single one_valued (family_pair (codes "windows"))) (pair_had (codes "windows") windows_family had),
    )
