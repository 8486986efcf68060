-- How some names, pairs, expressions and conditions compare, and what they feed a hasher.
use Rattle.std.proofs.Common.{◌≡◌, refl, ap, ℕ, true≢false, List, [], ◌∷◌, codes, get_or}
use Rattle.std.specs.Prelude.{bytes_eq}
use Rattle.std.specs.declared.cmp.Ordering.TheVariants.{Less, Equal, Greater}
use Rattle.std.specs.Hash.{le_bytes}
use Rattle.cargo_platform.specs.Trees.{Alone, KeyPair, Not, All, Any, Value, True, False, none, trees_of, Target}
use Rattle.cargo_platform.specs.Trees.{Expression}
use Rattle.cargo_platform.specs.Key.{name_key, value_key, key, condition_key, text_cmp, name_cmp, value_cmp, rank}
use Rattle.cargo_platform.specs.Key.{tree_cmp, trees_cmp, condition_cmp}
use Rattle.cargo_platform.specs.Hashing.{name_hash, value_hash, count, tree_hash, group_hash, condition_hash}
use Rattle.cargo_platform.proofs.Rows.Trees.{name, marked, a}

-- ---- keys

marks_taken_off : (name_key (marked (codes "foo")) ≡ name (codes "foo"))
    × (value_key (KeyPair (marked (codes "k")) (codes "1")) ≡ KeyPair (name (codes "k")) (codes "1"))
marks_taken_off = (refl, refl)

-- at any depth
inner_mark_taken_off : key (Not (All (trees_of (True ∷ Value (Alone (marked (codes "a"))) ∷ [])))) ≡ Not
    (All (trees_of (True ∷ a ∷ [])))
inner_mark_taken_off = refl

target_has_no_mark : condition_key (Target (codes "r#a")) ≡ Target (codes "r#a")
target_has_no_mark = refl

two_keys : name_key (name (codes "foo")) ≡ name_key (name (codes "fop")) → ⊥
two_keys p = true≢false (ap (λ n. bytes_eq n.name (codes "foo")) p)

pair_is_no_name : value_key (KeyPair (name (codes "k")) []) ≡ value_key (Alone (name (codes "k"))) → ⊥
pair_is_no_name p = absurd cc

-- ---- the order

-- by the first byte that differs, not by the length, and a beginning before the longer text
text_order : (text_cmp (codes "b") (codes "aa") ≡ Greater) × (text_cmp (codes "aa") (codes "aaa") ≡ Less)
    × (text_cmp (codes "Z") (codes "a") ≡ Less) × (text_cmp [] [] ≡ Equal)
text_order = (refl, refl, refl, refl)

mark_is_not_compared : (name_cmp (name (codes "foo")) (marked (codes "foo")) ≡ Equal)
    × (name_cmp (marked (codes "b")) (name (codes "a")) ≡ Greater)
mark_is_not_compared = (refl, refl)

-- a name before each pair
names_before_pairs : (value_cmp (Alone (name (codes "z"))) (KeyPair (name (codes "a")) []) ≡ Less)
    × (value_cmp (KeyPair (name (codes "a")) []) (Alone (name (codes "z"))) ≡ Greater)
names_before_pairs = (refl, refl)

-- pairs by the key, and then by the value
pair_order : (value_cmp (KeyPair (name (codes "a")) (codes "2")) (KeyPair (name (codes "b")) (codes "1")) ≡ Less)
    × (value_cmp (KeyPair (name (codes "a")) (codes "2")) (KeyPair (marked (codes "a")) (codes "1")) ≡ Greater)
    × (value_cmp (KeyPair (name (codes "a")) (codes "1")) (KeyPair (marked (codes "a")) (codes "1")) ≡ Equal)
pair_order = (refl, refl, refl)

ranks : (rank (Not True) ≡ 0) × (rank (All none) ≡ 1) × (rank (Any none) ≡ 2) × (rank a ≡ 3) × (rank True ≡ 4)
    × (rank False ≡ 5)
ranks = (refl, refl, refl, refl, refl, refl)

-- by the form before the parts
form_order : (tree_cmp (Not False) (All none) ≡ Less) × (tree_cmp (Value (Alone (marked (codes "z")))) True ≡ Less)
    × (tree_cmp False True ≡ Greater) × (tree_cmp (Not a) (Not True) ≡ Less)
form_order = (refl, refl, refl, refl)

-- the first member that differs goes before the number of members
member_order : tree_cmp (All (trees_of (Value (Alone (name (codes "b"))) ∷ []))) (All (trees_of (a ∷ a ∷ []))) ≡ Greater
member_order = refl

fewer_members : (trees_cmp (trees_of (a ∷ [])) (trees_of (a ∷ a ∷ [])) ≡ Less)
    × (trees_cmp (trees_of (a ∷ [])) none ≡ Greater) × (trees_cmp none none ≡ Equal)
fewer_members = (refl, refl, refl)

targets_first : (condition_cmp (Target (codes "zz")) (Expression a) ≡ Less)
    × (condition_cmp (Expression a) (Target (codes "zz")) ≡ Greater)
    × (condition_cmp (Target (codes "b")) (Target (codes "aa")) ≡ Greater)
    × (condition_cmp (Expression a) (Expression (Value (Alone (marked (codes "a"))))) ≡ Equal)
targets_first = (refl, refl, refl, refl)

-- ---- what a hasher is fed

-- the bytes of a text, and then 255
name_fed : name_hash (name (codes "foo")) ≡ codes "foo" ∷ (255 ∷ []) ∷ []
name_fed = refl

mark_is_not_fed : name_hash (marked (codes "foo")) ≡ name_hash (name (codes "foo"))
mark_is_not_fed = refl

last_byte_is_fed : name_hash (name (codes "foo")) ≡ name_hash (name (codes "fop")) → ⊥
last_byte_is_fed p = true≢false (ap (λ (z : List (List ℕ)). bytes_eq (get_or z 0 []) (codes "foo")) p)

-- 0 before a name, and 1 before a key
value_fed : (value_hash (Alone (name (codes "a"))) ≡ (0 ∷ []) ∷ codes "a" ∷ (255 ∷ []) ∷ [])
    × (value_hash (KeyPair (marked (codes "k")) (codes "1")) ≡ (1 ∷ []) ∷ codes "k" ∷ (255 ∷ []) ∷ codes "1" ∷
    (255 ∷ []) ∷ [])
value_fed = (refl, refl)

counted : (count none ≡ 0) × (count (trees_of (a ∷ True ∷ [])) ≡ 2)
counted = (refl, refl)

forms_fed : (tree_hash True ≡ (4 ∷ []) ∷ []) × (tree_hash (Not False) ≡ (0 ∷ []) ∷ (5 ∷ []) ∷ [])
    × (tree_hash a ≡ (3 ∷ []) ∷ (0 ∷ []) ∷ codes "a" ∷ (255 ∷ []) ∷ [])
forms_fed = (refl, refl, refl)

-- the number of members, in eight bytes, and then each
group_fed : group_hash (trees_of (True ∷ False ∷ [])) ≡ (2 ∷ 0 ∷ 0 ∷ 0 ∷ 0 ∷ 0 ∷ 0 ∷ 0 ∷ []) ∷ (4 ∷ []) ∷ (5 ∷ []) ∷ []
unfolding le_bytes
group_fed = refl

all_fed : tree_hash (All (trees_of (True ∷ []))) ≡ (1 ∷ []) ∷ (1 ∷ 0 ∷ 0 ∷ 0 ∷ 0 ∷ 0 ∷ 0 ∷ 0 ∷ []) ∷ (4 ∷ []) ∷ []
unfolding le_bytes
all_fed = refl

word_is_fed : tree_hash (All none) ≡ tree_hash (Any none) → ⊥
word_is_fed p = true≢false (ap (λ (z : List (List ℕ)). bytes_eq (get_or z 0 []) (1 ∷ [])) p)

condition_fed : (condition_hash (Target (codes "a")) ≡ (0 ∷ []) ∷ codes "a" ∷ (255 ∷ []) ∷ [])
    × (condition_hash (Expression True) ≡ (1 ∷ []) ∷ (4 ∷ []) ∷ [])
condition_fed = (refl, refl)

target_is_no_expression : condition_hash (Target (codes "a")) ≡ condition_hash (Expression a) → ⊥
target_is_no_expression p = true≢false (ap (λ (z : List (List ℕ)). bytes_eq (get_or z 0 []) (0 ∷ [])) p)
