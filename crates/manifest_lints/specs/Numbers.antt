-- The number of a condition, which depends on its truth values if a key has a value that no known target has.
use Rattle.std.specs.Prelude.{◌≡◌, ◌<◌, ◌^◌, ◌+◌, ◌*◌, ◌%◌, ℕ, Bool, true, false, not, ◌&&◌, cond, nat_eq, bit_or}
use Rattle.std.specs.Prelude.{zero, suc, List, [], ◌∷◌, ◌++◌, length, map, Option, Some, None, bytes_eq}
use Rattle.std.specs.Borrow.{Bor}
use Rattle.std.specs.List.{list_any, fold}
use Rattle.std.specs.FinSet.{contains}
use Rattle.cargo_platform.specs.Trees.{Tree}
use Rattle.cargo_platform.specs.Facts.{Pair, pair_of}
use Rattle.cargo_platform.specs.Warnings.{values}
use Rattle.partial_facts.specs.OneValued.{is_single}
use Rattle.known_targets.specs.Listed.{some_below}
use Rattle.known_targets.specs.Table.{target_facts}
use Rattle.known_targets.specs.declared.table.TheConstants.{COUNT}
use Rattle.manifest_lints.specs.Samples.{one_valued, truth_by, holds_with, mixed, mixed_value, spread}
use Rattle.manifest_lints.specs.declared.sample_sets.TheConstants.{FEW}

-- ---- values that no known target has

-- a value that no known target has, of a key that has one value
abbrev pub is_unknown_value : Pair → Bool
is_unknown_value p = is_single one_valued p && not (some_below COUNT (λ k. contains (target_facts k) p))

-- both values are the same, or there is none
abbrev pub same_value : Option (List ℕ) → Option (List ℕ) → Bool
same_value None None = true
same_value None (Some w) = false
same_value (Some v) None = false
same_value (Some v) (Some w) = bytes_eq v w

-- both have the same name and value
abbrev pub same_pair : Pair → Pair → Bool
same_pair p q = bytes_eq p.name q.name && same_value p.value q.value

-- the pair is one of these
abbrev pub has_pair : List Pair → Pair → Bool
has_pair ps p = list_any (same_pair p) ps

-- those that were found, followed by the unknown values of these pairs that are not among them, each once
abbrev pub unknown_beside : List Pair → List Pair → List Pair
unknown_beside found [] = found
unknown_beside found (p ∷ ps) =
    unknown_beside (cond (is_unknown_value p && not (has_pair found p)) (found ++ p ∷ []) found) ps

-- the unknown values in a tree, each once
abbrev pub unknown_values : Tree → List Pair
unknown_values e = unknown_beside [] (map pair_of (values e))

-- a key and its value, as texts
abbrev pub pair_at : Bor (List ℕ) × Bor (List ℕ) → Pair
pair_at x = record { name = x.0.now; value = Some x.1.now }

-- ---- numbers

-- the word whose first bits are the values of `tells`
unfoldable pub first_bits : ℕ → (ℕ → Bool) → ℕ
first_bits zero tells = 0
first_bits (suc n) tells = cond (tells n) (bit_or (first_bits n tells) (1 * 2 ^ n % 2 ^ 64)) (first_bits n tells)

-- the truth values of a tree over the sampled sets, if a key has only this value, or none
abbrev pub truths_with : List ℕ → Option (List ℕ) → Tree → ℕ
truths_with name only e = first_bits 64 (λ l. truth_by (holds_with name only l) e)

-- the number of these truth values with a value: 0 if they are the same as those without it
unfoldable pub apart : ℕ → ℕ → Pair → ℕ
apart with_it without p = cond (nat_eq with_it without) 0 (spread (mixed_value (mixed (spread with_it) p.name) p.value))

-- the number of a tree for a value
abbrev pub apart_of : Tree → Pair → ℕ
apart_of e p = apart (truths_with p.name p.value e) (truths_with p.name None e) p

-- the sum of the numbers of these values, as a word
abbrev pub summed : (Pair → ℕ) → ℕ → List Pair → ℕ
summed f sum ps = fold (λ a p. (a + f p) % 2 ^ 64) sum ps

-- the number of a tree; it has none if it has too many unknown values
abbrev pub IsNumberOf : Tree → Option ℕ → Type 0
IsNumberOf e None = FEW < length (unknown_values e)
IsNumberOf e (Some n) = n ≡ summed (apart_of e) 0 (unknown_values e)
