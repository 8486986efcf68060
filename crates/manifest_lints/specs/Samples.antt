-- The sampled sets of facts, each by its pairs, and truth values over them.
use Rattle.std.specs.Prelude.{◌≡◌, ◌<◌, ◌^◌, ◌+◌, ◌*◌, ◌/◌, ◌%◌, ℕ, Bool, true, false, not, ◌&&◌, ◌||◌, cond, nat_eq}
use Rattle.std.specs.Prelude.{List, [], ◌∷◌, map, Option, Some, None, bytes_eq, bit_xor}
use Rattle.std.specs.Borrow.{Bor}
use Rattle.std.specs.Int.{bit_at}
use Rattle.std.specs.FinSet.{contains}
use Rattle.cargo_platform.specs.Trees.{Tree, Not, All, Any, Value, True, False, Trees, none, tree}
use Rattle.cargo_platform.specs.Facts.{Pair, pair_of}
use Rattle.partial_facts.specs.OneValued.{is_single, has_key}
use Rattle.partial_facts.specs.declared.one_valued.TheConstants.{ONE_VALUED}
use Rattle.known_targets.specs.Listed.{some_below}
use Rattle.known_targets.specs.Table.{target_facts}
use Rattle.known_targets.specs.declared.table.TheConstants.{COUNT}
use Rattle.manifest_lints.specs.declared.sample_sets.TheConstants.{STRIDE}
use Rattle.manifest_lints.specs.declared.sample_sets.Other.{Other}

-- ---- truth values

-- the truth value of a tree, given which pairs hold
abbrev mutual
  pub truth_by : (Pair → Bool) → Tree → Bool
  truth_by holds (Not e) = not (truth_by holds e)
  truth_by holds (All es) = all_by holds es
  truth_by holds (Any es) = any_by holds es
  truth_by holds (Value c) = holds (pair_of c)
  truth_by holds True = true
  truth_by holds False = false

  pub all_by : (Pair → Bool) → Trees → Bool
  all_by holds none = true
  all_by holds (tree e es) = truth_by holds e && all_by holds es

  pub any_by : (Pair → Bool) → Trees → Bool
  any_by holds none = false
  any_by holds (tree e es) = truth_by holds e || any_by holds es

-- true if a bit of a word is 1
abbrev pub is_set : ℕ → ℕ → Bool
is_set word l = nat_eq (bit_at word l) 1

-- each bit is the value of `tells` for its index
abbrev pub AreBits : (ℕ → Bool) → ℕ → Type 0
AreBits tells word = (l : ℕ) → l < 64 → is_set word l ≡ tells l

-- each bit is the truth value of the tree over the set at its index
abbrev pub AreTruths : (ℕ → Pair → Bool) → Tree → ℕ → Type 0
AreTruths holds e word = AreBits (λ l. truth_by (holds l) e) word

-- ---- the sets

-- the keys with one value
abbrev pub one_valued : List (List ℕ)
one_valued = map (λ t. t.now) ONE_VALUED.now

-- a value of such a key, or a pair that some known target has
abbrev pub is_rustcs : Pair → Bool
is_rustcs p = is_single one_valued p || some_below COUNT (λ k. contains (target_facts k) p)

-- a number that depends on each byte of a text
abbrev pub mixed : ℕ → List ℕ → ℕ
mixed number [] = number
mixed number (byte ∷ bytes) = mixed (bit_xor number byte * 1099511628211 % 2 ^ 64) bytes

-- a number that depends on each bit of this one
abbrev pub shifted : ℕ → ℕ
shifted number = bit_xor number (number / 2 ^ 33)

abbrev pub spread : ℕ → ℕ
spread number = shifted (shifted (shifted number * 18397679294719823053 % 2 ^ 64) * 14181476777654086739 % 2 ^ 64)

abbrev pub mixed_value : ℕ → Option (List ℕ) → ℕ
mixed_value number None = number
mixed_value number (Some value) = mixed ((number + 1) % 2 ^ 64) value

-- the truth values of a pair that is not rustc's
abbrev pub mixed_truths : Pair → ℕ
mixed_truths p = spread (mixed_value (mixed 14695981039346656037 p.name) p.value)

-- true if the set at an index has a pair: for one of rustc's, if a known target has it
unfoldable pub holds : ℕ → Pair → Bool
holds l p = cond (is_rustcs p) (contains (target_facts (l * STRIDE)) p) (is_set (mixed_truths p) l)

-- true for the value of a key that has only this one, or none
abbrev pub is_only : Option (List ℕ) → Option (List ℕ) → Bool
is_only only None = false
is_only None (Some value) = false
is_only (Some only) (Some value) = bytes_eq value only

-- the same as `holds` if a key has only this value, or none
unfoldable pub holds_with : List ℕ → Option (List ℕ) → ℕ → Pair → Bool
holds_with name only l p = cond (has_key name p) (is_only only p.value) (holds l p)

-- the value as a text, if there is one
abbrev pub text_of : Option (Bor (List ℕ)) → Option (List ℕ)
text_of None = None
text_of (Some text) = Some text.now

-- the same as `holds` if this replaces the value of a key
unfoldable pub holds_beside : Option Other → ℕ → Pair → Bool
holds_beside None l p = holds l p
holds_beside (Some other) l p = holds_with other.key.now (text_of other.value) l p
