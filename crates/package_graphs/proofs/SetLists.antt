-- One set of a list is written.
use Rattle.std.proofs.Common.{◌≡◌, ℕ, ◌<◌, ◌≤◌, Bool, false, List, length, get_or, set, map}
use Rattle.std.proofs.Common.{replicate, sym, ◌∙◌}
use Rattle.std.proofs.Common.{ap, inl, inr, arith}
use Rattle.std.proofs.Common.{get_or-set_other, get_or-set_same}
use Rattle.std.proofs.lemmas.List.{get_or-map, map-set, length-map, length-replicate, get_or-replicate, get_or_past}
use Rattle.std.proofs.lemmas.Bool.{cases_lt}
use Rattle.known_targets.specs.Sets.{is_member}
use Rattle.known_targets.specs.declared.target_set.TargetSet.{TargetSet}
use Rattle.package_graphs.specs.Graphs.{is_in}

-- what a read of a place gives
pub is_in_read : (sets : List TargetSet) (i : ℕ) (s : TargetSet) (k : ℕ) → i < length sets → s ≡ get_or sets i s
    → is_in sets i k ≡ is_member s k
is_in_read sets i s k below is =
    ap (λ (p : ℕ → Bool). p k) (get_or-map (λ set. is_member set) sets i s (λ k. false) below)
    ∙ ap (λ (t : TargetSet). is_member t k) (sym is)

pub is_in_same : (sets : List TargetSet) (i : ℕ) (s : TargetSet) (k : ℕ) → i < length sets
    → is_in (set sets i s) i k ≡ is_member s k
is_in_same sets i s k below =
    let fits : i < length (map (λ set. is_member set) sets) = omega (arith, length-map sets (λ set. is_member set)) in
    ap (λ (ps : List (ℕ → Bool)). get_or ps i (λ k. false) k) (map-set (λ set. is_member set) sets i s)
    ∙ ap (λ (p : ℕ → Bool). p k)
    (get_or-set_same (map (λ set. is_member set) sets) i (is_member s) (λ k. false) fits)

pub is_in_other : (sets : List TargetSet) (i : ℕ) (s : TargetSet) (n k : ℕ) → (n ≡ i → ⊥)
    → is_in (set sets i s) n k ≡ is_in sets n k
is_in_other sets i s n k other =
    ap (λ (ps : List (ℕ → Bool)). get_or ps n (λ k. false) k) (map-set (λ set. is_member set) sets i s)
    ∙ ap (λ (p : ℕ → Bool). p k)
    (get_or-set_other (map (λ set. is_member set) sets) i n (is_member s) (λ k. false) other)

-- where each is a set without the target
pub is_in_none : (count : ℕ) (s : TargetSet) (n k : ℕ) → is_member s k ≡ false
    → is_in (replicate count s) n k ≡ false
is_in_none count s n k none =
    elim (cases_lt n count) as (λ _. is_in (replicate count s) n k ≡ false) [
      | inl inside ↦
          let fits : n < length (replicate count s) = omega (arith, length-replicate count s) in
          ap (λ (p : ℕ → Bool). p k) (get_or-map (λ set. is_member set) (replicate count s) n s (λ k. false) fits)
          ∙ ap (λ (t : TargetSet). is_member t k) (get_or-replicate count n s s inside)
          ∙ none
      | inr past ↦
          let fits : length (map (λ set. is_member set) (replicate count s)) ≤ n =
          omega (arith, length-replicate count s, length-map (replicate count s) (λ set. is_member set)) in
          ap (λ (p : ℕ → Bool). p k) (get_or_past (map (λ set. is_member set) (replicate count s)) n (λ k. false) fits)
    ]
