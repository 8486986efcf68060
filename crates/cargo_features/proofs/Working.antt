-- What holds while rules are applied.
use Rattle.std.proofs.Common.{◌≡◌, ◌<◌, ◌≤◌, ◌+◌, ℕ, zero, suc, Bool, true, false, ◌&&◌, ◌||◌, ◌==◌, List, [], ◌∷◌}
use Rattle.std.proofs.Common.{length, get_or, refl, sym, ◌∙◌, ap, subst, inl, inr, arith, below_more}
use Rattle.std.specs.Prelude.{Contains, map}
use Rattle.std.proofs.lemmas.Bool.{or_cases, or_right, and_parts, and_from, eqb-true, eq-eqb, false≢true, cases_lt}
use Rattle.std.proofs.lemmas.Bool.{cases_eq}
use Rattle.std.proofs.lemmas.List.{get_or_past, get_or_default, length-map}
use Rattle.known_targets.specs.Sets.{is_member}
use Rattle.known_targets.specs.declared.target_set.TargetSet.{TargetSet}
use Rattle.known_targets.specs.declared.table.TheConstants.{COUNT}
use Rattle.package_graphs.specs.Graphs.{is_in}
use Rattle.cargo_features.specs.Deriving.{Follows, given, follows}
use Rattle.cargo_features.specs.Derivations.{Applies, IsDerived}
use Rattle.cargo_features.specs.Inside.Working.{AreSound, IsApplied, AreApplied}
use Rattle.cargo_features.specs.declared.rules.Rule.{Rule}
use Rattle.cargo_features.proofs.Following.{held_through}

abbrev pub Grown : List TargetSet → List TargetSet → Type 0
Grown before now = (n k : ℕ) → k < COUNT → is_in before n k ≡ true → is_in now n k ≡ true

-- past the end nothing is there
pub is_in_past : (sets : List TargetSet) (n k : ℕ) → length sets ≤ n → is_in sets n k ≡ false
is_in_past sets n k past =
    let fits : length (map (λ set. is_member set) sets) ≤ n =
    omega (arith, past, length-map sets (λ set. is_member set)) in
    ap (λ (p : ℕ → Bool). p k) (get_or_past (map (λ set. is_member set) sets) n (λ k. false) fits)

pub inside_of : (sets : List TargetSet) (n k : ℕ) → is_in sets n k ≡ true → n < length sets
inside_of sets n k here =
    elim (cases_lt n (length sets)) as (λ _. n < length sets) [
      | inl inside ↦ inside
      | inr past ↦ absurd (false≢true (sym (is_in_past sets n k past) ∙ here))
    ]

pub applied_kept : (done before now : List TargetSet) (rule : Rule) → Grown before now
    → length now ≡ length before → IsApplied done before rule → IsApplied done now rule
applied_kept done before now rule grown same is k known inside first second holds =
    grown rule.to k known (is k known (omega (arith, inside, same)) first second holds)

pub all_kept : (rules : List Rule) (done before now : List TargetSet) (places : List ℕ) (many : ℕ)
    → Grown before now → length now ≡ length before
    → AreApplied rules done before places many → AreApplied rules done now places many
all_kept rules done before now places many grown same are j below inside d fits =
    applied_kept done before now (get_or rules (get_or places j 0) d) grown same (are j below inside d fits)

-- the rule at one more place is applied
pub one_more : (rules : List Rule) (done now : List TargetSet) (places : List ℕ) (i : ℕ)
    → AreApplied rules done now places i
    → ((d : Rule) → get_or places i 0 < length rules
    → IsApplied done now (get_or rules (get_or places i 0) d))
    → AreApplied rules done now places (i + 1)
one_more rules done now places i are this =
    below_more (λ j. j < length places → (d : Rule) → get_or places j 0 < length rules
    → IsApplied done now (get_or rules (get_or places j 0) d)) i
    are (λ inside d fits. this d fits)

-- a rule that names a number past the end
pub applied_past : (done now : List TargetSet) (rule : Rule) → length done ≡ length now
    → (rule.first < length now → rule.second < length now → rule.to < length now → ⊥)
    → IsApplied done now rule
applied_past done now rule same past k known inside first second holds =
    let a = inside_of done rule.first k first in
    let b = inside_of done rule.second k second in
    absurd (past (omega (arith, a, same)) (omega (arith, b, same)) inside)

-- what was added is there
pub applied_here : (done before now : List TargetSet) (rule : Rule) (more : ℕ → Bool)
    → ((n k : ℕ) → k < COUNT → is_in now n k ≡ (is_in before n k || ((n == rule.to) && more k)))
    → ((k : ℕ) → k < COUNT → is_in done rule.first k ≡ true → is_in done rule.second k ≡ true
    → is_member rule.holds k ≡ true → more k ≡ true)
    → IsApplied done now rule
applied_here done before now rule more added has k known inside first second holds =
    added rule.to k known
    ∙ or_right (is_in before rule.to k) _
    (and_from (rule.to == rule.to) _ (eq-eqb rule.to rule.to refl) (has k known first second holds))

-- what is added to the set of a fact is told of it
pub sound_more : (sets : List TargetSet) (rules : List Rule) (before now : List TargetSet) (fact : ℕ) (more : ℕ → Bool)
    → ((n k : ℕ) → k < COUNT → is_in now n k ≡ (is_in before n k || ((n == fact) && more k)))
    → ((k : ℕ) → k < COUNT → more k ≡ true → IsDerived sets rules k fact)
    → AreSound sets rules before → AreSound sets rules now
sound_more sets rules before now fact more is added h n k known here =
    elim (or_cases (is_in before n k) ((n == fact) && more k) (sym (is n k known) ∙ here))
    as (λ _. IsDerived sets rules k n) [
      | inl old ↦ h n k known old
      | inr fresh ↦
          let parts = and_parts (n == fact) (more k) fresh in
          let e : fact ≡ n = sym (eqb-true n fact parts.0) in
          subst (λ (x : ℕ). IsDerived sets rules k x) e (added k known parts.1)
    ]

-- sets that have what is given, and that each rule leads on in, have all that follows
pub complete : (sets now : List TargetSet) (rules : List Rule) (k : ℕ) → k < COUNT → length now ≡ length sets
    → ((n : ℕ) → is_in sets n k ≡ true → is_in now n k ≡ true)
    → ((rule : Rule) → Contains rules rule → IsApplied now now rule)
    → (n : ℕ) → IsDerived sets rules k n → is_in now n k ≡ true
complete sets now rules k known same has applied =
    held_through (λ n. is_in sets n k ≡ true) (λ a b n. Applies (length sets) rules k a b n)
    (λ n. is_in now n k ≡ true)
    (λ n is. has n is)
    (λ a b n one two applies.
    let inside : applies.rule.to < length now =
    subst (λ (x : ℕ). x < length now) (sym applies.to) (omega (arith, applies.inside, same)) in
    subst (λ (x : ℕ). is_in now x k ≡ true) applies.to
    (applied applies.rule applies.is k known inside
    (subst (λ (x : ℕ). is_in now x k ≡ true) (sym applies.first) one)
    (subst (λ (x : ℕ). is_in now x k ≡ true) (sym applies.second) two) applies.holds))

pub in_tail : (node : ℕ) (rest : List ℕ) (n : ℕ) → Contains (node ∷ rest) n → (n ≡ node → ⊥) → Contains rest n
in_tail node rest n (zero, below, is) other = absurd (other (sym is))
in_tail node rest n (suc k, below, is) other = (k, omega (arith, below), is)

-- all rules are applied to what is done, once those of one fact more are
pub applied_now : (rules : List Rule) (before done sets now : List TargetSet) (fact j : ℕ) (d : Rule)
    → ((n k : ℕ) → (n ≡ fact → ⊥) → is_in done n k ≡ is_in before n k)
    → Grown sets now → length now ≡ length sets → IsApplied before sets (get_or rules j d)
    → ((get_or rules j d).first ≡ fact → IsApplied done now (get_or rules j d))
    → ((get_or rules j d).second ≡ fact → IsApplied done now (get_or rules j d))
    → IsApplied done now (get_or rules j d)
applied_now rules before done sets now fact j d there grown same was first second =
    let rule = get_or rules j d in
    elim (cases_eq rule.first fact) as (λ _. IsApplied done now rule) [
      | inl here ↦ first here
      | inr not_first ↦
          elim (cases_eq rule.second fact) as (λ _. IsApplied done now rule) [
            | inl here ↦ second here
            | inr not_second ↦
                λ k known inside one two holds.
                grown rule.to k known
                (was k known (omega (arith, inside, same)) (sym (there rule.first k not_first) ∙ one)
                (sym (there rule.second k not_second) ∙ two) holds)
          ]
    ]

-- a rule whose place is listed is one of those that were applied
pub applied_listed : (rules : List Rule) (done now : List TargetSet) (places : List ℕ) (j : ℕ) (d : Rule)
    → j < length rules → Contains places j → AreApplied rules done now places (length places)
    → IsApplied done now (get_or rules j d)
applied_listed rules done now places j d below (p, inside, is) are =
    let at : get_or places p 0 ≡ j = get_or_default places p 0 j inside ∙ is in
    subst (λ (x : ℕ). IsApplied done now (get_or rules x d)) at
    (are p inside inside d (subst (λ (x : ℕ). x < length rules) (sym at) below))

pub applied_all : (rules : List Rule) (done sets : List TargetSet) (rule : Rule) → Contains rules rule
    → ((n : ℕ) → n < length sets → (k : ℕ) → k < COUNT → is_in done n k ≡ is_in sets n k)
    → ((j : ℕ) → j < length rules → (d : Rule) → IsApplied done sets (get_or rules j d))
    → IsApplied sets sets rule
applied_all rules done sets rule (j, below, is) alike applied k known inside first second holds =
    subst (λ (r : Rule). IsApplied done sets r) is (applied j below rule) k known inside
    (alike rule.first (inside_of sets rule.first k first) k known ∙ first)
    (alike rule.second (inside_of sets rule.second k second) k known ∙ second) holds
