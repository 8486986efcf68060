-- How many splits a search makes.
use Rattle.std.proofs.Common.{◌≡◌, ◌∙◌, refl, sym, ap, subst, ℕ, ◌+◌, ◌*◌, ◌^◌, ◌<◌, ◌≤◌, suc, Bool, true, false, not}
use Rattle.std.proofs.Common.{◌&&◌, ◌||◌, List, [], ◌∷◌, Some, None, true≢false, arith}
use Rattle.std.specs.Prelude.{if◌then◌else◌, is_none}
use Rattle.std.specs.List.{list_any}
use Rattle.std.specs.FinSet.{contains, from_list}
use Rattle.std.proofs.Math.Pow.{pow_mono}
use Rattle.std.proofs.Math.Nat.{pow-suc}
use Rattle.cargo_platform.specs.Facts.{Pair, pair_cmp}
use Rattle.cargo_platform.specs.Trees.{Tree, Trees, none, tree, tree_of}
use Rattle.partial_facts.specs.Partly.{is_named, told_by}
use Rattle.exact_answers.specs.Possible.{is_single, is_open}
use Rattle.exact_answers.specs.Possible.{has_key, has_value}
use Rattle.exact_answers.specs.Inside.Paths.{Turn, Base, takes, refuses, facts_on, set_on}
use Rattle.exact_answers.specs.Inside.Paths.{rules_out, is_refuted, told_on, WereOpen, turned, base_of}
use Rattle.exact_answers.specs.Asking.{is_pair, asks, some_asks, one_if, open_count, HasAll, NeedsMore}
use Rattle.exact_answers.specs.Inside.Searches.{open_on, AreAsked, NeedsMoreOn}
use Rattle.exact_answers.specs.declared.fact_constraints.FactConstraints.{FactConstraints}
use Rattle.exact_answers.proofs.Telling.{or_cases, same, itself, any_on, on_path, or_true}

-- ---- more is told on a longer path

is_none_so : (l n : Bool) → is_none (told_by l n) ≡ true → (l ≡ false) × (n ≡ false)
is_none_so true n h = absurd (true≢false (sym h))
is_none_so false true h = absurd (true≢false (sym h))
is_none_so false false h = (refl, refl)

none_is : (l n : Bool) → l ≡ false → n ≡ false → is_none (told_by l n) ≡ true
none_is true n h k = absurd (true≢false h)
none_is false true h k = absurd (true≢false k)
none_is false false h k = refl

left_false : (a b : Bool) → (a || b) ≡ false → a ≡ false
left_false true b h = absurd (true≢false h)
left_false false b h = refl

right_false : (a b : Bool) → (a || b) ≡ false → b ≡ false
right_false true b h = absurd (true≢false h)
right_false false b h = h

or_false : (a b : Bool) → a ≡ false → b ≡ false → (a || b) ≡ false
or_false true b h k = absurd (true≢false h)
or_false false b h k = k

and_less : (a b c : Bool) → (c ≡ true → b ≡ true) → (a && b) ≡ false → (a && c) ≡ false
and_less true true c f h = absurd (true≢false h)
and_less true false true f h = absurd (true≢false (sym (f refl)))
and_less true false false f h = refl
and_less false b c f h = refl

module _ (k : Base) where
  more_facts : (f : Pair → Bool) (d : Turn) (ds : List Turn) → list_any f (facts_on k ds) ≡ true
      → list_any f (facts_on k (d ∷ ds)) ≡ true
  more_facts f d ds h =
      any_on f k (d ∷ ds)
      ∙ or_cases ((takes f (d ∷ ds) || list_any f k.listed) ≡ true) (takes f ds) (list_any f k.listed)
      (sym (any_on f k ds) ∙ h)
      (λ is. ap (λ b. b || list_any f k.listed) (or_true (d.holds && f d.pair) (takes f ds) is))
      (λ is. or_true (takes f (d ∷ ds)) (list_any f k.listed) is)

  was_out : (d : Turn) (ds : List Turn) (p : Pair) → contains (set_on k (d ∷ ds)) p ≡ false
      → contains (set_on k ds) p ≡ false
  was_out d ds p h =
      let out = sym (on_path k (d ∷ ds) p) ∙ h in
      on_path k ds p
      ∙ or_false (takes (is_pair p) ds) (contains (from_list {R = pair_cmp} k.listed) p)
      (right_false (d.holds && is_pair p d.pair) (takes (is_pair p) ds)
      (left_false (takes (is_pair p) (d ∷ ds)) (contains (from_list {R = pair_cmp} k.listed) p) out))
      (right_false (takes (is_pair p) (d ∷ ds)) (contains (from_list {R = pair_cmp} k.listed) p) out)

  was_unruled : (d : Turn) (ds : List Turn) (p : Pair) → rules_out k (facts_on k (d ∷ ds)) p ≡ false
      → rules_out k (facts_on k ds) p ≡ false
  was_unruled d ds p h =
      or_false (is_named p.name k.complete) (is_single k.single p && has_value p.name (facts_on k ds))
      (left_false (is_named p.name k.complete) _ h)
      (and_less (is_single k.single p) (has_value p.name (facts_on k (d ∷ ds))) (has_value p.name (facts_on k ds))
      (more_facts (has_key p.name) d ds)
      (right_false (is_named p.name k.complete) _ h))

  pub was_open : (d : Turn) (ds : List Turn) (p : Pair) → is_none (told_on k (d ∷ ds) p) ≡ true
      → is_none (told_on k ds p) ≡ true
  was_open d ds p h =
      let both = is_none_so (contains (set_on k (d ∷ ds)) p) (is_refuted k (d ∷ ds) p) h in
      none_is (contains (set_on k ds) p) (is_refuted k ds p) (was_out d ds p both.0)
      (or_false (refuses (is_pair p) ds) (rules_out k (facts_on k ds) p)
      (right_false (not d.holds && is_pair p d.pair) (refuses (is_pair p) ds)
      (left_false (refuses (is_pair p) (d ∷ ds)) (rules_out k (facts_on k (d ∷ ds)) p) both.1))
      (was_unruled d ds p (right_false (refuses (is_pair p) (d ∷ ds)) (rules_out k (facts_on k (d ∷ ds)) p) both.1)))

  never_neither : (h : Bool) → (h && true) ≡ false → (not h && true) ≡ false → ⊥
  never_neither true f g = true≢false f
  never_neither false f g = true≢false g

  -- the pair of the last turn is not open
  not_open : (d : Turn) (ds : List Turn) → is_none (told_on k (d ∷ ds) d.pair) ≡ true → ⊥
  not_open d ds h =
      let both = is_none_so (contains (set_on k (d ∷ ds)) d.pair) (is_refuted k (d ∷ ds) d.pair) h in
      let out = sym (on_path k (d ∷ ds) d.pair) ∙ both.0 in
      let untaken =
      left_false (d.holds && is_pair d.pair d.pair) (takes (is_pair d.pair) ds)
      (left_false (takes (is_pair d.pair) (d ∷ ds)) (contains (from_list {R = pair_cmp} k.listed) d.pair) out) in
      let unrefused =
      left_false (not d.holds && is_pair d.pair d.pair) (refuses (is_pair d.pair) ds)
      (left_false (refuses (is_pair d.pair) (d ∷ ds)) (rules_out k (facts_on k (d ∷ ds)) d.pair) both.1) in
      never_neither d.holds (ap (λ b. d.holds && b) (sym (itself d.pair)) ∙ untaken)
      (ap (λ b. not d.holds && b) (sym (itself d.pair)) ∙ unrefused)

  one_less : (a b : Bool) → (a ≡ true → b ≡ true) → one_if a ≤ one_if b
  one_less true true f = omega arith
  one_less true false f = absurd (true≢false (sym (f refl)))
  one_less false true f = omega arith
  one_less false false f = omega arith

  no_more : (d : Turn) (ds : List Turn) (ps : List Pair) → open_on k (d ∷ ds) ps ≤ open_on k ds ps
  no_more d ds [] = omega arith
  no_more d ds (p ∷ ps) =
      let first = one_less (is_none (told_on k (d ∷ ds) p)) (is_none (told_on k ds p)) (was_open d ds p) in
      let others = no_more d ds ps in
      omega (arith, first, others)

  none_one : (b : Bool) → (b ≡ true → ⊥) → one_if b ≡ 0
  none_one true f = absurd (f refl)
  none_one false f = refl

  -- a split leaves one open pair less
  pub fewer_open : (d : Turn) (ds : List Turn) (ps : List Pair) → told_on k ds d.pair ≡ None
      → list_any (is_pair d.pair) ps ≡ true → open_on k (d ∷ ds) ps + 1 ≤ open_on k ds ps
  fewer_open d ds [] was h = absurd (true≢false (sym h))
  fewer_open d ds (p ∷ ps) was h =
      or_cases (open_on k (d ∷ ds) (p ∷ ps) + 1 ≤ open_on k ds (p ∷ ps)) (is_pair d.pair p)
      (list_any (is_pair d.pair) ps) h
      (λ here.
      let e : d.pair ≡ p = same d.pair p here in
      let new : one_if (is_none (told_on k (d ∷ ds) p)) ≡ 0 =
      none_one (is_none (told_on k (d ∷ ds) p))
      (λ is. not_open d ds (ap (λ q. is_none (told_on k (d ∷ ds) q)) e ∙ is)) in
      let old : one_if (is_none (told_on k ds p)) ≡ 1 =
      ap (λ q. one_if (is_none (told_on k ds q))) (sym e) ∙ ap (λ x. one_if (is_none x)) was in
      let others = no_more d ds ps in
      omega (arith, new, old, others))
      (λ there.
      let first = one_less (is_none (told_on k (d ∷ ds) p)) (is_none (told_on k ds p)) (was_open d ds p) in
      let others = fewer_open d ds ps was there in
      omega (arith, first, others))

  -- an open pair of the list is counted
  pub some_open : (ds : List Turn) (ps : List Pair) (p : Pair) → told_on k ds p ≡ None
      → list_any (is_pair p) ps ≡ true → 1 ≤ open_on k ds ps
  some_open ds ps p was h =
      let less = fewer_open (record { pair = p; holds = true }) ds ps was h in
      omega (arith, less)

-- ---- powers

pub doubled : (m n : ℕ) → m + 1 ≤ n → 2 ^ m + 2 ^ m ≤ 2 ^ n
doubled m n h =
    let up : 2 ^ suc m ≤ 2 ^ n = pow_mono {i = suc m} {j = n} (omega arith) in
    let double : 2 ^ suc m ≡ 2 ^ m * 2 = pow-suc 2 m in
    omega (arith, up, double)

pub at_least_one : (n : ℕ) → 1 ≤ 2 ^ n
at_least_one n = let up : 2 ^ 0 ≤ 2 ^ n = pow_mono {i = 0} {j = n} (omega arith) in omega (arith, up)

-- ---- what is spent

module _ (k : Base) (ps : List Pair) where
  -- one split for a pair that is taken as none; for one that is taken as a fact also all those where it was none
  abbrev pub spent : List Turn → ℕ
  spent [] = 0
  spent (d ∷ ds) = spent ds + (if d.holds then 2 ^ open_on k (record d { holds = false } ∷ ds) ps else 1)

  module _ (es : Trees) (all : HasAll es ps) where
    both_less : (d : Turn) (ds : List Turn) → told_on k ds d.pair ≡ None → some_asks es d.pair ≡ true
        → 2 ^ open_on k (record d { holds = false } ∷ ds) ps + 2 ^ open_on k (d ∷ ds) ps
        ≤ 2 ^ open_on k ds ps
    both_less d ds was asked =
        let n = open_on k ds ps in
        let one = fewer_open k (record d { holds = false }) ds ps was (all d.pair asked) in
        let two = fewer_open k d ds ps was (all d.pair asked) in
        let double_one = doubled (open_on k (record d { holds = false } ∷ ds) ps) n one in
        let double_two = doubled (open_on k (d ∷ ds) ps) n two in
        omega (arith, double_one, double_two)

    by_turn : (h : Bool) (a : ℕ) → 1 ≤ a → (if h then a else 1) ≤ a
    by_turn true a h = omega arith
    by_turn false a h = h

    -- what is spent, and what the open pairs may still take
    pub within : (ds : List Turn) → WereOpen k ds → AreAsked es ds
        → spent ds + 2 ^ open_on k ds ps ≤ 2 ^ open_on k [] ps
    within [] were asked = omega arith
    within (d ∷ ds) were asked =
        let older = within ds were.1 asked.1 in
        let both = both_less d ds were.0 asked.0 in
        let turn = by_turn d.holds (2 ^ open_on k (record d { holds = false } ∷ ds) ps)
        (at_least_one (open_on k (record d { holds = false } ∷ ds) ps)) in
        omega (arith, older, both, turn)

    turned_by : (h : Bool) (d : Turn) (ds ts : List Turn) (used : ℕ) → h ≡ d.holds
        → (if h then turned ds else Some (record d { holds = true } ∷ ds)) ≡ Some ts
        → told_on k ds d.pair ≡ None → some_asks es d.pair ≡ true
        → used + 1 ≤ spent (d ∷ ds) + 2 ^ open_on k (d ∷ ds) ps
        → (turned ds ≡ Some ts → used + 1 ≤ spent ds + 2 ^ open_on k ds ps → used ≤ spent ts)
        → used ≤ spent ts
    turned_by false d ds ts used is h was asked low older =
        let e : (record d { holds = true } ∷ ds) ≡ ts = cc in
        let same_turn : 2 ^ open_on k (d ∷ ds) ps ≡ 2 ^ open_on k (record d { holds = false } ∷ ds) ps =
        ap (λ b. 2 ^ open_on k (record d { holds = b } ∷ ds) ps) (sym is) in
        let one : (if d.holds then 2 ^ open_on k (record d { holds = false } ∷ ds) ps else 1) ≡ 1 =
        ap (λ b. if b then 2 ^ open_on k (record d { holds = false } ∷ ds) ps else 1) (sym is) in
        let now : used ≤ spent ds + 2 ^ open_on k (record d { holds = false } ∷ ds) ps =
        omega (arith, low, same_turn, one) in
        subst (λ xs. used ≤ spent xs) e now
    turned_by true d ds ts used is h was asked low older =
        let both = both_less d ds was asked in
        let two : (if d.holds then 2 ^ open_on k (record d { holds = false } ∷ ds) ps else 1)
        ≡ 2 ^ open_on k (record d { holds = false } ∷ ds) ps =
        ap (λ b. if b then 2 ^ open_on k (record d { holds = false } ∷ ds) ps else 1) (sym is) in
        older h (omega (arith, low, both, two))

    turned_spends : (ds ts : List Turn) (used : ℕ) → turned ds ≡ Some ts → WereOpen k ds → AreAsked es ds
        → used + 1 ≤ spent ds + 2 ^ open_on k ds ps → used ≤ spent ts
    turned_spends [] ts used h were asked low = cc
    turned_spends (d ∷ ds) ts used h were asked low =
        turned_by d.holds d ds ts used refl h were.0 asked.0 low
        (λ is lower. turned_spends ds ts used is were.1 asked.1 lower)

    pub spends : (ds ts : List Turn) (used : ℕ) → turned ds ≡ Some ts → WereOpen k ds → AreAsked es ds
        → used ≤ spent ds → used ≤ spent ts
    spends ds ts used h were asked low =
        let some = at_least_one (open_on k ds ps) in
        turned_spends ds ts used h were asked (omega (arith, low, some))

    -- what is used is less than all splits
    pub at_most_all : (ds : List Turn) (used : ℕ) → WereOpen k ds → AreAsked es ds → used ≤ spent ds
        → used + 1 ≤ 2 ^ open_on k [] ps
    at_most_all ds used were asked low =
        let bound = within ds were asked in
        let some = at_least_one (open_on k ds ps) in
        omega (arith, bound, some, low)

    -- where one more pair is to be split, the budget was less than all splits
    pub needs_more : (ds : List Turn) (used : ℕ) (p : Pair) → WereOpen k ds → AreAsked es ds → used ≤ spent ds
        → told_on k ds p ≡ None → some_asks es p ≡ true → used + 1 < 2 ^ open_on k [] ps
    needs_more ds used p were asked low was asks =
        let bound = within ds were asked in
        let some = some_open k ds ps p was (all p asks) in
        let up : 2 ^ 1 ≤ 2 ^ open_on k ds ps = pow_mono {i = 1} {j = open_on k ds ps} some in
        omega (arith, bound, up, low)

pub turned_asked_by : (es : Trees) (h : Bool) (d : Turn) (ds ts : List Turn)
    → (if h then turned ds else Some (record d { holds = true } ∷ ds)) ≡ Some ts
    → AreAsked es (d ∷ ds) → (turned ds ≡ Some ts → AreAsked es ts) → AreAsked es ts
turned_asked_by es false d ds ts h asked older =
    let e : (record d { holds = true } ∷ ds) ≡ ts = cc in
    subst (AreAsked es) e asked
turned_asked_by es true d ds ts h asked older = older h

pub turned_asked : (es : Trees) (ds ts : List Turn) → turned ds ≡ Some ts → AreAsked es ds → AreAsked es ts
turned_asked es [] ts h asked = cc
turned_asked es (d ∷ ds) ts h asked =
    turned_asked_by es d.holds d ds ts h asked (λ is. turned_asked es ds ts is asked.1)

-- ---- in the words of the contracts

none_told : (l n : Bool) → is_none (told_by l n) ≡ not (l || n)
none_told true n = refl
none_told false true = refl
none_told false false = refl

both_ones : (a b : Bool) (m n : ℕ) → a ≡ b → m ≡ n → one_if a + m ≡ one_if b + n
both_ones a b m n h k = ap (λ x. one_if x + m) h ∙ ap (λ x. one_if b + x) k

open_count_on : (k : FactConstraints) (ps : List Pair) → open_on (base_of k) [] ps ≡ open_count k ps
open_count_on k [] = refl
open_count_on k (p ∷ ps) =
    both_ones (is_none (told_on (base_of k) [] p)) (is_open k p) (open_on (base_of k) [] ps) (open_count k ps)
    (none_told (contains (set_on (base_of k) []) p) (is_refuted (base_of k) [] p)) (open_count_on k ps)

swapped : (x a b : Bool) → (x || (b || (a || false))) ≡ true → (x || (a || (b || false))) ≡ true
swapped true a b h = refl
swapped false true b h = refl
swapped false false true h = refl
swapped false false false h = h

pub needs_more_by : (k : FactConstraints) (es : Trees) (budget : ℕ)
    → NeedsMoreOn (base_of k) (tree (tree_of k.assumed.now) es) budget → NeedsMore k es budget
needs_more_by k es budget h = λ ps all. subst (λ n. budget + 1 < 2 ^ n) (open_count_on k ps) (h ps all)

-- the order of two expressions does not matter
pub other_order : (k : FactConstraints) (a b : Tree) (budget : ℕ) → NeedsMore k (tree b (tree a none)) budget
    → NeedsMore k (tree a (tree b none)) budget
other_order k a b budget h = λ ps all.
    h ps (λ p is. all p (swapped (asks (tree_of k.assumed.now) p) (asks a p) (asks b p) is))
