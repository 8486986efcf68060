-- From what the search says of its goals to what the questions ask.
use Rattle.std.proofs.Common.{◌≡◌, ◌∙◌, ℕ, refl, sym, ap, Bool, true, false, not, ◌&&◌, ◌||◌, List, map, true≢false}
use Rattle.std.specs.Cmp.{first_so, second_so}
use Rattle.std.specs.FinSet.{contains}
use Rattle.cargo_platform.specs.Trees.{CfgValue, Tree, Trees, none, tree, tree_of, value_of}
use Rattle.cargo_platform.specs.Facts.{FactSet, pair_of, fact_set, truth}
use Rattle.cargo_platform.specs.declared.cfg.CfgExpr.{CfgExpr}
use Rattle.exact_answers.specs.Goals.{true_as_wanted, goals_met}
use Rattle.exact_answers.specs.declared.fact_constraints.FactConstraints.{FactConstraints}
use Rattle.exact_answers.specs.declared.goal_diagrams.building.Goal.{Goal}
use Rattle.exact_answers.specs.declared.search.Found.{Found}
use Rattle.exact_answers.specs.declared.search.Found.TheVariants as found
use Rattle.exact_answers.specs.Possible.{IsAllowed}
use Rattle.exact_answers.specs.Asking.{asks, NeedsMore}
use Rattle.exact_answers.specs.Inside.Paths.{IsOver, base_of}
use Rattle.exact_answers.specs.Inside.Searches.{goal_trees, SaysFound, Searched, NeedsMoreOn}
use Rattle.exact_answers.specs.Inside.Searches.{MayBeFound}
use Rattle.exact_answers.specs.Answers.{IsFactOfExample, AreExample}

allowed : (k : FactConstraints) (s : FactSet) → IsOver (base_of k) s → truth s (tree_of k.assumed.now) ≡ true
    → IsAllowed k s
allowed k s over h =
    record { partly_known = over.partly_known; one_value = over.one_value; assumed_true = h }

over_of : (k : FactConstraints) (s : FactSet) → IsAllowed k s → IsOver (base_of k) s
over_of k s is = record { partly_known = is.partly_known; one_value = is.one_value }

met : (w t : Bool) → true_as_wanted w t ≡ true → t ≡ w
met true t h = h
met false true h = absurd (true≢false (sym h))
met false false h = refl

wanted_met : (w t : Bool) → t ≡ w → true_as_wanted w t ≡ true
wanted_met true t h = h
wanted_met false true h = absurd (true≢false h)
wanted_met false false h = refl

unmet : (w t : Bool) → true_as_wanted w t ≡ false → t ≡ not w
unmet true t h = h
unmet false true h = refl
unmet false false h = absurd (true≢false h)

rest_false : (a b : Bool) → (a && b) ≡ false → a ≡ true → b ≡ false
rest_false true b h is = h
rest_false false b h is = absurd (true≢false (sym is))

last_false : (a : Bool) → (a && true) ≡ false → a ≡ false
last_false true h = h
last_false false h = refl

pub any_says : (k : FactConstraints) (gs : List Goal) (budget : ℕ) (es : Trees) (r : Found)
    → (NeedsMoreOn (base_of k) (goal_trees gs) budget → NeedsMore k es budget)
    → ((c : CfgValue) → MayBeFound (base_of k) (goal_trees gs) c → IsFactOfExample k es c)
    → ((s : FactSet) → goals_met s gs ≡ (truth s (tree_of k.assumed.now) && true))
    → Searched (base_of k) gs budget r
    → SaysFound r k es budget (λ s. Unit {0}) (λ s. ⊥)
any_says k gs budget es (found.Facts facts) more each is h =
    (allowed k _ h.0 (first_so _ _ (sym (is _) ∙ h.1.0)), (tt, λ i d short. each _ (h.1.1 i d short)))
any_says k gs budget es found.Nothing more each is h =
    λ s allows. true≢false (sym allows.assumed_true ∙ last_false _ (sym (is s) ∙ h s (over_of k s allows)))
any_says k gs budget es found.Undecided more each is h = more h

pub one_says : (k : FactConstraints) (e : CfgExpr) (w : Bool) (gs : List Goal) (budget : ℕ) (es : Trees) (r : Found)
    → (NeedsMoreOn (base_of k) (goal_trees gs) budget → NeedsMore k es budget)
    → ((c : CfgValue) → MayBeFound (base_of k) (goal_trees gs) c → IsFactOfExample k es c)
    → ((s : FactSet) → goals_met s gs
    ≡ (truth s (tree_of k.assumed.now) && (true_as_wanted w (truth s (tree_of e)) && true)))
    → Searched (base_of k) gs budget r
    → SaysFound r k es budget (λ s. truth s (tree_of e) ≡ w) (λ s. truth s (tree_of e) ≡ not w)
one_says k e w gs budget es (found.Facts facts) more each is h =
    let all = sym (is _) ∙ h.1.0 in
    let true_facts = met w _ (first_so _ _ (second_so _ _ all)) in
    (allowed k _ h.0 (first_so _ _ all), (true_facts, λ i d short. each _ (h.1.1 i d short)))
one_says k e w gs budget es found.Nothing more each is h =
    λ s allows. unmet w (truth s (tree_of e))
    (last_false _ (rest_false _ _ (sym (is s) ∙ h s (over_of k s allows)) allows.assumed_true))
one_says k e w gs budget es found.Undecided more each is h = more h

pub both_say : (k : FactConstraints) (a b : CfgExpr) (v w : Bool) (gs : List Goal) (budget : ℕ) (es : Trees) (r : Found)
    → (NeedsMoreOn (base_of k) (goal_trees gs) budget → NeedsMore k es budget)
    → ((c : CfgValue) → MayBeFound (base_of k) (goal_trees gs) c → IsFactOfExample k es c)
    → ((s : FactSet) → goals_met s gs
    ≡ (truth s (tree_of k.assumed.now)
    && (true_as_wanted v (truth s (tree_of a)) && (true_as_wanted w (truth s (tree_of b)) && true))))
    → Searched (base_of k) gs budget r
    → SaysFound r k es budget (λ s. (truth s (tree_of a) ≡ v) × (truth s (tree_of b) ≡ w))
    (λ s. truth s (tree_of a) ≡ v → truth s (tree_of b) ≡ not w)
both_say k a b v w gs budget es (found.Facts facts) more each is h =
    let all = sym (is _) ∙ h.1.0 in (
      allowed k _ h.0 (first_so _ _ all),
      (
        (met v _ (first_so _ _ (second_so _ _ all)), met w _ (first_so _ _ (second_so _ _ (second_so _ _ all)))),
        λ i d short. each _ (h.1.1 i d short),
      ),
    )
both_say k a b v w gs budget es found.Nothing more each is h =
    λ s allows first. unmet w (truth s (tree_of b))
    (last_false _
    (rest_false _ _ (rest_false _ _ (sym (is s) ∙ h s (over_of k s allows)) allows.assumed_true)
    (wanted_met v (truth s (tree_of a)) first)))
both_say k a b v w gs budget es found.Undecided more each is h = more h

-- ---- two implications

pub one_way : (x y : Bool) → x ≡ true → y ≡ false → x ≡ not y
one_way x y h k = h ∙ sym (ap not k)

pub other_way : (x y : Bool) → y ≡ true → x ≡ false → x ≡ not y
other_way x y h k = k ∙ sym (ap not h)

swapped : (l t x y : Bool) → (l || (t || (x || (y || false)))) ≡ (l || (t || (y || (x || false))))
swapped true t x y = refl
swapped false true x y = refl
swapped false false true true = refl
swapped false false true false = refl
swapped false false false true = refl
swapped false false false false = refl

-- an example of the one implication, or of the other
pub one_example : (k : FactConstraints) (a b : CfgExpr) (facts : List CfgValue)
    → AreExample k (tree (tree_of a) (tree (tree_of b) none))
    (λ s. (truth s (tree_of a) ≡ true) × (truth s (tree_of b) ≡ false)) facts
    → AreExample k (tree (tree_of a) (tree (tree_of b) none)) (λ s. truth s (tree_of a) ≡ not (truth s (tree_of b)))
    facts
one_example k a b facts h = (h.0, (one_way _ _ h.1.0.0 h.1.0.1, h.1.1))

swapped_fact : (k : FactConstraints) (a b : Tree) (c : CfgValue) → IsFactOfExample k (tree b (tree a none)) c
    → IsFactOfExample k (tree a (tree b none)) c
swapped_fact k a b c h = (
  h.0,
  swapped (contains (fact_set (map value_of k.facts.now)) (pair_of c)) (asks (tree_of k.assumed.now) (pair_of c))
      (asks a (pair_of c)) (asks b (pair_of c)) ∙ h.1,
)

pub other_example : (k : FactConstraints) (a b : CfgExpr) (facts : List CfgValue)
    → AreExample k (tree (tree_of b) (tree (tree_of a) none))
    (λ s. (truth s (tree_of b) ≡ true) × (truth s (tree_of a) ≡ false)) facts
    → AreExample k (tree (tree_of a) (tree (tree_of b) none)) (λ s. truth s (tree_of a) ≡ not (truth s (tree_of b)))
    facts
other_example k a b facts h = (
  h.0,
  (
    other_way _ _ h.1.0.0 h.1.0.1,
    λ i d short. swapped_fact k (tree_of a) (tree_of b) _ (h.1.1 i d short),
  ),
)

pub both_ways_same : (x y : Bool) → (x ≡ true → y ≡ true) → (y ≡ true → x ≡ true) → x ≡ y
both_ways_same true y f g = sym (f refl)
both_ways_same false true f g = g refl
both_ways_same false false f g = refl

pub ruleset both_ways = (one_example, other_example, both_ways_same)
