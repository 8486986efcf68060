-- What is found without a goal, and with it.
use Rattle.std.proofs.Common.{◌≡◌, ◌∙◌, ℕ, refl, sym, ap, Bool, true, false, ◌&&◌, ◌||◌, List, ◌∷◌, map}
use Rattle.std.specs.Prelude.{IsTrue}
use Rattle.std.specs.FinSet.{contains, from_list}
use Rattle.cargo_platform.specs.Trees.{CfgValue, tree_of, value_of}
use Rattle.cargo_platform.specs.Facts.{pair_of, pair_cmp, fact_set, truth}
use Rattle.exact_answers.specs.Goals.{true_as_wanted, goals_met}
use Rattle.exact_answers.specs.declared.goal_diagrams.building.Goal.{Goal}
use Rattle.exact_answers.specs.declared.search.Found.{Found}
use Rattle.exact_answers.specs.declared.search.Found.TheVariants as found
use Rattle.exact_answers.specs.Asking.{asks, some_asks}
use Rattle.exact_answers.specs.Inside.Paths.{Base, IsOver}
use Rattle.exact_answers.specs.Inside.Searches.{Searched, MayBeFound, IsMetBy, goal_trees}

and_false : (a : Bool) → (a && false) ≡ false
and_false true = refl
and_false false = refl

or_more : (l a b : Bool) → IsTrue (l || b) → IsTrue (l || (a || b))
or_more true a b h = h
or_more false true b h = refl
or_more false false b h = h

-- a fact that may be found for some goals may be found for one more
may_be_found : (k : Base) (g : Goal) (gs : List Goal) (c : CfgValue) → MayBeFound k (goal_trees gs) c
    → MayBeFound k (goal_trees (g ∷ gs)) c
may_be_found k g gs c h = (
  h.0,
  or_more (contains (from_list {R = pair_cmp} k.listed) (pair_of c)) (asks (tree_of g.e.now) (pair_of c))
      (some_asks (goal_trees gs) (pair_of c)) h.1,
)

-- what is found for some goals, and meets one more, is found for all
pub with_goal : (k : Base) (g : Goal) (gs : List Goal) (few budget : ℕ) (r : Found) → IsMetBy g r
    → Searched k gs few r → Searched k (g ∷ gs) budget r
with_goal k g gs few budget (found.Facts facts) met h = (
  h.0,
  (
    ap (λ b. b && goals_met (fact_set (map value_of facts.items)) gs) met ∙ h.1.0,
    λ i d short. may_be_found k g gs _ (h.1.1 i d short),
  ),
)
with_goal k g gs few budget found.Nothing met h =
    λ s over. ap (λ b. true_as_wanted g.wanted (truth s (tree_of g.e.now)) && b) (h s over)
    ∙ and_false (true_as_wanted g.wanted (truth s (tree_of g.e.now)))
with_goal k g gs few budget found.Undecided met h = absurd met
