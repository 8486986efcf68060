-- Each fact that is found is listed, or is in what was asked.
use Rattle.std.proofs.Common.{◌≡◌, ◌∙◌, sym, ap, subst, ◌<◌, true, ◌&&◌, ◌||◌, List, [], ◌∷◌, map}
use Rattle.std.proofs.Common.{true≢false}
use Rattle.std.specs.List.{list_any, All}
use Rattle.std.specs.Cmp.{eq_by_cmp_equiv, second_so}
use Rattle.std.specs.FinSet.{contains, from_list}
use Rattle.std.proofs.lemmas.List.{length-map, get_or-map}
use Rattle.std.proofs.lemmas.Map.Views.{All-from_any}
use Rattle.cargo_platform.specs.Trees.{CfgValue, Trees}
use Rattle.cargo_platform.specs.Facts.{Pair, pair_of, pair_cmp}
use Rattle.cargo_platform.proofs.FactSets.{pairs_total}
use Rattle.exact_answers.specs.Asking.{is_pair, some_asks}
use Rattle.exact_answers.specs.Answers.{IsUnmarked}
use Rattle.exact_answers.specs.Inside.Paths.{Turn, Base, takes, facts_on}
use Rattle.exact_answers.specs.Inside.Searches.{AreAsked, MayBeFound}
use Rattle.exact_answers.proofs.Telling.{or_cases, or_true, same, among, any_on}

taken_asked : (es : Trees) (ds : List Turn) (p : Pair) → AreAsked es ds → takes (is_pair p) ds ≡ true
    → some_asks es p ≡ true
taken_asked es [] p asked h = absurd (true≢false (sym h))
taken_asked es (d ∷ ds) p asked h =
    or_cases (some_asks es p ≡ true) (d.holds && is_pair p d.pair) (takes (is_pair p) ds) h
    (λ here. ap (some_asks es) (same p d.pair (second_so _ _ here)) ∙ asked.0)
    (λ there. taken_asked es ds p asked.1 there)

of_pairs : (P : Pair → Type 0) (cs : List CfgValue) → All P (map pair_of cs) → All (λ c. P (pair_of c)) cs
of_pairs P cs h = λ k d short.
    subst P (get_or-map pair_of cs k d (pair_of d) short)
    (h k (pair_of d) (subst (λ n. k < n) (sym (length-map cs pair_of)) short))

abbrev IsListedOrAsked : Base → Trees → Pair → Type 0
IsListedOrAsked k es p = (contains (from_list {R = pair_cmp} k.listed) p || some_asks es p) ≡ true

on_path_is_so : (k : Base) (es : Trees) (ds : List Turn) → AreAsked es ds → (p : Pair)
    → list_any (is_pair p) (facts_on k ds) ≡ true → IsListedOrAsked k es p
on_path_is_so k es ds asked p h =
    or_cases (IsListedOrAsked k es p) (takes (is_pair p) ds) (list_any (is_pair p) k.listed)
    (sym (any_on (is_pair p) k ds) ∙ h)
    (λ is. or_true (contains (from_list {R = pair_cmp} k.listed) p) (some_asks es p) (taken_asked es ds p asked is))
    (λ is. ap (λ b. b || some_asks es p) (among k.listed p ∙ is))

-- a fact that is found is listed, or it was split
pub may_be_found : (k : Base) (es : Trees) (ds : List Turn) (facts : List CfgValue) → AreAsked es ds
    → map pair_of facts ≡ facts_on k ds → All IsUnmarked facts → All (MayBeFound k es) facts
may_be_found k es ds facts asked is unmarked =
    let on : All (IsListedOrAsked k es) (facts_on k ds) =
    All-from_any (eq_by_cmp_equiv pairs_total) (IsListedOrAsked k es) (facts_on k ds) (on_path_is_so k es ds asked) in
    let each = of_pairs (IsListedOrAsked k es) facts (subst (All (IsListedOrAsked k es)) (sym is) on) in
    λ i d short. (unmarked i d short, each i d short)
