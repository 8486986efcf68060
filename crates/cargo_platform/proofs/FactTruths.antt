-- The truth of a tree as its facts change.
use Rattle.std.proofs.Common.{◌≡◌, refl, sym, ap, ◌∙◌, Bool, true, false, not, ◌&&◌, ◌||◌, List, map, Some, None}
use Rattle.std.proofs.Common.{true≢false}
use Rattle.std.specs.Prelude.{IsTrue, Option, ℕ}
use Rattle.std.specs.declared.cmp.Ordering.TheVariants.{Equal}
use Rattle.std.specs.Ordering.{is_lt, is_gt, nat_cmp}
use Rattle.std.specs.Option.{option_cmp}
use Rattle.std.specs.Cmp.{Equal-is, eq_by_cmp_equiv, first_so, second_so, both_ways}
use Rattle.std.specs.Cmp.Lexicographic.{slice_cmp}
use Rattle.std.specs.FinSet.{contains-from_list, same_set, IsAntisymmetric}
use Rattle.std.proofs.lemmas.Slice.Eq.{bytes_eq-Decides}
use Rattle.std.proofs.lemmas.Map.Views.{list_any-from_Contains, Contains-from_any}
use Rattle.cargo_platform.specs.Trees.{CfgValue, Tree, Not, All, Any, Value, True, False, Trees, none, tree}
use Rattle.cargo_platform.specs.Trees.{Condition, Target, Expression}
use Rattle.cargo_platform.specs.Facts.{Pair, pair_of, pair_cmp, FactSet, fact_set, truth, all_true, any_true}
use Rattle.cargo_platform.specs.FactLaws.{IsInWhereListed, HaveSamePairs, HaveSameFacts, HasAllFacts, is_without_not}
use Rattle.cargo_platform.specs.FactLaws.{are_without_not, negations, IsTruthOfCondition}
use Rattle.cargo_platform.specs.OrderLaws.{first_tied, second_tied, text_tie}
use Rattle.cargo_platform.proofs.FactSets.{pairs_total}

value_part_tie : (u v : Option (List ℕ)) → option_cmp (slice_cmp nat_cmp) u v ≡ Equal → u ≡ v
value_part_tie None None h = refl
value_part_tie None (Some v) h = absurd (true≢false (ap is_lt h))
value_part_tie (Some u) None h = absurd (true≢false (ap is_gt h))
value_part_tie (Some u) (Some v) h = ap Some (text_tie u v h)

-- only equal pairs tie
pub pair_tie : IsAntisymmetric pair_cmp
pair_tie p q h =
    let names : p.name ≡ q.name = text_tie p.name q.name (first_tied _ _ h) in
    let values : p.value ≡ q.value = value_part_tie p.value q.value (second_tied _ _ h) in
    λ i. record { name = names i; value = values i }

pub listed : (cs : List CfgValue) (p : Pair) → IsInWhereListed cs p
listed cs p =
    let by_test = contains-from_list pairs_total (map pair_of cs) p in (
      λ inside. Contains-from_any
          (λ x y same. pair_tie x y ((Equal-is (pair_cmp x y)).0 same)) p (map pair_of cs) (sym by_test ∙ inside),
      λ member. by_test ∙ list_any-from_Contains (eq_by_cmp_equiv pairs_total) p (map pair_of cs) member,
    )

pub same_facts_truth : (s t : FactSet) (e : Tree) → HaveSameFacts s t → truth s e ≡ truth t e
same_facts_truth s t e same = ap (λ facts. truth facts e) (same_set pairs_total pair_tie s t same)

pub same_pairs_truth : (cs ds : List CfgValue) (e : Tree) → HaveSamePairs cs ds
    → truth (fact_set cs) e ≡ truth (fact_set ds) e
same_pairs_truth cs ds e same =
    same_facts_truth (fact_set cs) (fact_set ds) e
    (λ p. both_ways _ _ (λ h. (listed ds p).1 ((same p).0 ((listed cs p).0 h)))
    (λ h. (listed cs p).1 ((same p).1 ((listed ds p).0 h))))

either : (a b c d : Bool) → (a ≡ true → b ≡ true) → (c ≡ true → d ≡ true) → (a || c) ≡ true → (b || d) ≡ true
either true b c d f g h = ap (λ x. x || d) (f refl)
either false true c d f g h = refl
either false false c d f g h = g h

module _ (fewer more : FactSet) (all : HasAllFacts fewer more) where
  mutual
    pub more_true : (e : Tree) → IsTrue (is_without_not e) → IsTrue (truth fewer e) → IsTrue (truth more e)
    more_true (Not e) w h = absurd (true≢false (sym w))
    more_true (All es) w h = more_all es w h
    more_true (Any es) w h = more_any es w h
    more_true (Value c) w h = all (pair_of c) h
    more_true True w h = refl
    more_true False w h = h

    more_all : (es : Trees) → IsTrue (are_without_not es) → IsTrue (all_true fewer es) → IsTrue (all_true more es)
    more_all none w h = refl
    more_all (tree e es) w h =
        λ i. more_true e (first_so _ _ w) (first_so _ _ h) i && more_all es (second_so _ _ w) (second_so _ _ h) i

    more_any : (es : Trees) → IsTrue (are_without_not es) → IsTrue (any_true fewer es) → IsTrue (any_true more es)
    more_any none w h = h
    more_any (tree e es) w h =
        either (truth fewer e) (truth more e) (any_true fewer es) (any_true more es) (more_true e (first_so _ _ w))
        (more_any es (second_so _ _ w)) h

not_both : (a b : Bool) → not (a && b) ≡ (not a || not b)
not_both true b = refl
not_both false b = refl

pub not_all : (facts : FactSet) (es : Trees) → not (all_true facts es) ≡ any_true facts (negations es)
not_all facts none = refl
not_all facts (tree e es) =
    not_both (truth facts e) (all_true facts es) ∙ ap (λ b. not (truth facts e) || b) (not_all facts es)

pub condition_truth : (target : List ℕ) (facts : FactSet) (p : Condition) → IsTruthOfCondition target facts p
condition_truth target facts (Target name) = bytes_eq-Decides name target
condition_truth target facts (Expression e) = (λ h. h, λ h. h)
