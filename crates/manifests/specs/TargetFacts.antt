-- The knowledge about a target by its facts, by facts that are added, and by the names and keys that are open.
use Rattle.std.specs.Prelude.{◌≡◌, ℕ, Bool, true, false, ◌||◌, List, ◌++◌, Option, Some, None, IfSome, IsTrue, map}
use Rattle.std.specs.FinSet.{contains, contains-from_list}
use Rattle.std.specs.Ordering.{eq_by_cmp}
use Rattle.std.proofs.Common.{refl, ◌∙◌}
use Rattle.std.proofs.lemmas.List.{map-append}
use Rattle.std.proofs.lemmas.List.Folds.{list_any-append}
use Rattle.cargo_platform.specs.Trees.{CfgValue}
use Rattle.cargo_platform.specs.Facts.{Pair, FactSet, pair_of, pair_cmp, fact_set}
use Rattle.cargo_platform.specs.FactLaws.{HasAllFacts}
use Rattle.cargo_platform.proofs.FactSets.{pairs_total}
use Rattle.partial_facts.specs.Partly.{is_named}

-- the set has each fact that is added, and of the names and keys that are not open the facts that are listed or added,
-- and no others
pub record HasTargetFacts (listed added : FactSet) (open_keys : List (List ℕ)) (s : FactSet) : Type 0 where
  pub has : HasAllFacts added s
  pub same : (p : Pair) → contains added p ≡ false → is_named p.name open_keys ≡ false
      → contains s p ≡ contains listed p

-- the decision by whether a pair is added, whether its name or key is open, and whether it is listed
abbrev pub told_by : Bool → Bool → Bool → Option Bool
told_by true o l = Some true
told_by false true l = None
told_by false false l = Some l

abbrev pub facts_told : FactSet → FactSet → List (List ℕ) → Pair → Option Bool
facts_told listed added open_keys p = told_by (contains added p) (is_named p.name open_keys) (contains listed p)

-- one such set: the facts that are listed and those that are added
abbrev pub facts_example : List CfgValue → List CfgValue → FactSet
facts_example listed added = fact_set (listed ++ added)

-- a pair is in the set of two lists exactly if it is in that of one of them
joined : (cs ds : List CfgValue) (p : Pair)
    → contains (fact_set (cs ++ ds)) p ≡ (contains (fact_set cs) p || contains (fact_set ds) p)
joined cs ds p =
    rw (
      contains-from_list pairs_total (map pair_of (cs ++ ds)) p,
      map-append pair_of cs ds,
      list_any-append (eq_by_cmp pair_cmp p) (map pair_of cs) (map pair_of ds),
      contains-from_list pairs_total (map pair_of cs) p,
      contains-from_list pairs_total (map pair_of ds) p,
    ) refl

or_true : (a b : Bool) → IsTrue b → IsTrue (a || b)
or_true true b h = refl
or_true false b h = h

or_false : (a b : Bool) → b ≡ false → (a || b) ≡ a
or_false true b h = refl
or_false false b h = h

pub facts_possible : (cs ds : List CfgValue) (open_keys : List (List ℕ))
    → HasTargetFacts (fact_set cs) (fact_set ds) open_keys (facts_example cs ds)
facts_possible cs ds open_keys = record {
  has = λ p h. rw (joined cs ds p) (or_true (contains (fact_set cs) p) (contains (fact_set ds) p) h);
  same = λ p out shut. joined cs ds p ∙ or_false (contains (fact_set cs) p) (contains (fact_set ds) p) out;
}

sound_by : (a o l c : Bool) → (a ≡ true → c ≡ true) → (a ≡ false → o ≡ false → c ≡ l)
    → IfSome (told_by a o l) (λ b. c ≡ b)
sound_by true o l c h k = h refl
sound_by false true l c h k = tt
sound_by false false l c h k = k refl refl

pub facts_sound : (listed added : FactSet) (open_keys : List (List ℕ)) (s : FactSet) (p : Pair)
    → HasTargetFacts listed added open_keys s
    → IfSome (facts_told listed added open_keys p) (λ b. contains s p ≡ b)
facts_sound listed added open_keys s p is =
    sound_by (contains added p) (is_named p.name open_keys) (contains listed p) (contains s p) (is.has p) (is.same p)
