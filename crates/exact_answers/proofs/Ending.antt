-- The end of a search by a decision diagram.
use Rattle.std.proofs.Common.{◌≡◌, ◌∙◌, refl, sym, ap, subst, Bool, true, false, List, [], map, Some, None}
use Rattle.std.proofs.Common.{IfSome, inl, inr, true≢false, Result, Ok, Err, OnOk}
use Rattle.std.specs.List.{All}
use Rattle.std.specs.FinSet.{contains}
use Rattle.cargo_platform.specs.Trees.{CfgValue, Trees}
use Rattle.cargo_platform.specs.Facts.{Pair, FactSet, pair_of, fact_set}
use Rattle.partial_facts.specs.Partly.{names_of, told_by}
use Rattle.exact_answers.specs.declared.goal_diagrams.building.Goal.{Goal}
use Rattle.exact_answers.specs.declared.goal_diagrams.answers.Outcome.{Outcome}
use Rattle.exact_answers.specs.declared.goal_diagrams.answers.Outcome.TheVariants as outcome
use Rattle.exact_answers.specs.Goals.{goals_met, HasOneOpenValue, SaysOutcome, IsAsTold}
use Rattle.exact_answers.specs.declared.diagram.DiagramResult.{DiagramResult}
use Rattle.exact_answers.specs.declared.diagram.DiagramResult.TheVariants as end
use Rattle.exact_answers.specs.declared.fact_constraints.FactConstraints.{FactConstraints}
use Rattle.exact_answers.specs.declared.path.Path.{Path}
use Rattle.exact_answers.specs.declared.search.GoalsState.{GoalsState}
use Rattle.exact_answers.specs.declared.search.GoalsState.TheVariants as step
use Rattle.exact_answers.specs.Answers.{IsUnmarked}
use Rattle.exact_answers.specs.Asking.{some_asks}
use Rattle.exact_answers.specs.Inside.Paths.{IsOver, base_of, turns, told_on, told_by_path, facts_on, set_on}
use Rattle.exact_answers.specs.Inside.Paths.{as_told, WereOpen}
use Rattle.exact_answers.specs.Inside.Searches.{goals_known, goal_trees, AreAsked, AreMet, AreMissed, MayBeFound}
use Rattle.exact_answers.specs.Inside.Searches.{SaysStep, IsPathOf, SaysEnd}
use Rattle.exact_answers.proofs.Asked.{may_be_found}
use Rattle.exact_answers.proofs.Searching.{goals_decided, found_facts}
use Rattle.exact_answers.proofs.Telling.{told_sound}

not_listed : (l n : Bool) → told_by l n ≡ None → l ≡ true → ⊥
not_listed true n h is = cc
not_listed false n h is = true≢false (sym is)

-- ---- nothing is found by a diagram that begins with no splits

pub missed : (p : Path) (k : FactConstraints) (gs : List Goal) (ps : List Pair) (r : Outcome) → p.known.now ≡ k
    → turns p ≡ []
    → ((s : FactSet) → IsAsTold (told_by_path p) s → HasOneOpenValue (told_by_path p) (names_of k.single.now) s
    → SaysOutcome r s ps (goals_met s gs))
    → r ≡ outcome.Nothing → AreMissed (base_of k) gs []
missed p k gs ps r is none says nothing s over agrees =
    let fresh : (q : Pair) → told_by_path p q ≡ told_on (base_of k) [] q = λ q.
    ap (λ z. told_on (base_of z) (turns p) q) is ∙ ap (λ ds. told_on (base_of k) ds q) none in
    let told : IsAsTold (told_by_path p) s = λ q.
    subst (λ o. IfSome o (λ b. contains s q ≡ b)) (sym (fresh q)) (told_sound (base_of k) [] s over tt q) in
    let one : HasOneOpenValue (told_by_path p) (names_of k.single.now) s = λ a b single value name no_a no_b in_a in_b.
    elim (over.one_value a b single value name in_a in_b) [
      | inl same ↦ same
      | inr both ↦ absurd (not_listed _ _ (sym (fresh a) ∙ no_a) both.0)
    ] in
    subst (λ r. SaysOutcome r s ps (goals_met s gs)) nothing (says s told one)

-- ---- a path of choices

pub both_on_ok : {T E P Q S : Type 0} (r : Result T E) → OnOk r P → OnOk r Q → (P → Q → S) → OnOk r S
both_on_ok (Ok x) p q f = f p q
both_on_ok (Err e) p q f = tt

pub fresh_path : (p : Path) (k : FactConstraints) (es : Trees) → p.known.now ≡ k → turns p ≡ [] → IsPathOf p k es
fresh_path p k es is none = record {
  known = is;
  were_open = subst (WereOpen (base_of k)) (sym none) tt;
  asked = subst (AreAsked es) (sym none) tt;
}

pub taken_path : (p q : Path) (k : FactConstraints) (es : Trees) (at : Pair) → q.known.now ≡ p.known.now
    → (WereOpen (base_of p.known.now) (turns p) → WereOpen (base_of p.known.now) (turns q))
    → ((es : Trees) → some_asks es at ≡ true → AreAsked es (turns p) → AreAsked es (turns q))
    → some_asks es at ≡ true → IsPathOf p k es → IsPathOf q k es
taken_path p q k es at is kept asked here way = record {
  known = is ∙ way.known;
  were_open =
      subst (λ z. WereOpen (base_of z) (turns q)) way.known
      (kept (subst (λ z. WereOpen (base_of z) (turns p)) (sym way.known) way.were_open));
  asked = asked es here way.asked;
}

-- the goals are met on it
pub met_on : (p : Path) (k : FactConstraints) (gs : List Goal) (st : GoalsState) (b : Bool)
    → IsPathOf p k (goal_trees gs) → SaysStep st (told_by_path p) gs → st ≡ step.Decided b → b ≡ true
    → SaysEnd (end.Met p) k gs
met_on p k gs st b way says is holds =
    let known : goals_known (told_by_path p) gs ≡ Some true =
    subst (λ st. SaysStep st (told_by_path p) gs) (is ∙ ap step.Decided holds) says in (
      way,
      subst (λ z. AreMet (base_of z) gs (turns p)) way.known
          (goals_decided (told_by_path p) (set_on (base_of p.known.now) (turns p))
          (as_told (base_of p.known.now) (turns p)) gs true known),
    )

-- ---- the end

pub met_found : (e : DiagramResult) (p : Path) (k : FactConstraints) (gs : List Goal) (facts : List CfgValue)
    → e ≡ end.Met p → SaysEnd e k gs → map pair_of facts ≡ facts_on (base_of k) (turns p) → All IsUnmarked facts
    → IsOver (base_of k) (fact_set facts)
    × ((goals_met (fact_set facts) gs ≡ true) × All (MayBeFound (base_of k) (goal_trees gs)) facts)
met_found e p k gs facts is says pairs unmarked =
    let way : IsPathOf p k (goal_trees gs) × AreMet (base_of k) gs (turns p) = subst (λ e. SaysEnd e k gs) is says in
    let found = found_facts k k (turns p) facts gs refl pairs way.0.were_open way.1 in
    (found.0, (found.1, may_be_found (base_of k) (goal_trees gs) (turns p) facts way.0.asked pairs unmarked))

pub missed_by : (e : DiagramResult) (k : FactConstraints) (gs : List Goal) → e ≡ end.Missed → SaysEnd e k gs
    → (s : FactSet) → IsOver (base_of k) s → goals_met s gs ≡ false
missed_by e k gs is says s over =
    let none : AreMissed (base_of k) gs [] = subst (λ e. SaysEnd e k gs) is says in none s over tt
