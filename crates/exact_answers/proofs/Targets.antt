-- From searches by name to what they say of targets.
use Rattle.std.proofs.Common.{◌≡◌, ◌∙◌, refl, sym, ap, subst, ℕ, Bool, true, false, not, ◌||◌, List, [], ◌∷◌}
use Rattle.std.proofs.Common.{Option, Some, None, map, true≢false}
use Rattle.std.specs.Prelude.{String, string_bytes, if◌then◌else◌, bytes_eq, ◌↔◌}
use Rattle.std.specs.List.{All}
use Rattle.std.specs.FinSet.{contains}
use Rattle.std.specs.declared.alloc.Global.{Global}
use Rattle.std.proofs.lemmas.Slice.Eq.{bytes_eq-Decides}
use Rattle.cargo_platform.specs.Trees.{CfgValue, Tree, True, False, Condition, Target, Expression, tree, none}
use Rattle.cargo_platform.specs.Trees.{tree_of, value_of}
use Rattle.cargo_platform.specs.Facts.{Pair, FactSet, pair_of, fact_set, truth, IsTrueCondition}
use Rattle.exact_answers.specs.Asking.{asks, some_asks, NeedsMore}
use Rattle.exact_answers.specs.Answers.{IsFactOfExample, OverEach}
use Rattle.exact_answers.specs.Targets.{IsOtherName, MayHaveName, IsExample, asked_tree, asked_trees}
use Rattle.exact_answers.specs.Targets.{SaysSatisfiability, SaysValidity}
use Rattle.exact_answers.specs.Inside.Searches.{SaysFound}
use Rattle.exact_answers.specs.Inside.Targets.{tree_under, is_name_of, Wanted, wants, conditions, MetUnder}
use Rattle.exact_answers.specs.Inside.Targets.{MissedUnder, SaysFoundUnder, with_name, or_undecided, as_can, as_must}
use Rattle.exact_answers.specs.Inside.Targets.{SaysTarget}
use Rattle.exact_answers.specs.declared.fact_constraints.FactConstraints.{FactConstraints}
use Rattle.exact_answers.specs.declared.search.Found.{Found}
use Rattle.exact_answers.specs.declared.search.Found.TheVariants as found
use Rattle.exact_answers.specs.declared.platforms.FoundTarget.{FoundTarget}
use Rattle.exact_answers.specs.declared.platforms.FoundTarget.TheVariants as one
use Rattle.exact_answers.specs.declared.platforms.PossibleTarget.{PossibleTarget}
use Rattle.exact_answers.specs.declared.platforms.Satisfiability.{Satisfiability}
use Rattle.exact_answers.specs.declared.platforms.Validity.{Validity}
use Rattle.exact_answers.proofs.Telling.{is_false}

by_cases : (P : Type 0) (b : Bool) → (b ≡ true → P) → (b ≡ false → P) → P
by_cases P true f g = f refl
by_cases P false f g = g refl

-- ---- with one name

literal_asks : (b : Bool) (p : Pair) → asks (if b then True else False) p ≡ false
literal_asks true p = refl
literal_asks false p = refl

asks_under : (name : Option (List ℕ)) (c : Condition) (p : Pair) → asks (tree_under name c) p ≡ asks (asked_tree c) p
asks_under (Some name) (Target own) p = literal_asks (bytes_eq own name) p
asks_under (Some name) (Expression e) p = refl
asks_under None (Target own) p = refl
asks_under None (Expression e) p = refl

asked_under : (w : Wanted) (name : Option (List ℕ)) (p : Pair)
    → some_asks (tree (tree_of w.known.assumed.now)
    (tree (tree_under name w.first) (tree (tree_under name w.second) none))) p
    ≡ some_asks (tree (tree_of w.known.assumed.now) (asked_trees (conditions w))) p
asked_under w name p =
    ap (λ b. asks (tree_of w.known.assumed.now) p || (b || (asks (tree_under name w.second) p || false)))
    (asks_under name w.first p)
    ∙ ap (λ b. asks (tree_of w.known.assumed.now) p || (asks (asked_tree w.first) p || (b || false)))
    (asks_under name w.second p)

needs_more_under : (w : Wanted) (name : Option (List ℕ)) (budget : ℕ)
    → NeedsMore w.known (tree (tree_under name w.first) (tree (tree_under name w.second) none)) budget
    → NeedsMore w.known (asked_trees (conditions w)) budget
needs_more_under w name budget h = λ ps all. h ps (λ p is. all p (sym (asked_under w name p) ∙ is))

fact_under : (w : Wanted) (name : Option (List ℕ)) (c : CfgValue)
    → IsFactOfExample w.known (tree (tree_under name w.first) (tree (tree_under name w.second) none)) c
    → IsFactOfExample w.known (asked_trees (conditions w)) c
fact_under w name c h = (
  h.0,
  sym (ap (λ b. contains (fact_set (map value_of w.known.facts.now)) (pair_of c) || b)
      (asked_under w name (pair_of c))) ∙ h.1,
)

facts_under : (w : Wanted) (name : Option (List ℕ)) (facts : List CfgValue)
    → All (IsFactOfExample w.known (tree (tree_under name w.first) (tree (tree_under name w.second) none))) facts
    → All (IsFactOfExample w.known (asked_trees (conditions w))) facts
facts_under w name facts h = λ i d short. fact_under w name _ (h i d short)

pub under_says : (w : Wanted) (name : Option (List ℕ)) (a b : Tree) (budget : ℕ) (r : Found)
    → a ≡ tree_under name w.first → b ≡ tree_under name w.second
    → SaysFound r w.known (tree a (tree b none)) budget
    (λ s. (truth s a ≡ w.first_wanted) × (truth s b ≡ w.second_wanted))
    (λ s. truth s a ≡ w.first_wanted → truth s b ≡ not w.second_wanted)
    → SaysFoundUnder r w name budget
under_says w name a b budget (found.Facts facts) e f h = (
  h.0,
  (
    (sym (ap (truth _) e) ∙ h.1.0.0, sym (ap (truth _) f) ∙ h.1.0.1),
    facts_under w name (map value_of facts.items)
        (subst (λ t. All (IsFactOfExample w.known (tree (tree_under name w.first) (tree t none)))
        (map value_of facts.items)) f
        (subst (λ t. All (IsFactOfExample w.known (tree t (tree b none))) (map value_of facts.items)) e h.1.1)),
  ),
)
under_says w name a b budget found.Nothing e f h =
    λ s allows first. sym (ap (truth s) f) ∙ h s allows (ap (truth s) e ∙ first)
under_says w name a b budget found.Undecided e f h =
    needs_more_under w name budget
    (subst (λ t. NeedsMore w.known (tree (tree_under name w.first) (tree t none)) budget) f
    (subst (λ t. NeedsMore w.known (tree t (tree b none)) budget) e h))

-- ---- by a name

pub named_says : (w : Wanted) (own : String Global) (budget : ℕ) (r : Found)
    → SaysFoundUnder r w (Some (string_bytes own)) budget
    → SaysTarget (with_name r (Some own)) w (λ text. string_bytes own ≡ text) budget
named_says w own budget (found.Facts facts) h =
    (h.0, (λ name is. subst (λ n. MetUnder w (Some n) (fact_set (map value_of facts.items))) (sym is) h.1.0, h.1.1))
named_says w own budget found.Nothing h =
    λ name is. subst (λ n. OverEach w.known (λ s. MissedUnder w (Some n) s)) is h
named_says w own budget found.Undecided h = h

pub narrower : (w : Wanted) (D E : List ℕ → Type 0) (budget : ℕ) (r : FoundTarget)
    → ((name : List ℕ) → E name → D name) → SaysTarget r w D budget → SaysTarget r w E budget
narrower w D E budget (one.Target t) f h = h
narrower w D E budget one.Nothing f h = λ name is. h name (f name is)
narrower w D E budget one.Undecided f h = h

pub same_name : (own copy : List ℕ) → copy ≡ own → (name : List ℕ) → bytes_eq own name ≡ true → copy ≡ name
same_name own copy e name is = e ∙ (bytes_eq-Decides own name).0 is

-- ---- by no name of the conditions

other_name : (c : Condition) (cs : List Condition) (name : List ℕ) → IsOtherName (c ∷ cs) name
    → (is_name_of c name ≡ false) × IsOtherName cs name
other_name (Target own) cs name h =
    (is_false (bytes_eq own name) (λ is. h.0 ((bytes_eq-Decides own name).0 is)), h.1)
other_name (Expression e) cs name h = (refl, h)

under_other : (c : Condition) (name : List ℕ) → is_name_of c name ≡ false
    → tree_under (Some name) c ≡ tree_under None c
under_other (Target own) name h = ap (λ b. if b then True else False) h
under_other (Expression e) name h = refl

met_under_other : (w : Wanted) (name : List ℕ) (s : FactSet) → IsOtherName (conditions w) name → MetUnder w None s
    → MetUnder w (Some name) s
met_under_other w name s other h =
    let first = other_name w.first (w.second ∷ []) name other in
    let second = other_name w.second [] name first.1 in (
      ap (truth s) (under_other w.first name first.0) ∙ h.0,
      ap (truth s) (under_other w.second name second.0) ∙ h.1,
    )

pub unnamed_says : (w : Wanted) (budget : ℕ) (r : Found) → SaysFoundUnder r w None budget
    → SaysTarget (with_name r None) w
    (λ name. (is_name_of w.first name ≡ false) × (is_name_of w.second name ≡ false)) budget
unnamed_says w budget (found.Facts facts) h =
    (h.0, (λ name other. met_under_other w name _ other h.1.0, h.1.1))
unnamed_says w budget found.Nothing h = λ name is s allows first.
    ap (truth s) (under_other w.second name is.1)
    ∙ h s allows (sym (ap (truth s) (under_other w.first name is.0)) ∙ first)
unnamed_says w budget found.Undecided h = h

-- ---- name by name

pub joined : (w : Wanted) (f : List ℕ → Bool) (D E : List ℕ → Type 0) (budget : ℕ) (r : FoundTarget)
    → ((name : List ℕ) → f name ≡ true → OverEach w.known (λ s. MissedUnder w (Some name) s))
    → ((name : List ℕ) → D name → f name ≡ false → E name)
    → SaysTarget r w E budget → SaysTarget r w D budget
joined w f D E budget (one.Target t) first others h = h
joined w f D E budget one.Nothing first others h = λ name is.
    by_cases (OverEach w.known (λ s. MissedUnder w (Some name) s)) (f name) (first name)
    (λ no. h name (others name is no))
joined w f D E budget one.Undecided first others h = h

pub undecided_says : (w : Wanted) (D E : List ℕ → Type 0) (budget : ℕ) (r : FoundTarget)
    → NeedsMore w.known (asked_trees (conditions w)) budget → SaysTarget r w E budget
    → SaysTarget (or_undecided r) w D budget
undecided_says w D E budget (one.Target t) more h = h
undecided_says w D E budget one.Nothing more h = more
undecided_says w D E budget one.Undecided more h = more

-- ---- in the words of the contracts

literal_truth : (b : Bool) (s : FactSet) → truth s (if b then True else False) ≡ b
literal_truth true s = refl
literal_truth false s = refl

is_true : (c : Condition) (name : List ℕ) (s : FactSet) → truth s (tree_under (Some name) c) ≡ true
    → IsTrueCondition name s c
is_true (Target own) name s h =
    (bytes_eq-Decides own name).0 (sym (literal_truth (bytes_eq own name) s) ∙ h)
is_true (Expression e) name s h = h

true_is : (c : Condition) (name : List ℕ) (s : FactSet) → IsTrueCondition name s c
    → truth s (tree_under (Some name) c) ≡ true
true_is (Target own) name s h =
    literal_truth (bytes_eq own name) s ∙ (bytes_eq-Decides own name).1 h
true_is (Expression e) name s h = h

is_untrue : (c : Condition) (name : List ℕ) (s : FactSet) → truth s (tree_under (Some name) c) ≡ false
    → IsTrueCondition name s c → ⊥
is_untrue c name s h is = true≢false (sym (true_is c name s is) ∙ h)

one_name : (n : Option (String Global)) (c : Condition) (name : List ℕ) → MayHaveName n (c ∷ []) name
    → MayHaveName n (c ∷ Expression True ∷ []) name
one_name (Some text) c name h = h
one_name None (Target own) name h = h
one_name None (Expression e) name h = h

-- what holds for an example, by what it was looked for
example_by : (t : PossibleTarget) (k : FactConstraints) (cs ds : List Condition) (P Q : List ℕ → FactSet → Type 0)
    → ((name : List ℕ) → MayHaveName t.name ds name → MayHaveName t.name cs name)
    → ((c : CfgValue) → IsFactOfExample k (asked_trees cs) c → IsFactOfExample k (asked_trees ds) c)
    → ((name : List ℕ) (s : FactSet) → P name s → Q name s) → IsExample t k cs P → IsExample t k ds Q
example_by t k cs ds P Q may each f h =
    (h.0, (λ name is. f name _ (h.1.0 name (may name is)), λ i d short. each _ (h.1.1 i d short)))

pub can_says : (k : FactConstraints) (c : Condition) (budget : ℕ) (r : FoundTarget)
    → SaysTarget r (wants k c true (Expression True) true) (λ name. Unit {0}) budget
    → SaysSatisfiability (as_can r) k (c ∷ []) budget (λ name s. IsTrueCondition name s c)
    (λ name s. IsTrueCondition name s c → ⊥)
can_says k c budget (one.Target t) h =
    example_by t k (c ∷ Expression True ∷ []) (c ∷ [])
    (λ name s. MetUnder (wants k c true (Expression True) true) (Some name) s)
    (λ name s. IsTrueCondition name s c) (λ name. one_name t.name c name) (λ c is. is)
    (λ name s met. is_true c name s met.0) h
can_says k c budget one.Nothing h = λ name s allows is.
    true≢false (h name tt s allows (true_is c name s is))
can_says k c budget one.Undecided h = h

pub always_says : (k : FactConstraints) (c : Condition) (budget : ℕ) (r : FoundTarget)
    → SaysTarget r (wants k c false (Expression True) true) (λ name. Unit {0}) budget
    → SaysValidity (as_must r) k (c ∷ []) budget (λ name s. IsTrueCondition name s c → ⊥)
    (λ name s. IsTrueCondition name s c)
always_says k c budget (one.Target t) h =
    example_by t k (c ∷ Expression True ∷ []) (c ∷ [])
    (λ name s. MetUnder (wants k c false (Expression True) true) (Some name) s)
    (λ name s. IsTrueCondition name s c → ⊥) (λ name. one_name t.name c name) (λ c is. is)
    (λ name s met. is_untrue c name s met.0) h
always_says k c budget one.Nothing h = λ name s allows.
    by_cases (IsTrueCondition name s c) (truth s (tree_under (Some name) c)) (is_true c name s)
    (λ no. absurd (true≢false (h name tt s allows no)))
always_says k c budget one.Undecided h = h

pub implies_says : (k : FactConstraints) (a b : Condition) (budget : ℕ) (r : FoundTarget)
    → SaysTarget r (wants k a true b false) (λ name. Unit {0}) budget
    → SaysValidity (as_must r) k (a ∷ b ∷ []) budget
    (λ name s. IsTrueCondition name s a × (IsTrueCondition name s b → ⊥))
    (λ name s. IsTrueCondition name s a → IsTrueCondition name s b)
implies_says k a b budget (one.Target t) h =
    example_by t k (a ∷ b ∷ []) (a ∷ b ∷ []) (λ name s. MetUnder (wants k a true b false) (Some name) s)
    (λ name s. IsTrueCondition name s a × (IsTrueCondition name s b → ⊥))
    (λ name is. is) (λ c is. is) (λ name s met. (is_true a name s met.0, is_untrue b name s met.1)) h
implies_says k a b budget one.Nothing h = λ name s allows first.
    is_true b name s (h name tt s allows (true_is a name s first))
implies_says k a b budget one.Undecided h = h

pub exclude_says : (k : FactConstraints) (a b : Condition) (budget : ℕ) (r : FoundTarget)
    → SaysTarget r (wants k a true b true) (λ name. Unit {0}) budget
    → SaysValidity (as_must r) k (a ∷ b ∷ []) budget
    (λ name s. IsTrueCondition name s a × IsTrueCondition name s b)
    (λ name s. IsTrueCondition name s a → IsTrueCondition name s b → ⊥)
exclude_says k a b budget (one.Target t) h =
    example_by t k (a ∷ b ∷ []) (a ∷ b ∷ []) (λ name s. MetUnder (wants k a true b true) (Some name) s)
    (λ name s. IsTrueCondition name s a × IsTrueCondition name s b)
    (λ name is. is) (λ c is. is) (λ name s met. (is_true a name s met.0, is_true b name s met.1)) h
exclude_says k a b budget one.Nothing h = λ name s allows first.
    is_untrue b name s (h name tt s allows (true_is a name s first))
exclude_says k a b budget one.Undecided h = h

-- ---- the same

-- what the contract says of the counterexample
abbrev pub Differs : Condition → Condition → List ℕ → FactSet → Type 0
Differs a b name s = (IsTrueCondition name s a ↔ IsTrueCondition name s b) → ⊥

abbrev pub IsSame : Condition → Condition → List ℕ → FactSet → Type 0
IsSame a b name s = IsTrueCondition name s a ↔ IsTrueCondition name s b

pub first_differs : (k : FactConstraints) (a b : Condition) (t : PossibleTarget)
    → IsExample t k (a ∷ b ∷ []) (λ name s. MetUnder (wants k a true b false) (Some name) s)
    → IsExample t k (a ∷ b ∷ []) (λ name s. Differs a b name s)
first_differs k a b t h =
    example_by t k (a ∷ b ∷ []) (a ∷ b ∷ []) (λ name s. MetUnder (wants k a true b false) (Some name) s)
    (λ name s. Differs a b name s) (λ name is. is) (λ c is. is)
    (λ name s met both. is_untrue b name s met.1 (both.0 (is_true a name s met.0))) h

pub second_differs : (k : FactConstraints) (a b : Condition) (t : PossibleTarget)
    → IsExample t k (a ∷ b ∷ []) (λ name s. MetUnder (wants k a false b true) (Some name) s)
    → IsExample t k (a ∷ b ∷ []) (λ name s. Differs a b name s)
second_differs k a b t h =
    example_by t k (a ∷ b ∷ []) (a ∷ b ∷ []) (λ name s. MetUnder (wants k a false b true) (Some name) s)
    (λ name s. Differs a b name s) (λ name is. is) (λ c is. is)
    (λ name s met both. is_untrue a name s met.0 (both.1 (is_true b name s met.1))) h

pub second_says : (k : FactConstraints) (a b : Condition) (budget : ℕ) (r : FoundTarget)
    → ((name : List ℕ) → Unit {0} → OverEach k (λ s. MissedUnder (wants k a true b false) (Some name) s))
    → SaysTarget r (wants k a false b true) (λ name. Unit {0}) budget
    → SaysValidity (as_must r) k (a ∷ b ∷ []) budget (λ name s. Differs a b name s) (λ name s. IsSame a b name s)
second_says k a b budget (one.Target t) first h = second_differs k a b t h
second_says k a b budget one.Nothing first h = λ name s allows. (
  λ is. is_true b name s (first name tt s allows (true_is a name s is)),
  λ is. by_cases (IsTrueCondition name s a) (truth s (tree_under (Some name) a)) (is_true a name s)
      (λ no. absurd (is_untrue b name s (h name tt s allows no) is)),
)
second_says k a b budget one.Undecided first h = h

pub undecided_second : (k : FactConstraints) (a b : Condition) (budget : ℕ) (r : FoundTarget)
    → NeedsMore k (asked_trees (a ∷ b ∷ [])) budget
    → SaysTarget r (wants k a false b true) (λ name. Unit {0}) budget
    → SaysValidity (as_must (or_undecided r)) k (a ∷ b ∷ []) budget (λ name s. Differs a b name s)
    (λ name s. IsSame a b name s)
undecided_second k a b budget (one.Target t) more h = second_differs k a b t h
undecided_second k a b budget one.Nothing more h = more
undecided_second k a b budget one.Undecided more h = more

-- ---- the answer as the program makes it

pub can_by : (m : Satisfiability) (r : FoundTarget) (k : FactConstraints) (cs : List Condition) (budget : ℕ)
    (P Q : List ℕ → FactSet → Type 0) → m ≡ as_can r → SaysSatisfiability (as_can r) k cs budget P Q
    → SaysSatisfiability m k cs budget P Q
can_by m r k cs budget P Q e h = subst (λ x. SaysSatisfiability x k cs budget P Q) (sym e) h

pub must_by : (m : Validity) (r : FoundTarget) (k : FactConstraints) (cs : List Condition) (budget : ℕ)
    (P Q : List ℕ → FactSet → Type 0) → m ≡ as_must r → SaysValidity (as_must r) k cs budget P Q
    → SaysValidity m k cs budget P Q
must_by m r k cs budget P Q e h = subst (λ x. SaysValidity x k cs budget P Q) (sym e) h

pub nothing_found : (w : Wanted) (D : List ℕ → Type 0) (budget : ℕ) (r : FoundTarget) → r ≡ one.Nothing
    → SaysTarget r w D budget → (name : List ℕ) → D name → OverEach w.known (λ s. MissedUnder w (Some name) s)
nothing_found w D budget r is h = subst (λ x. SaysTarget x w D budget) is h
