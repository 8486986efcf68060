-- A condition is as true on a target as what is left of it there, over a set that takes open facts from another one.
use Rattle.std.proofs.Common.{◌≡◌, ◌∙◌, ◌↔◌, ◌<◌, ◌≤◌, ◌+◌, refl, sym, ap, subst, ℕ, zero, suc, Bool, true, false}
use Rattle.std.proofs.Common.{not, ◌&&◌, ◌||◌, cond, true≢false, List, ◌∷◌, map, Some, None, IsTrue, inl, inr}
use Rattle.std.proofs.Common.{arith, length, Option, Result, Ok, Err, IfOk}
use Rattle.std.specs.Borrow.{Bor}
use Rattle.std.specs.Iterator.{YieldsFirstBy}
use Rattle.std.specs.List.{All as AllOf}
use Rattle.std.specs.Ordering.{is_eq, eq_by_cmp}
use Rattle.std.specs.Cmp.{tied_itself}
use Rattle.std.specs.FinSet.{contains, insert, remove, contains-insert, contains-remove}
use Rattle.std.proofs.lemmas.Bool.{cases_eq}
use Rattle.std.proofs.lemmas.List.{length-map}
use Rattle.std.proofs.lemmas.List.Elements.{All-head, All-tail, All-cons, All-nil}
use Rattle.cargo_platform.specs.Trees.{Tree, Not, All, Any, Value, True, False, Trees, none, tree}
use Rattle.cargo_platform.specs.Trees.{Condition, Target, Expression, value_of}
use Rattle.cargo_platform.specs.Facts.{Pair, FactSet, pair_of, pair_cmp, fact_set, truth, all_true, any_true}
use Rattle.cargo_platform.specs.Facts.{IsTrueCondition}
use Rattle.cargo_platform.proofs.FactSets.{pairs_total}
use Rattle.partial_facts.specs.Partly.{is_named, names_of}
use Rattle.partial_facts.specs.OneValued.{HasOneValue}
use Rattle.partial_facts.specs.Residual.{IsOpen, AreOpen, IsLiteralOrOpen}
use Rattle.partial_facts.specs.Conditions.{IsLiteralOrOpenCondition}
use Rattle.known_targets.specs.Open.{open_told, IsSameButOpen}
use Rattle.known_targets.specs.Sets.{is_member, place, place_where, members_among, members, left}
use Rattle.known_targets.specs.Table.{target_name, target_facts}
use Rattle.known_targets.specs.declared.known.KnownTarget.{KnownTarget}
use Rattle.known_targets.specs.declared.members.Targets.{Targets}
use Rattle.known_targets.specs.declared.table.TheConstants.{COUNT}
use Rattle.known_targets.specs.declared.target_set.TargetSet.{TargetSet}
use Rattle.known_targets.proofs.Taken.{left_open}
use Rattle.exact_answers.specs.declared.fact_constraints.FactConstraints.{FactConstraints}
use Rattle.exact_answers.specs.Asking.{asks, some_asks}
use Rattle.exact_answers.specs.Possible.{IsAllowed}
use Rattle.exact_answers.proofs.Pairs as pairs
use Rattle.manifest_lints.specs.declared.at_targets.TheConstants.{MAX_OPEN_NAMES, MAX_SPLITS_PER_TARGET}
use Rattle.manifest_lints.specs.declared.deciding.TheConstants.{MAX_FULLY_SEARCHED_FACTS}
use Rattle.manifest_lints.specs.declared.deciding.Decided.{Decided}
use Rattle.manifest_lints.specs.declared.deciding.Decided.TheVariants as decided
use Rattle.manifest_lints.specs.AtTargets.{KnowsNothing, IsOver, NeedsMoreFree, SaysNeverFree, SaysNeverAt, left_at}
use Rattle.manifest_lints.specs.AtTargets.{CanBeAt, IsNeverAt, IsNeverByFacts, MayBeIn, SettlesOn}
use Rattle.manifest_lints.specs.AtTargets.{at_target, many_facts, many_open}
use Rattle.manifest_lints.specs.Truths.{SaysNever, SaysAlways, NeedsMoreFor, is_unknown, is_yes}
use Rattle.manifest_lints.proofs.Tried.{none_listed, none_named}

-- ---- with nothing known, each set is possible

pub all_allowed : (known : FactConstraints) → KnowsNothing known → (s : FactSet) → IsAllowed known s
all_allowed known nothing s = record {
  partly_known = record {
    has = λ p h. absurd (true≢false (sym h ∙ none_listed known.facts.now p nothing.facts));
    no_other = λ p n h. absurd (true≢false (sym n ∙ none_named p.name known.complete.now nothing.complete));
  };
  one_value =
      subst (λ (ts : List (Bor (List ℕ))). HasOneValue (fact_set (map value_of known.facts.now)) (map (λ t. t.now) ts)
      s) (sym nothing.single)
      (λ p q single some name inside also. absurd (true≢false (sym single)));
  assumed_true = ap (truth s) nothing.assumed;
}

-- ---- the pairs of a tree from one set, and all others from another

abbrev pub put : Bool → FactSet → Pair → FactSet
put true t p = insert t p
put false t p = remove t p

or_is : (a b : Bool) → (a || b) ≡ cond a true b
or_is true b = refl
or_is false b = refl

and_is : (a b : Bool) → (not a && b) ≡ cond a false b
and_is true b = refl
and_is false b = refl

put_has : (b : Bool) (t : FactSet) (p q : Pair)
    → contains (put b t p) q ≡ cond (eq_by_cmp pair_cmp q p) b (contains t q)
put_has true t p q = contains-insert pairs_total t p q ∙ or_is (eq_by_cmp pair_cmp q p) (contains t q)
put_has false t p q = contains-remove pairs_total t p q ∙ and_is (eq_by_cmp pair_cmp q p) (contains t q)

abbrev mutual
  pub merged : FactSet → Tree → FactSet → FactSet
  merged s (Not e) t = merged s e t
  merged s (All es) t = all_merged s es t
  merged s (Any es) t = all_merged s es t
  merged s (Value c) t = put (contains s (pair_of c)) t (pair_of c)
  merged s True t = t
  merged s False t = t

  pub all_merged : FactSet → Trees → FactSet → FactSet
  all_merged s none t = t
  all_merged s (tree e es) t = merged s e (all_merged s es t)

either_from : (a b x y : Bool) → cond a x (cond b x y) ≡ cond (a || b) x y
either_from true b x y = refl
either_from false b x y = refl

of_same : (s t : FactSet) (p q : Pair)
    → cond (eq_by_cmp pair_cmp p q) (contains s q) (contains t p)
    ≡ cond (eq_by_cmp pair_cmp p q) (contains s p) (contains t p)
of_same s t p q =
    elim (eq_by_cmp pair_cmp p q)
    as (λ b. eq_by_cmp pair_cmp p q ≡ b → cond b (contains s q) (contains t p) ≡ cond b (contains s p) (contains t p)) [
      | true ↦ λ h. ap (contains s) (sym (pairs.same p q h))
      | false ↦ λ h. refl
    ] refl

mutual
  merged_has : (s : FactSet) (e : Tree) (t : FactSet) (p : Pair)
      → contains (merged s e t) p ≡ cond (asks e p) (contains s p) (contains t p)
  merged_has s (Not e) t p = merged_has s e t p
  merged_has s (All es) t p = all_merged_has s es t p
  merged_has s (Any es) t p = all_merged_has s es t p
  merged_has s (Value c) t p =
      put_has (contains s (pair_of c)) t (pair_of c) p ∙ of_same s t p (pair_of c)
  merged_has s True t p = refl
  merged_has s False t p = refl

  all_merged_has : (s : FactSet) (es : Trees) (t : FactSet) (p : Pair)
      → contains (all_merged s es t) p ≡ cond (some_asks es p) (contains s p) (contains t p)
  all_merged_has s none t p = refl
  all_merged_has s (tree e es) t p =
      merged_has s e (all_merged s es t) p
      ∙ ap (λ b. cond (asks e p) (contains s p) b) (all_merged_has s es t p)
      ∙ either_from (asks e p) (some_asks es p) (contains s p) (contains t p)

-- ---- a tree is as true over two sets that have the same ones of its pairs

right_of : (a b : Bool) → b ≡ true → (a || b) ≡ true
right_of true b h = refl
right_of false b h = h

mutual
  as_true : (s t : FactSet) (e : Tree) → ((p : Pair) → asks e p ≡ true → contains t p ≡ contains s p)
      → truth t e ≡ truth s e
  as_true s t (Not e) same = ap not (as_true s t e same)
  as_true s t (All es) same = all_as_true s t es same
  as_true s t (Any es) same = any_as_true s t es same
  as_true s t (Value c) same = same (pair_of c) (ap is_eq (tied_itself pairs_total (pair_of c)))
  as_true s t True same = refl
  as_true s t False same = refl

  all_as_true : (s t : FactSet) (es : Trees)
      → ((p : Pair) → some_asks es p ≡ true → contains t p ≡ contains s p) → all_true t es ≡ all_true s es
  all_as_true s t none same = refl
  all_as_true s t (tree e es) same =
      ap (λ b. b && all_true t es) (as_true s t e (λ p h. same p (ap (λ b. b || some_asks es p) h)))
      ∙ ap (λ b. truth s e && b) (all_as_true s t es (λ p h. same p (right_of (asks e p) (some_asks es p) h)))

  any_as_true : (s t : FactSet) (es : Trees)
      → ((p : Pair) → some_asks es p ≡ true → contains t p ≡ contains s p) → any_true t es ≡ any_true s es
  any_as_true s t none same = refl
  any_as_true s t (tree e es) same =
      ap (λ b. b || any_true t es) (as_true s t e (λ p h. same p (ap (λ b. b || some_asks es p) h)))
      ∙ ap (λ b. truth s e || b) (any_as_true s t es (λ p h. same p (right_of (asks e p) (some_asks es p) h)))

-- ---- a tree of open pairs asks for no other

module _ (facts : FactSet) (open_keys : List (List ℕ)) where
  other_pair : (p q : Pair) → open_told facts open_keys p ≡ None → is_named q.name open_keys ≡ false
      → eq_by_cmp pair_cmp q p ≡ false
  other_pair p q opened closed =
      let left = left_open facts open_keys p opened in
      elim (eq_by_cmp pair_cmp q p) as (λ b. eq_by_cmp pair_cmp q p ≡ b → b ≡ false) [
        | false ↦ λ h. refl
        | true ↦
            λ h.
            absurd (true≢false (sym (contains-insert pairs_total facts p q ∙ ap (λ b. b || contains facts q) h)
            ∙ left.may_be q closed ∙ sym (left.need_not_be q closed)
            ∙ contains-remove pairs_total facts p q ∙ ap (λ b. not b && contains facts q) h))
      ] refl

  neither : (a b : Bool) → a ≡ false → b ≡ false → (a || b) ≡ false
  neither false b h k = k
  neither true b h k = absurd (true≢false h)

  mutual
    asks_open : (e : Tree) → IsOpen (open_told facts open_keys) e → (q : Pair) → is_named q.name open_keys ≡ false
        → asks e q ≡ false
    asks_open (Not e) opened q closed = asks_open e opened q closed
    asks_open (All es) opened q closed = ask_open es opened.1 q closed
    asks_open (Any es) opened q closed = ask_open es opened.1 q closed
    asks_open (Value c) opened q closed = other_pair (pair_of c) q opened closed
    asks_open True opened q closed = refl
    asks_open False opened q closed = refl

    ask_open : (es : Trees) → AreOpen (open_told facts open_keys) es → (q : Pair) → is_named q.name open_keys ≡ false
        → some_asks es q ≡ false
    ask_open none opened q closed = refl
    ask_open (tree e es) opened q closed =
        neither (asks e q) (some_asks es q) (asks_open e opened.0 q closed) (ask_open es opened.1 q closed)

  asks_no_other : (e : Tree) → IsLiteralOrOpen (open_told facts open_keys) e → (q : Pair)
      → is_named q.name open_keys ≡ false → asks e q ≡ false
  asks_no_other (Not e) opened q closed = asks_open (Not e) opened q closed
  asks_no_other (All es) opened q closed = asks_open (All es) opened q closed
  asks_no_other (Any es) opened q closed = asks_open (Any es) opened q closed
  asks_no_other (Value c) opened q closed = asks_open (Value c) opened q closed
  asks_no_other True opened q closed = refl
  asks_no_other False opened q closed = refl

  pub merged_is_same : (s : FactSet) (e : Tree) → IsLiteralOrOpen (open_told facts open_keys) e
      → IsSameButOpen facts open_keys (merged s e facts)
  merged_is_same s e opened p closed =
      merged_has s e facts p
      ∙ ap (λ b. cond b (contains s p) (contains facts p)) (asks_no_other e opened p closed)

pub as_true_merged : (s t : FactSet) (e : Tree) → truth (merged s e t) e ≡ truth s e
as_true_merged s t e =
    as_true s (merged s e t) e
    (λ p h. merged_has s e t p ∙ ap (λ b. cond b (contains s p) (contains t p)) h)

-- ---- over any set of facts

pub free_never : (known : FactConstraints) (c : Condition) {E : Type 0} (r : Result Decided E) → KnowsNothing known
    → IfOk r (λ d. SaysNever d known c)
    → IfOk r (λ d. IsTrue (is_unknown d) → NeedsMoreFor known c MAX_SPLITS_PER_TARGET)
    → IfOk r (λ d. SaysNeverFree true d c)
free_never known c (Ok decided.Yes) nothing says more =
    λ name s holds. says name s (all_allowed known nothing s) holds
free_never known c (Ok decided.No) nothing says more = (says.0, (says.1, says.3))
free_never known c (Ok decided.Unknown) nothing says more = (known, (nothing, more refl))
free_never known c (Err e) nothing says more = tt

pub free_always : (known : FactConstraints) (c : Condition) {E : Type 0} (r : Result Decided E) → KnowsNothing known
    → IfOk r (λ d. SaysAlways d known c)
    → IfOk r (λ d. IsTrue (is_unknown d) → NeedsMoreFor known c MAX_SPLITS_PER_TARGET)
    → IfOk r (λ d. SaysNeverFree false d c)
free_always known c (Ok decided.Yes) nothing says more =
    λ name s fails. fails (says name s (all_allowed known nothing s))
free_always known c (Ok decided.No) nothing says more = (says.0, (says.1, says.3))
free_always known c (Ok decided.Unknown) nothing says more = (known, (nothing, more refl))
free_always known c (Err e) nothing says more = tt

-- ---- what is said of what is left on a target is said of the whole

some_is_none : (n : List ℕ) → Some n ≡ None → ⊥
some_is_none n h = cc

module _ (open_keys : List (List ℕ)) (c : Condition) (k : ℕ) (left : Condition)
    (agrees : (s : FactSet) → IsSameButOpen (target_facts k) open_keys s
    → IsTrueCondition (target_name k) s left ↔ IsTrueCondition (target_name k) s c) where
  can_be_at : (truth : Bool) (s : FactSet) → IsSameButOpen (target_facts k) open_keys s
      → IsOver truth (target_name k) s left → IsOver truth (target_name k) s c
  can_be_at true s same holds = (agrees s same).0 holds
  can_be_at false s same fails = λ h. fails ((agrees s same).1 h)

  cannot_be_at : (truth : Bool) (s : FactSet) → IsSameButOpen (target_facts k) open_keys s
      → IsOver truth (target_name k) s c → IsOver truth (target_name k) s left
  cannot_be_at true s same holds = (agrees s same).1 holds
  cannot_be_at false s same fails = λ h. fails ((agrees s same).0 h)

  over_merged : (truth : Bool) (e : Tree) (name : List ℕ) (s : FactSet) → IsOver truth name s (Expression e)
      → IsOver truth (target_name k) (merged s e (target_facts k)) (Expression e)
  over_merged true e name s holds = as_true_merged s (target_facts k) e ∙ holds
  over_merged false e name s fails = λ h. fails (sym (as_true_merged s (target_facts k) e) ∙ h)

  can_be_so : (truth : Bool) (name : List ℕ) (d : Condition) → left ≡ d
      → IsLiteralOrOpenCondition (Some name) (open_told (target_facts k) open_keys) d
      → (other : List ℕ) (s : FactSet) → IsOver truth other s d → CanBeAt truth open_keys c k
  can_be_so truth name (Target n) is opened other s over = absurd (some_is_none name opened)
  can_be_so truth name (Expression e) is opened other s over =
      let t = merged s e (target_facts k) in
      let same = merged_is_same (target_facts k) open_keys s e opened in (
        t,
        (
          same,
          can_be_at truth t same
              (subst (IsOver truth (target_name k) t) (sym is) (over_merged truth e other s over)),
        ),
      )

  pub says_never_at : (truth : Bool) (name : List ℕ) {E : Type 0} (r : Result Decided E) → left ≡ left_at open_keys c k
      → IsLiteralOrOpenCondition (Some name) (open_told (target_facts k) open_keys) left
      → IfOk r (λ d. SaysNeverFree truth d left) → IfOk r (λ d. SaysNeverAt truth d open_keys c k)
  says_never_at truth name (Ok decided.Yes) is opened says =
      λ s same over. says (target_name k) s (cannot_be_at truth s same over)
  says_never_at truth name (Ok decided.No) is opened says =
      can_be_so truth name left refl opened says.0 says.1.0 says.1.1
  says_never_at truth name (Ok decided.Unknown) is opened says = subst NeedsMoreFree is says
  says_never_at truth name (Err e) is opened says = tt

-- ---- what holds of each member of a set

module _ (set : TargetSet) (P : ℕ → Type 0) where
  first_of : (b : Bool) (k : ℕ) (ks : List ℕ) → b ≡ true → AllOf P (place_where b k ks) → P k
  first_of true k ks h all = All-head P k ks all
  first_of false k ks h all = absurd (true≢false (sym h))

  rest_of : (b : Bool) (k : ℕ) (ks : List ℕ) → AllOf P (place_where b k ks) → AllOf P ks
  rest_of true k ks all = All-tail P k ks all
  rest_of false k ks all = all

  of_member : (n k j : ℕ) → k ≤ j → j < k + n → is_member set j ≡ true → AllOf P (members_among n set k) → P j
  unfolding members_among
  of_member zero k j low high h all = absurd (let never : ⊥ = omega (arith, low, high) in never)
  of_member (suc n) k j low high h all = elim (cases_eq j k) [
    | inl same ↦
        subst P (sym same)
        (first_of (is_member set k) k (members_among n set (k + 1)) (ap (is_member set) (sym same) ∙ h) all)
    | inr other ↦
        of_member n (k + 1) j (omega (arith, low, other)) (omega (arith, high)) h
        (rest_of (is_member set k) k (members_among n set (k + 1)) all)
  ]

  pub of_each_member : AllOf P (members set) → (k : ℕ) → k < COUNT → is_member set k ≡ true → P k
  of_each_member all k below h = of_member COUNT 0 k (omega arith) (omega (arith, below)) h all

abbrev IsMember : TargetSet → ℕ → Type 0
IsMember set k = (k < COUNT) × (is_member set k ≡ true)

put_where : (set : TargetSet) (b : Bool) (k : ℕ) (ks : List ℕ) → is_member set k ≡ b → k < COUNT
    → AllOf (IsMember set) ks → AllOf (IsMember set) (place_where b k ks)
put_where set true k ks is below all = All-cons (IsMember set) k ks (below, is) all
put_where set false k ks is below all = all

are_members : (set : TargetSet) (n k : ℕ) → k + n ≤ COUNT → AllOf (IsMember set) (members_among n set k)
unfolding members_among
are_members set zero k h = All-nil (IsMember set)
are_members set (suc n) k h =
    put_where set (is_member set k) k (members_among n set (k + 1)) refl (omega (arith, h))
    (are_members set n (k + 1) (omega (arith, h)))

-- where it is so of each target that an iterator has left, it is so of each member; and those that are left are members
pub record Settles (P : ℕ → Type 0) (set : TargetSet) (it : Targets) : Type 0 where
  pub each : AllOf P (left it) → (k : ℕ) → k < COUNT → is_member set k ≡ true → P k
  pub are : AllOf (IsMember set) (left it)

pub starts : (P : ℕ → Type 0) (set : TargetSet) (it : Targets) → left it ≡ members set → Settles P set it
starts P set it is = record {
  each = λ all k below h. of_each_member set P (subst (AllOf P) is all) k below h;
  are = subst (AllOf (IsMember set)) (sym is) (are_members set COUNT 0 (omega arith));
}

first_left : (old new : Targets) (t : KnownTarget) (r : Option KnownTarget) → r ≡ Some t
    → YieldsFirstBy place left old r new → left old ≡ place t ∷ left new
first_left old new t r is yields = subst (λ o. YieldsFirstBy place left old o new) is yields

pub next_one : (P : ℕ → Type 0) (set : TargetSet) (old new : Targets) (t : KnownTarget) (r : Option KnownTarget)
    → Settles P set old → r ≡ Some t → YieldsFirstBy place left old r new → P (place t) → Settles P set new
next_one P set old new t r before is yields here =
    let first = first_left old new t r is yields in
    record {
      each = λ all. before.each (subst (AllOf P) (sym first) (All-cons P (place t) (left new) here all));
      are = All-tail (IsMember set) (place t) (left new) (subst (AllOf (IsMember set)) first before.are);
    }

-- the next one is a member for which the answer is not that it never has the truth value
pub may_be : (truth : Bool) (open_keys : List (List ℕ)) (c : Condition) (set : TargetSet) (P : ℕ → Type 0)
    (old new : Targets) (t : KnownTarget) (r : Option KnownTarget) (d : Decided) → Settles P set old → r ≡ Some t
    → YieldsFirstBy place left old r new → SaysNeverAt truth d open_keys c (place t) → is_yes d ≡ false
    → MayBeIn truth set open_keys c
may_be truth open_keys c set P old new t r decided.Yes before is yields says h = absurd (true≢false h)
may_be truth open_keys c set P old new t r decided.No before is yields says h =
    let m = All-head (IsMember set) (place t) (left new)
    (subst (AllOf (IsMember set)) (first_left old new t r is yields) before.are) in
    (place t, (m.0, (m.1, inl says)))
may_be truth open_keys c set P old new t r decided.Unknown before is yields says h =
    let m = All-head (IsMember set) (place t) (left new)
    (subst (AllOf (IsMember set)) (first_left old new t r is yields) before.are) in
    (place t, (m.0, (m.1, inr says)))

pub never_if_yes : (truth : Bool) (open_keys : List (List ℕ)) (c : Condition) (k : ℕ) (d : Decided)
    → SaysNeverAt truth d open_keys c k → is_yes d ≡ true → IsNeverAt truth open_keys c k
never_if_yes truth open_keys c k decided.Yes says h = says
never_if_yes truth open_keys c k decided.No says h = absurd (true≢false (sym h))
never_if_yes truth open_keys c k decided.Unknown says h = absurd (true≢false (sym h))

pub ends : (P : ℕ → Type 0) (set : TargetSet) (old new : Targets) (r : Option KnownTarget) → Settles P set old
    → r ≡ None → YieldsFirstBy place left old r new → (k : ℕ) → k < COUNT → is_member set k ≡ true → P k
ends P set old new r before is yields =
    before.each (subst (AllOf P) (sym ((subst (λ o. YieldsFirstBy place left old o new) is yields).0)) (All-nil P))

-- ---- on known targets

not_false : (b : Bool) → (b ≡ false → ⊥) → IsTrue b
not_false true h = refl
not_false false h = absurd (h refl)

pub not_is_false : (b : Bool) → not b ≡ false → b ≡ true
not_is_false true h = refl
not_is_false false h = absurd (true≢false h)

module _ (truth : Bool) (facts : ℕ) (open_keys : List (List ℕ)) (c : Condition) (set : TargetSet)
    (outside : (k : ℕ) → k < COUNT → is_member set k ≡ false → IsNeverAt truth open_keys c k)
    (all_out : IsNeverByFacts truth open_keys c → (k : ℕ) → k < COUNT → is_member set k ≡ false) where
  pub settles_many : (b : Bool) → (IsTrue b → (k : ℕ) → k < COUNT → is_member set k ≡ false)
      → (((k : ℕ) → k < COUNT → is_member set k ≡ false) → IsTrue b) → MAX_FULLY_SEARCHED_FACTS < facts
      → SettlesOn truth facts open_keys c b
  settles_many b if_yes if_no many = record {
    right = λ h k below. outside k below (if_yes h k below);
    by_facts = λ few all. if_no (all_out all);
    missed = λ h. many_facts many;
  }

  one_of : (k : ℕ) → k < COUNT → (b : Bool) → is_member set k ≡ b
      → (is_member set k ≡ true → IsNeverAt truth open_keys c k) → IsNeverAt truth open_keys c k
  one_of k below true is inside = inside is
  one_of k below false is inside = outside k below is

  pub settles_few : {E : Type 0} (r : Result Bool E)
      → IfOk r (λ b. IsTrue b → (k : ℕ) → k < COUNT → is_member set k ≡ true → IsNeverAt truth open_keys c k)
      → IfOk r (λ b. b ≡ false → MayBeIn truth set open_keys c) → IfOk r (SettlesOn truth facts open_keys c)
  settles_few (Ok b) inside may = record {
    right = λ h k below. one_of k below (is_member set k) refl (inside h k below);
    by_facts = λ few all. not_false b (λ no.
        let m = may no in absurd (true≢false (sym m.1.1.0 ∙ all_out all m.0 m.1.0)));
    missed = λ no. let m = may no in at_target m.0 m.1.0 m.1.1.1;
  }
  settles_few (Err e) inside may = tt

-- nothing is said where too many names and keys are open
pub settles_none : (truth : Bool) (facts : ℕ) (ts : List (Bor (List ℕ))) (c : Condition) → MAX_OPEN_NAMES < length ts
    → SettlesOn truth facts (names_of ts) c false
settles_none truth facts ts c h =
    let many : MAX_OPEN_NAMES < length (names_of ts) =
    subst (λ n. MAX_OPEN_NAMES < n) (sym (length-map ts (λ t. t.now))) h in
    record {
      right = λ yes. absurd (true≢false (sym yes));
      by_facts = λ few all. absurd (let never : ⊥ = omega (arith, few, many) in never);
      missed = λ no. many_open many;
    }
