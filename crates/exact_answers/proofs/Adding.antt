-- What is added for a goal: what the operations give stays the same.
use Rattle.std.proofs.Common.{◌≡◌, ◌∙◌, sym, ap, ℕ, ◌+◌, Bool, not, List, [], ◌∷◌, ◌++◌}
use Rattle.std.proofs.Common.{map, reverse, length, drop, Vec, Global, Box, box_value, rules, arith, refl, subst}
use Rattle.std.proofs.Common.{Some, true, false, ◌||◌, true≢false}
use Rattle.std.specs.List.{All as AllOf}
use Rattle.std.proofs.lemmas.List.Sums.{sum-map, sum_by_push}
use Rattle.std.proofs.lemmas.List.Elements.{All-push, All-pop, All-weaker, All-nil, All-cons}
use Rattle.std.proofs.lemmas.List.Sorted.{All-permutation, IsPermutation-reverse}
use Rattle.cargo_platform.specs.declared.cfg.CfgExpr.{CfgExpr, the_lemmas}
use Rattle.cargo_platform.specs.declared.cfg.CfgExpr.TheVariants as expr
use Rattle.cargo_platform.specs.declared.cfg.Cfg.{Cfg}
use Rattle.cargo_platform.specs.Trees.{Not, All, Any, Value, True, False, tree_of, trees_of, value_of}
use Rattle.cargo_platform.specs.Facts.{Pair, FactSet, pair_of, truth}
use Rattle.std.specs.FinSet.{contains}
use Rattle.cargo_platform.specs.ExpressionSizes.{node_count, node_counts}
use Rattle.exact_answers.specs.declared.goal_diagrams.building.Goal.{Goal}
use Rattle.exact_answers.specs.Goals.{true_as_wanted, StandsAt}
use Rattle.exact_answers.specs.declared.outlook.Operation.{Operation}
use Rattle.exact_answers.specs.declared.outlook.Operation.TheVariants as operation
use Rattle.exact_answers.specs.Asking.{asks, some_asks}
use Rattle.exact_answers.specs.Inside.Searches.{goal_trees}
use Rattle.exact_answers.specs.Inside.Ahead.{meets, done, worked_out, goals_size, HasNumber, AsksAmong}
use Rattle.exact_answers.proofs.Telling.{or_cases, or_true}
use Rattle.exact_answers.proofs.Ahead.{last_first, wanted_not, wanted_true, wanted_false, wanted_of}
use Rattle.exact_answers.proofs.Ahead.{all_gathered, any_gathered, rest_dropped, size_last}

-- ---- a goal

pub pushed_goal : (s : FactSet) (os : List Operation) (gs new : List Goal) (g : Goal) (b : Bool)
    → new ≡ gs ++ g ∷ [] → meets s g ≡ b
    → worked_out s os (map (meets s) (reverse new)) ≡ worked_out s os (b ∷ map (meets s) (reverse gs))
pushed_goal s os gs new g b h k =
    ap (λ xs. worked_out s os (map (meets s) (reverse xs))) h
    ∙ ap (λ xs. worked_out s os (map (meets s) xs)) (last_first gs g)
    ∙ ap (λ b. worked_out s os (b ∷ map (meets s) (reverse gs))) k

pub not_meets : (s : FactSet) (w : Bool) (e inner : CfgExpr) (b : Box CfgExpr Global) → inner ≡ box_value b
    → e ≡ expr.Not b → wanted_of s (not w) inner ≡ wanted_of s w e
not_meets s w e inner b same is =
    let view : tree_of (expr.Not b) ≡ Not (tree_of (box_value b)) = search (rules, the_lemmas) in
    wanted_not w (truth s (tree_of inner))
    ∙ ap (λ t. true_as_wanted w (truth s t)) (ap (λ d. Not (tree_of d)) same ∙ sym view ∙ sym (ap tree_of is))

pub not_size : (e inner : CfgExpr) (b : Box CfgExpr Global) → inner ≡ box_value b → e ≡ expr.Not b
    → node_count e ≡ node_count inner + 1
not_size e inner b same is =
    let view : node_count (expr.Not b) ≡ node_count (box_value b) + 1 = search (rules, the_lemmas) in
    ap node_count is ∙ view ∙ sym (ap (λ d. node_count d + 1) same)

-- ---- an operation

pub pushed_operation : (s : FactSet) (os new : List Operation) (o : Operation) (bs cs : List Bool)
    → new ≡ os ++ o ∷ [] → done s o bs ≡ cs → worked_out s (reverse new) bs ≡ worked_out s (reverse os) cs
pushed_operation s os new o bs cs h k =
    ap (λ os. worked_out s (reverse os) bs) h ∙ ap (λ os. worked_out s os bs) (last_first os o)
    ∙ ap (worked_out s (reverse os)) k

pub all_done : (s : FactSet) (w : Bool) (e : CfgExpr) (v : Vec CfgExpr Global) (es : List CfgExpr) (n : ℕ)
    (bs cs : List Bool) → e ≡ expr.All v → es ≡ v.items → n ≡ length es → bs ≡ map (wanted_of s w) es ++ cs
    → done s (operation.Group w n) bs ≡ wanted_of s w e ∷ cs
all_done s w e v es n bs cs is same long h =
    let view : tree_of (expr.All v) ≡ All (trees_of (map tree_of v.items)) = search (rules, the_lemmas) in
    ap (λ bs. done s (operation.Group w n) bs) h
    ∙ ap (λ n. done s (operation.Group w n) (map (wanted_of s w) es ++ cs)) long
    ∙ ap (λ b. b ∷ drop (length es) (map (wanted_of s w) es ++ cs)) (all_gathered s w es cs)
    ∙ ap (λ bs. true_as_wanted w (truth s (All (trees_of (map tree_of es)))) ∷ bs) (rest_dropped s w es cs)
    ∙ ap (λ t. true_as_wanted w (truth s t) ∷ cs)
    (ap (λ es. All (trees_of (map tree_of es))) same ∙ sym view ∙ sym (ap tree_of is))

pub any_done : (s : FactSet) (w : Bool) (e : CfgExpr) (v : Vec CfgExpr Global) (es : List CfgExpr) (n : ℕ)
    (bs cs : List Bool) → e ≡ expr.Any v → es ≡ v.items → n ≡ length es → bs ≡ map (wanted_of s w) es ++ cs
    → done s (operation.Group (not w) n) bs ≡ wanted_of s w e ∷ cs
any_done s w e v es n bs cs is same long h =
    let view : tree_of (expr.Any v) ≡ Any (trees_of (map tree_of v.items)) = search (rules, the_lemmas) in
    ap (λ bs. done s (operation.Group (not w) n) bs) h
    ∙ ap (λ n. done s (operation.Group (not w) n) (map (wanted_of s w) es ++ cs)) long
    ∙ ap (λ b. b ∷ drop (length es) (map (wanted_of s w) es ++ cs)) (any_gathered s w es cs)
    ∙ ap (λ bs. true_as_wanted w (truth s (Any (trees_of (map tree_of es)))) ∷ bs) (rest_dropped s w es cs)
    ∙ ap (λ t. true_as_wanted w (truth s t) ∷ cs)
    (ap (λ es. Any (trees_of (map tree_of es))) same ∙ sym view ∙ sym (ap tree_of is))

pub value_meets : (s : FactSet) (w : Bool) (e : CfgExpr) (c : Cfg) → e ≡ expr.Value c
    → true_as_wanted w (contains s (pair_of (value_of c))) ≡ wanted_of s w e
value_meets s w e c is =
    let view : tree_of (expr.Value c) ≡ Value (value_of c) = search (rules, the_lemmas) in
    ap (λ t. true_as_wanted w (truth s t)) (sym view ∙ sym (ap tree_of is))

pub true_meets : (s : FactSet) (w : Bool) (e : CfgExpr) → e ≡ expr.True → w ≡ wanted_of s w e
true_meets s w e is =
    let view : tree_of expr.True ≡ True = search (rules, the_lemmas) in
    sym (wanted_true w) ∙ ap (λ t. true_as_wanted w (truth s t)) (sym view ∙ sym (ap tree_of is))

pub false_meets : (s : FactSet) (w : Bool) (e : CfgExpr) → e ≡ expr.False → not w ≡ wanted_of s w e
false_meets s w e is =
    let view : tree_of expr.False ≡ False = search (rules, the_lemmas) in
    sym (wanted_false w) ∙ ap (λ t. true_as_wanted w (truth s t)) (sym view ∙ sym (ap tree_of is))

-- ---- numbers

pub more_numbered : (ps : List Pair) (old new : List Operation) (o : Operation) → new ≡ old ++ o ∷ []
    → HasNumber ps o → AllOf (HasNumber ps) old → AllOf (HasNumber ps) new
more_numbered ps old new o is h all =
    subst (AllOf (HasNumber ps)) (sym is) (All-push (HasNumber ps) old o all h)

number_kept : (ps qs : List Pair) → ((n : ℕ) (p : Pair) → StandsAt ps n p → StandsAt qs n p) → (o : Operation)
    → HasNumber ps o → HasNumber qs o
number_kept ps qs kept (operation.Pair c w n) h = kept n (pair_of (value_of c.now)) h
number_kept ps qs kept (operation.Is b) h = tt
number_kept ps qs kept (operation.Group each n) h = tt

pub pair_numbered : (ps qs : List Pair) (old new : List Operation) (o : Operation) → new ≡ old ++ o ∷ []
    → ((n : ℕ) (p : Pair) → StandsAt ps n p → StandsAt qs n p) → HasNumber qs o → AllOf (HasNumber ps) old
    → AllOf (HasNumber qs) new
pair_numbered ps qs old new o is kept h all =
    more_numbered qs old new o is h (All-weaker (HasNumber ps) (HasNumber qs) (number_kept ps qs kept) old all)

-- ---- what is asked

pub pushed_asks : (among : Pair → Bool) (old new : List Goal) (g : Goal) → new ≡ old ++ g ∷ [] → AsksAmong among g
    → AllOf (AsksAmong among) old → AllOf (AsksAmong among) new
pushed_asks among old new g is h all =
    subst (AllOf (AsksAmong among)) (sym is) (All-push (AsksAmong among) old g all h)

pub popped_asks : (among : Pair → Bool) (old new : List Goal) (g : Goal) → old ≡ new ++ g ∷ []
    → AllOf (AsksAmong among) old → AllOf (AsksAmong among) new × AsksAmong among g
popped_asks among old new g is all = All-pop (AsksAmong among) old new (Some g) is all

pub not_asks : (among : Pair → Bool) (e inner : CfgExpr) (b : Box CfgExpr Global) → inner ≡ box_value b
    → e ≡ expr.Not b → ((p : Pair) → asks (tree_of e) p ≡ true → among p ≡ true)
    → (p : Pair) → asks (tree_of inner) p ≡ true → among p ≡ true
not_asks among e inner b same is h p asked =
    let view : tree_of (expr.Not b) ≡ Not (tree_of (box_value b)) = search (rules, the_lemmas) in
    h p (ap (λ t. asks t p) (ap tree_of is ∙ view) ∙ ap (λ d. asks (tree_of d) p) (sym same) ∙ asked)

pub all_asks : (among : Pair → Bool) (e : CfgExpr) (v : Vec CfgExpr Global) (es : List CfgExpr) → e ≡ expr.All v
    → es ≡ v.items → ((p : Pair) → asks (tree_of e) p ≡ true → among p ≡ true)
    → (p : Pair) → some_asks (trees_of (map tree_of es)) p ≡ true → among p ≡ true
all_asks among e v es is same h p asked =
    let view : tree_of (expr.All v) ≡ All (trees_of (map tree_of v.items)) = search (rules, the_lemmas) in
    h p (ap (λ t. asks t p) (ap tree_of is ∙ view)
    ∙ ap (λ xs. some_asks (trees_of (map tree_of xs)) p) (sym same) ∙ asked)

pub any_asks : (among : Pair → Bool) (e : CfgExpr) (v : Vec CfgExpr Global) (es : List CfgExpr) → e ≡ expr.Any v
    → es ≡ v.items → ((p : Pair) → asks (tree_of e) p ≡ true → among p ≡ true)
    → (p : Pair) → some_asks (trees_of (map tree_of es)) p ≡ true → among p ≡ true
any_asks among e v es is same h p asked =
    let view : tree_of (expr.Any v) ≡ Any (trees_of (map tree_of v.items)) = search (rules, the_lemmas) in
    h p (ap (λ t. asks t p) (ap tree_of is ∙ view)
    ∙ ap (λ xs. some_asks (trees_of (map tree_of xs)) p) (sym same) ∙ asked)

-- ---- members

moved_member : (s : FactSet) (w : Bool) (es : List CfgExpr) (e : CfgExpr) (bs : List Bool)
    → map (wanted_of s w) (es ++ e ∷ []) ++ bs ≡ map (wanted_of s w) es ++ wanted_of s w e ∷ bs
moved_member s w [] e bs = refl
moved_member s w (d ∷ es) e bs = ap (λ bs. wanted_of s w d ∷ bs) (moved_member s w es e bs)

pub member_met : (s : FactSet) (w : Bool) (left others : List CfgExpr) (e : CfgExpr) (gs new : List Goal) (g : Goal)
    (all : List Bool) → left ≡ others ++ e ∷ [] → new ≡ gs ++ g ∷ [] → meets s g ≡ wanted_of s w e
    → map (wanted_of s w) left ++ map (meets s) (reverse gs) ≡ all
    → map (wanted_of s w) others ++ map (meets s) (reverse new) ≡ all
member_met s w left others e gs new g all is more same h =
    ap (λ gs. map (wanted_of s w) others ++ map (meets s) (reverse gs)) more
    ∙ ap (λ gs. map (wanted_of s w) others ++ map (meets s) gs) (last_first gs g)
    ∙ ap (λ b. map (wanted_of s w) others ++ b ∷ map (meets s) (reverse gs)) same
    ∙ sym (moved_member s w others e (map (meets s) (reverse gs)))
    ∙ ap (λ es. map (wanted_of s w) es ++ map (meets s) (reverse gs)) (sym is) ∙ h

pub member_size : (left others : List CfgExpr) (e : CfgExpr) (gs new : List Goal) (g : Goal) (all : ℕ)
    → left ≡ others ++ e ∷ [] → new ≡ gs ++ g ∷ [] → node_count g.e.now ≡ node_count e
    → node_counts left + goals_size gs ≡ all → node_counts others + goals_size new ≡ all
member_size left others e gs new g all is more same h =
    let one : node_counts left ≡ node_counts others + node_count e =
    ap node_counts is ∙ sum-map node_count (others ++ e ∷ []) ∙ sum_by_push node_count others e
    ∙ ap (λ n. n + node_count e) (sym (sum-map node_count others)) in
    let other : goals_size new ≡ goals_size gs + node_count g.e.now = ap goals_size more ∙ size_last gs g in
    omega (arith, one, other, same, h)

-- the first members, and the last one
pub first_asked : (es : List CfgExpr) (e : CfgExpr) (p : Pair) → some_asks (trees_of (map tree_of es)) p ≡ true
    → some_asks (trees_of (map tree_of (es ++ e ∷ []))) p ≡ true
first_asked [] e p h = absurd (true≢false (sym h))
first_asked (d ∷ es) e p h =
    or_cases (some_asks (trees_of (map tree_of (d ∷ es ++ e ∷ []))) p ≡ true) (asks (tree_of d) p) _ h
    (λ here. ap (λ b. b || some_asks (trees_of (map tree_of (es ++ e ∷ []))) p) here)
    (λ there. or_true (asks (tree_of d) p) _ (first_asked es e p there))

pub last_asked : (es : List CfgExpr) (e : CfgExpr) (p : Pair) → asks (tree_of e) p ≡ true
    → some_asks (trees_of (map tree_of (es ++ e ∷ []))) p ≡ true
last_asked [] e p h = ap (λ b. b || false) h
last_asked (d ∷ es) e p h = or_true (asks (tree_of d) p) _ (last_asked es e p h)

-- each goal asks among what all of them ask for
more_ask : (g : Goal) (gs : List Goal) (h : Goal) → AsksAmong (some_asks (goal_trees gs)) h
    → AsksAmong (some_asks (goal_trees (g ∷ gs))) h
more_ask g gs h asked p is = or_true (asks (tree_of g.e.now) p) _ (asked p is)

goals_ask : (gs : List Goal) → AllOf (AsksAmong (some_asks (goal_trees gs))) gs
goals_ask [] = All-nil (AsksAmong (some_asks (goal_trees [])))
goals_ask (g ∷ gs) =
    let among = some_asks (goal_trees (g ∷ gs)) in
    All-cons (AsksAmong among) g gs (λ p is. ap (λ b. b || some_asks (goal_trees gs) p) is)
    (All-weaker (AsksAmong (some_asks (goal_trees gs))) (AsksAmong among) (more_ask g gs) gs (goals_ask gs))

pub pending_ask : (gs ps : List Goal) → ps ≡ reverse gs → AllOf (AsksAmong (some_asks (goal_trees gs))) ps
pending_ask gs ps is =
    let P = AsksAmong (some_asks (goal_trees gs)) in
    subst (AllOf P) (sym is) (All-permutation P gs (reverse gs) (IsPermutation-reverse gs) (goals_ask gs))

pub no_goals : (gs : List Goal) → length gs ≡ 0 → gs ≡ []
no_goals [] h = refl
no_goals (g ∷ gs) h = absurd (let never : ⊥ = omega (arith, h) in never)
