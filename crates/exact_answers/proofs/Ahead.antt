-- Goals that are worked out over one set of facts and over 64 at once.
use Rattle.std.proofs.Common.{◌≡◌, ◌∙◌, refl, sym, ap, subst, ℕ, zero, suc, ◌+◌, ◌*◌, ◌%◌, ◌<◌}
use Rattle.std.proofs.Common.{Bool, true, false, not, ◌&&◌, ◌||◌, List, [], ◌∷◌, ◌++◌, map, reverse, length, drop, min}
use Rattle.std.proofs.Common.{true≢false, arith, bit_and, bit_or, bit_xor, ◌==◌, ltb}
use Rattle.std.specs.Int.{bit_at}
use Rattle.std.specs.List.{All}
use Rattle.std.specs.Cmp.{first_so, second_so}
use Rattle.std.specs.FinSet.{contains}
use Rattle.std.proofs.lemmas.List.{reverse-append}
use Rattle.std.proofs.lemmas.List.Elements.{All-nil, All-push}
use Rattle.std.proofs.lemmas.List.Sums.{sum-map, sum_by_push}
use Rattle.std.proofs.lemmas.Bool.Decides.{Decides-eqb, Decides-ltb}
use Rattle.std.proofs.lemmas.Nat.Bits.{bit_at_and, bit_at_or, bit_at_xor, bit_at_ones, bit_at-lt, bit_at-zero}
use Rattle.cargo_platform.specs.Trees.{All as all_of, Any, tree_of, trees_of, value_of}
use Rattle.cargo_platform.specs.Facts.{FactSet, pair_of, truth}
use Rattle.cargo_platform.specs.ExpressionSizes.{node_count}
use Rattle.cargo_platform.specs.declared.cfg.CfgExpr.{CfgExpr}
use Rattle.exact_answers.specs.declared.goal_diagrams.building.Goal.{Goal}
use Rattle.exact_answers.specs.Goals.{true_as_wanted, goals_met, IsAsTold}
use Rattle.exact_answers.specs.declared.outlook.PairSets.{PairSets}
use Rattle.exact_answers.specs.declared.outlook.GoalEvaluator.{GoalEvaluator}
use Rattle.exact_answers.specs.declared.outlook.Finding.{Finding}
use Rattle.exact_answers.specs.declared.outlook.GoalState.TheVariants as seen
use Rattle.exact_answers.specs.declared.outlook.Operation.{Operation}
use Rattle.exact_answers.specs.declared.search.GoalsState.TheVariants as step
use Rattle.exact_answers.specs.Inside.Paths.{Base, Turn, as_told, set_on, told_on}
use Rattle.exact_answers.specs.Inside.Searches.{AreMissed, SaysStepOn}
use Rattle.exact_answers.specs.Inside.Ahead.{both, gathered, meets, goals_size, worked_out, IsOutlook, Fits, Covers}
use Rattle.exact_answers.specs.Inside.Ahead.{IsOpenAt, IsSeen, Says, patterns, IsSo, AllSo, AreChosen}
use Rattle.exact_answers.proofs.Telling.{is_false, told_sound}

-- ---- words

pub bit_of_all : (l : ℕ) → l < 64 → bit_at 18446744073709551615 l ≡ 1
bit_of_all l low = bit_at_ones 64 l low

pub bit_of_others : (p l : ℕ) → l < 64 → bit_at p l ≡ 0 → bit_at (bit_xor p 18446744073709551615) l ≡ 1
bit_of_others p l low out =
    bit_at_xor p 18446744073709551615 l ∙ ap (λ n. (n + bit_at 18446744073709551615 l) % 2) out
    ∙ ap (λ n. (0 + n) % 2) (bit_of_all l low)

pub both_itself : (each x : Bool) → x ≡ both each each x
both_itself true x = refl
both_itself false x = refl

pub both_neutral : (each x : Bool) → both each x each ≡ x
both_neutral true true = refl
both_neutral true false = refl
both_neutral false true = refl
both_neutral false false = refl

both_both : (each a b x : Bool) → both each a (both each b x) ≡ both each (both each a b) x
both_both true true b x = refl
both_both true false b x = refl
both_both false true b x = refl
both_both false false b x = refl

pub and_covers : (v w l : ℕ) (a b : Bool) → (a ≡ true → bit_at v l ≡ 1) → (b ≡ true → bit_at w l ≡ 1)
    → both true a b ≡ true → bit_at (bit_and v w) l ≡ 1
and_covers v w l a b f g h =
    let one : bit_at v l ≡ 1 = f (first_so a b h) in
    let other : bit_at w l ≡ 1 = g (second_so a b h) in
    bit_at_and v w l ∙ ap (λ n. min n (bit_at w l)) one ∙ ap (min 1) other

pub or_covers : (v w l : ℕ) (a b : Bool) → (a ≡ true → bit_at v l ≡ 1) → (b ≡ true → bit_at w l ≡ 1)
    → both false a b ≡ true → bit_at (bit_or v w) l ≡ 1
or_covers v w l true b f g h =
    let one : bit_at v l ≡ 1 = f refl in
    let low = bit_at-lt w l in
    bit_at_or v w l ∙ omega (arith, one, low)
or_covers v w l false b f g h =
    let one : bit_at w l ≡ 1 = g h in
    let low = bit_at-lt v l in
    bit_at_or v w l ∙ omega (arith, one, low)

out : (b : Bool) → not b ≡ true → b ≡ false
out true h = absurd (true≢false (sym h))
out false h = refl

pub with_it : (s : FactSet) (l : ℕ) (w : PairSets) (wanted : Bool) → wanted ≡ true → Fits s l w
    → true_as_wanted wanted (contains s (pair_of (value_of w.pair.now))) ≡ true → bit_at w.with l ≡ 1
with_it s l w true e fits is = fits.0 is
with_it s l w false e fits is = absurd (true≢false (sym e))

pub without_it : (s : FactSet) (l : ℕ) (w : PairSets) (wanted : Bool) → wanted ≡ false → Fits s l w
    → true_as_wanted wanted (contains s (pair_of (value_of w.pair.now))) ≡ true → bit_at w.without l ≡ 1
without_it s l w true e fits is = absurd (true≢false e)
without_it s l w false e fits is = fits.1 (out (contains s (pair_of (value_of w.pair.now))) is)

-- ---- the findings that are joined

abbrev pub AreJoined : List PairSets → Bool → ℕ → ℕ → Finding → List Finding → ℕ → List Bool → Type 0
AreJoined table each count left f fs l bs =
    (a : Bool) × (cs : List Bool) × Covers table l fs cs × Says table l f a
    × (gathered each count bs ≡ both each a (gathered each left cs)) × (drop count bs ≡ drop left cs)

pub first_joined : (table : List PairSets) (each : Bool) (count : ℕ) (f : Finding) (fs : List Finding) (l : ℕ)
    (bs : List Bool) → Says table l f each → Covers table l fs bs → AreJoined table each count count f fs l bs
first_joined table each count f fs l bs says cov = (each, bs, cov, says, both_itself each _, refl)

pub next_joined : (table : List PairSets) (each : Bool) (count left : ℕ) (f g new : Finding) (fs : List Finding) (l : ℕ)
    (bs : List Bool)
    → ((a b : Bool) → Says table l f a → Says table l g b → Says table l new (both each a b))
    → AreJoined table each count (suc left) f (g ∷ fs) l bs → AreJoined table each count left new fs l bs
next_joined table each count left f g new fs l bs join (a, [], cov, says, e, d) = absurd cov
next_joined table each count left f g new fs l bs join (a, b ∷ cs, cov, says, e, d) = (
  both each a b,
  cs,
  cov.1,
  join a b says cov.0,
  e ∙ both_both each a b (gathered each left cs),
  d,
)

abbrev pub IsGathered : List PairSets → Bool → ℕ → Finding → List Finding → ℕ → List Bool → Type 0
IsGathered table each count f fs l bs =
    Says table l f (gathered each count bs) × Covers table l fs (drop count bs)

pub end_joined : (table : List PairSets) (each : Bool) (count : ℕ) (f : Finding) (fs : List Finding) (l : ℕ)
    (bs : List Bool) → AreJoined table each count 0 f fs l bs → IsGathered table each count f fs l bs
end_joined table each count f fs l bs (a, cs, cov, says, e, d) = (
  subst (Says table l f) (sym (both_neutral each a) ∙ sym e) says,
  subst (Covers table l fs) (sym d) cov,
)

pub nothing : (fs : List Finding) → length fs ≡ 0 → fs ≡ []
nothing [] h = refl
nothing (f ∷ fs) h = absurd (let never : ⊥ = omega (arith, h) in never)

gathered_none : (each : Bool) (n : ℕ) → gathered each n [] ≡ each
gathered_none each zero = refl
gathered_none each (suc n) = refl

drop_none : (n : ℕ) (bs : List Bool) → bs ≡ [] → drop n bs ≡ []
drop_none zero bs h = h
drop_none (suc n) [] h = refl
drop_none (suc n) (b ∷ bs) h = cc

pub none_joined : (table : List PairSets) (each : Bool) (count left : ℕ) (f : Finding) (l : ℕ) (bs : List Bool)
    → AreJoined table each count left f [] l bs → IsGathered table each count f [] l bs
none_joined table each count left f l bs (a, [], cov, says, e, d) = (
  subst (Says table l f)
      (sym (both_neutral each a) ∙ ap (both each a) (sym (gathered_none each left)) ∙ sym e) says,
  subst (Covers table l []) (sym (d ∙ drop_none left [] refl)) tt,
)
none_joined table each count left f l bs (a, c ∷ cs, cov, says, e, d) = absurd cov

-- ---- operations

pub last_first : {X : Type 0} → (xs : List X) (x : X) → reverse (xs ++ x ∷ []) ≡ x ∷ reverse xs
last_first xs x = reverse-append xs (x ∷ [])

pub covers_last : (table : List PairSets) (l : ℕ) (f : Finding) (fs : List Finding) (b : Bool)
    → Covers table l (f ∷ fs) (b ∷ []) → Says table l f b
covers_last table l f fs b cov = cov.0

-- ---- one of the 64 sets agrees with a set of facts in six pairs

abbrev is_so : ℕ → ℕ → Bool → Bool
is_so l w true = bit_at w l == 1
is_so l w false = bit_at w l == 0

so : (l w : ℕ) (b : Bool) → is_so l w b ≡ true → IsSo l w b
so l w true h = ((λ is. (Decides-eqb (bit_at w l) 1).0 h), λ is. absurd (true≢false is))
so l w false h = ((λ is. absurd (true≢false (sym is))), λ is. (Decides-eqb (bit_at w l) 0).0 h)

abbrev are_so : ℕ → List ℕ → List Bool → Bool
are_so l [] bs = true
are_so l (w ∷ ws) [] = true
are_so l (w ∷ ws) (b ∷ bs) = is_so l w b && are_so l ws bs

abbrev number : List Bool → ℕ
number [] = 0
number (true ∷ bs) = 1 + 2 * number bs
number (false ∷ bs) = 2 * number bs

-- this many truths: those of the list, and false after them
abbrev padded : ℕ → List Bool → List Bool
padded zero bs = []
padded (suc n) [] = false ∷ padded n []
padded (suc n) (b ∷ bs) = b ∷ padded n bs

padded_length : (n : ℕ) (bs : List Bool) → length (padded n bs) ≡ n
padded_length zero bs = refl
padded_length (suc n) [] = ap suc (padded_length n [])
padded_length (suc n) (b ∷ bs) = ap suc (padded_length n bs)

-- the test passes for each list of n truths
abbrev every : ℕ → (List Bool → Bool) → Bool
every zero f = f []
every (suc n) f = every n (λ bs. f (true ∷ bs)) && every n (λ bs. f (false ∷ bs))

every_so : (n : ℕ) (f : List Bool → Bool) → every n f ≡ true → (bs : List Bool) → length bs ≡ n → f bs ≡ true
every_so zero f h [] e = h
every_so zero f h (b ∷ bs) e = absurd (let never : ⊥ = omega (arith, e) in never)
every_so (suc n) f h [] e = absurd (let never : ⊥ = omega (arith, e) in never)
every_so (suc n) f h (true ∷ bs) e =
    every_so n (λ cs. f (true ∷ cs)) (first_so _ _ h) bs (omega (arith, e))
every_so (suc n) f h (false ∷ bs) e =
    every_so n (λ cs. f (false ∷ cs)) (second_so _ _ h) bs (omega (arith, e))

abbrev is_number : List Bool → Bool
is_number bs = ltb (number bs) 64 && are_so (number bs) patterns bs

each_number : every 6 is_number ≡ true
each_number = refl

all_so : (l : ℕ) (cs : List (ℕ × Bool)) (ws : List ℕ)
    → are_so l (map (λ c. c.0) cs ++ ws) (padded (length (map (λ c. c.0) cs ++ ws)) (map (λ c. c.1) cs)) ≡ true
    → AllSo l cs
all_so l [] ws h = tt
all_so l (c ∷ cs) ws h = (so l c.0 c.1 (first_so _ _ h), all_so l cs ws (second_so _ _ h))

all_so_both : (l : ℕ) (cs : List (ℕ × Bool)) (c : ℕ × Bool) → AllSo l (cs ++ c ∷ []) → AllSo l cs × IsSo l c.0 c.1
all_so_both l [] c h = (tt, h.0)
all_so_both l (d ∷ cs) c h = let r = all_so_both l cs c h.1 in ((h.0, r.0), r.1)

pub none_chosen : (s : FactSet) → AreChosen s patterns []
none_chosen s = ([], refl, λ l h so. All-nil (Fits s l))

pub told_chosen : (s : FactSet) (left : List ℕ) (ws : List PairSets) (w : PairSets) → AreChosen s left ws
    → ((l : ℕ) → l < 64 → Fits s l w) → AreChosen s left (ws ++ w ∷ [])
told_chosen s left ws w h f = (h.0, h.1, λ l low so. All-push (Fits s l) ws w (h.2 l low so) (f l low))

moved : (cs : List (ℕ × Bool)) (c : ℕ × Bool) (left : List ℕ)
    → map (λ c. c.0) (cs ++ c ∷ []) ++ left ≡ map (λ c. c.0) cs ++ c.0 ∷ left
moved [] c left = refl
moved (d ∷ cs) c left = ap (λ ws. d.0 ∷ ws) (moved cs c left)

pub open_chosen : (s : FactSet) (p : ℕ) (left : List ℕ) (ws : List PairSets) (w : PairSets) (b : Bool)
    → AreChosen s (p ∷ left) ws
    → ((l : ℕ) → l < 64 → (b ≡ true → bit_at p l ≡ 1) → (b ≡ false → bit_at p l ≡ 0) → Fits s l w)
    → AreChosen s left (ws ++ w ∷ [])
open_chosen s p left ws w b h f = (
  h.0 ++ (p, b) ∷ [],
  moved h.0 (p, b) left ∙ h.1,
  λ l low so.
      let r = all_so_both l h.0 (p, b) so in
      All-push (Fits s l) ws w (h.2 l low r.0) (f l low r.1.0 r.1.1),
)

pub some_chosen : (s : FactSet) (left : List ℕ) (ws : List PairSets) → AreChosen s left ws
    → (l : ℕ) × (l < 64) × All (Fits s l) ws
some_chosen s left ws h =
    let bs = padded 6 (map (λ c. c.1) h.0) in
    let is = every_so 6 is_number each_number bs (padded_length 6 _) in
    let low : number bs < 64 = (Decides-ltb (number bs) 64).0 (first_so _ _ is) in
    let all : are_so (number bs) (map (λ c. c.0) h.0 ++ left)
    (padded (length (map (λ c. c.0) h.0 ++ left)) (map (λ c. c.1) h.0)) ≡ true =
    subst (λ ws. are_so (number bs) ws (padded (length ws) (map (λ c. c.1) h.0)) ≡ true) (sym h.1) (second_so _ _ is) in
    (number bs, low, h.2 (number bs) low (all_so (number bs) h.0 left all))

-- ---- what is added for a goal

wanted_both : (w a b : Bool) → true_as_wanted w (a && b) ≡ both w (true_as_wanted w a) (true_as_wanted w b)
wanted_both true a b = refl
wanted_both false true b = refl
wanted_both false false b = refl

wanted_either : (w a b : Bool) → true_as_wanted w (a || b) ≡ both (not w) (true_as_wanted w a) (true_as_wanted w b)
wanted_either true a b = refl
wanted_either false true b = refl
wanted_either false false b = refl

pub wanted_true : (w : Bool) → true_as_wanted w true ≡ w
wanted_true true = refl
wanted_true false = refl

pub wanted_false : (w : Bool) → true_as_wanted w false ≡ not w
wanted_false true = refl
wanted_false false = refl

pub wanted_not : (w b : Bool) → true_as_wanted (not w) b ≡ true_as_wanted w (not b)
wanted_not true b = refl
wanted_not false true = refl
wanted_not false false = refl

-- what is wanted of each member
abbrev pub wanted_of : FactSet → Bool → CfgExpr → Bool
wanted_of s w e = true_as_wanted w (truth s (tree_of e))

pub all_gathered : (s : FactSet) (w : Bool) (es : List CfgExpr) (bs : List Bool)
    → gathered w (length es) (map (wanted_of s w) es ++ bs)
    ≡ true_as_wanted w (truth s (all_of (trees_of (map tree_of es))))
all_gathered s w [] bs = sym (wanted_true w)
all_gathered s w (e ∷ es) bs =
    ap (both w (wanted_of s w e)) (all_gathered s w es bs)
    ∙ sym (wanted_both w (truth s (tree_of e)) (truth s (all_of (trees_of (map tree_of es)))))

pub any_gathered : (s : FactSet) (w : Bool) (es : List CfgExpr) (bs : List Bool)
    → gathered (not w) (length es) (map (wanted_of s w) es ++ bs)
    ≡ true_as_wanted w (truth s (Any (trees_of (map tree_of es))))
any_gathered s w [] bs = sym (wanted_false w)
any_gathered s w (e ∷ es) bs =
    ap (both (not w) (wanted_of s w e)) (any_gathered s w es bs)
    ∙ sym (wanted_either w (truth s (tree_of e)) (truth s (Any (trees_of (map tree_of es)))))

pub rest_dropped : (s : FactSet) (w : Bool) (es : List CfgExpr) (bs : List Bool)
    → drop (length es) (map (wanted_of s w) es ++ bs) ≡ bs
rest_dropped s w [] bs = refl
rest_dropped s w (e ∷ es) bs = rest_dropped s w es bs

pub goals_gathered : (s : FactSet) (gs : List Goal) → gathered true (length gs) (map (meets s) gs) ≡ goals_met s gs
goals_gathered s [] = refl
goals_gathered s (g ∷ gs) = ap (λ b. meets s g && b) (goals_gathered s gs)

pub goals_dropped : (s : FactSet) (gs : List Goal) → drop (length gs) (map (meets s) gs) ≡ []
goals_dropped s [] = refl
goals_dropped s (g ∷ gs) = goals_dropped s gs

pub size_last : (gs : List Goal) (g : Goal) → goals_size (gs ++ g ∷ []) ≡ goals_size gs + node_count g.e.now
size_last gs g =
    let size : Goal → ℕ = λ g. node_count g.e.now in
    sum-map size (gs ++ g ∷ []) ∙ sum_by_push size gs g ∙ ap (λ n. n + node_count g.e.now) (sym (sum-map size gs))

pub first_outcome : (s : FactSet) (n : ℕ) (gs ps : List Goal) → ps ≡ gs → n ≡ length gs
    → gathered true n (map (meets s) ps) ∷ drop n (map (meets s) ps) ≡ goals_met s gs ∷ []
first_outcome s n gs ps same long =
    ap (λ ps. gathered true n (map (meets s) ps) ∷ drop n (map (meets s) ps)) same
    ∙ ap (λ n. gathered true n (map (meets s) gs) ∷ drop n (map (meets s) gs)) long
    ∙ ap (λ b. b ∷ drop (length gs) (map (meets s) gs)) (goals_gathered s gs)
    ∙ ap (λ bs. goals_met s gs ∷ bs) (goals_dropped s gs)

-- ---- what is found on a path

pub never : (word l : ℕ) → word ≡ 0 → bit_at word l ≡ 1 → ⊥
never word l e h = let none : bit_at 0 l ≡ 1 = sym (ap (λ w. bit_at w l) e) ∙ h in omega (arith, none, bit_at-zero l)

module _ (outlook : GoalEvaluator) (gs : List Goal) (is : IsOutlook outlook gs) (k : Base) (ds : List Turn)
    (table : List PairSets) (found : Finding)
    (chosen : (s : FactSet) → IsAsTold (told_on k ds) s → (l : ℕ) × (l < 64) × All (Fits s l) table)
    (works : (s : FactSet) (l : ℕ) (b : Bool) → l < 64 → All (Fits s l) table
    → worked_out s outlook.operations.items [] ≡ b ∷ [] → Says table l found b) where
  says : (s : FactSet) → IsAsTold (told_on k ds) s → (l : ℕ) × Says table l found (goals_met s gs)
  says s told =
      let r = chosen s told in
      (r.0, works s r.0 (goals_met s gs) r.1 r.2 (is.works_out s))

  -- no set is left
  pub none_met : found.sets ≡ 0 → AreMissed k gs ds
  none_met none s over agrees =
      let r = says s (told_sound k ds s over agrees) in
      is_false (goals_met s gs) (λ h. never found.sets r.0 none (r.1.0 h))

  pub known_by : (b : Bool) → found.seen ≡ seen.Known b → (s : FactSet) → IsAsTold (told_on k ds) s
      → goals_met s gs ≡ b
  known_by b e s told = subst (λ x. IsSeen table x (goals_met s gs)) e (says s told).1.1

  -- what is told of pairs decides the goals
  pub decided : (b : Bool) → found.seen ≡ seen.Known b → SaysStepOn (step.Decided b) k gs ds
  decided true e = known_by true e (set_on k ds) (as_told k ds)
  decided false e = λ s over agrees. known_by false e s (told_sound k ds s over agrees)

  pub open_at : (n : ℕ) → found.seen ≡ seen.Open n → IsOpenAt table n
  open_at n e =
      subst (λ x. IsSeen table x (goals_met (set_on k ds) gs)) e (says (set_on k ds) (as_told k ds)).1.1

-- the same by what the code is given
pub found_by : (outlook : GoalEvaluator) (os : List Operation) (ws table : List PairSets) (found : Finding)
    → os ≡ outlook.operations.items → ws ≡ table
    → ((s : FactSet) (l : ℕ) (b : Bool) → l < 64 → All (Fits s l) ws → worked_out s os [] ≡ b ∷ []
    → Says ws l found b)
    → (s : FactSet) (l : ℕ) (b : Bool) → l < 64 → All (Fits s l) table
    → worked_out s outlook.operations.items [] ≡ b ∷ [] → Says table l found b
found_by outlook os ws table found is same h s l b low fit e =
    subst (λ ws. Says ws l found b) same
    (h s l b low (subst (All (Fits s l)) (sym same) fit) (ap (λ os. worked_out s os []) is ∙ e))
