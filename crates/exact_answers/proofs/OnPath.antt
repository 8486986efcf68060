-- What the code asks of the splits in their order, in the words of a path.
use Rattle.std.proofs.Common.{◌≡◌, ◌∙◌, refl, sym, ap, subst, Bool, true, false, ◌||◌, List, [], ◌∷◌, ◌++◌}
use Rattle.std.proofs.Common.{map, reverse, Some, None, arith}
use Rattle.std.specs.List.{list_any, All}
use Rattle.std.proofs.lemmas.List.{map-append}
use Rattle.std.proofs.lemmas.List.Elements.{All-append, All-map}
use Rattle.cargo_platform.specs.declared.cfg.Cfg.{Cfg}
use Rattle.std.specs.FinSet.{contains, from_list}
use Rattle.std.proofs.lemmas.List.Sorted.{list_any-IsPermutation, IsPermutation-reverse}
use Rattle.cargo_platform.specs.Trees.{CfgValue, Alone, KeyPair, value_of}
use Rattle.cargo_platform.specs.Facts.{Pair, pair_of, pair_cmp}
use Rattle.partial_facts.specs.Partly.{told_by}
use Rattle.exact_answers.specs.Answers.{IsUnmarked}
use Rattle.exact_answers.specs.Asking.{is_pair}
use Rattle.exact_answers.specs.Inside.Paths.{Turn, Base, takes, refuses, facts_on, set_on, rules_out}
use Rattle.exact_answers.specs.Inside.Paths.{is_refuted, unmarked}
use Rattle.exact_answers.proofs.Telling.{any_on, on_path}

any_reversed : (f : Turn → Bool) (xs : List Turn) → list_any f (reverse xs) ≡ list_any f xs
any_reversed f xs = sym (list_any-IsPermutation f xs (reverse xs) (IsPermutation-reverse xs))

pub takes_reversed : (f : Pair → Bool) (xs : List Turn) → takes f (reverse xs) ≡ takes f xs
takes_reversed f xs = any_reversed _ xs

pub refuses_reversed : (f : Pair → Bool) (xs : List Turn) → refuses f (reverse xs) ≡ refuses f xs
refuses_reversed f xs = any_reversed _ xs

then_by : (a b x : Bool) → x ≡ (a || b) → a ≡ true → true ≡ x
then_by a b x e h = sym (e ∙ ap (λ z. z || b) h)

else_by : (a b x r : Bool) → x ≡ (a || b) → a ≡ false → r ≡ b → r ≡ x
else_by a b x r e h k = k ∙ sym (e ∙ ap (λ z. z || b) h)

value_by : (f : Pair → Bool) (k : Base) (xs : List Turn)
    → list_any f (facts_on k (reverse xs)) ≡ (takes f xs || list_any f k.listed)
value_by f k xs = any_on f k (reverse xs) ∙ ap (λ b. b || list_any f k.listed) (takes_reversed f xs)

pub value_then : (f : Pair → Bool) (k : Base) (xs : List Turn) → takes f xs ≡ true
    → true ≡ list_any f (facts_on k (reverse xs))
value_then f k xs h = then_by (takes f xs) (list_any f k.listed) _ (value_by f k xs) h

pub value_else : (f : Pair → Bool) (k : Base) (xs : List Turn) (r : Bool) → takes f xs ≡ false
    → r ≡ list_any f k.listed → r ≡ list_any f (facts_on k (reverse xs))
value_else f k xs r h e = else_by (takes f xs) (list_any f k.listed) _ r (value_by f k xs) h e

fact_by : (k : Base) (xs : List Turn) (p : Pair)
    → contains (set_on k (reverse xs)) p ≡ (takes (is_pair p) xs || contains (from_list {R = pair_cmp} k.listed) p)
fact_by k xs p =
    on_path k (reverse xs) p
    ∙ ap (λ b. b || contains (from_list {R = pair_cmp} k.listed) p) (takes_reversed (is_pair p) xs)

pub fact_then : (k : Base) (xs : List Turn) (p : Pair) → takes (is_pair p) xs ≡ true
    → true ≡ contains (set_on k (reverse xs)) p
fact_then k xs p h = then_by _ _ _ (fact_by k xs p) h

pub fact_else : (k : Base) (xs : List Turn) (p : Pair) (r : Bool) → takes (is_pair p) xs ≡ false
    → r ≡ contains (from_list {R = pair_cmp} k.listed) p → r ≡ contains (set_on k (reverse xs)) p
fact_else k xs p r h e = else_by _ _ _ r (fact_by k xs p) h e

refuted_by : (k : Base) (xs : List Turn) (p : Pair)
    → is_refuted k (reverse xs) p ≡ (refuses (is_pair p) xs || rules_out k (facts_on k (reverse xs)) p)
refuted_by k xs p =
    ap (λ b. b || rules_out k (facts_on k (reverse xs)) p) (refuses_reversed (is_pair p) xs)

pub refuted_then : (k : Base) (xs : List Turn) (p : Pair) → refuses (is_pair p) xs ≡ true
    → true ≡ is_refuted k (reverse xs) p
refuted_then k xs p h = then_by _ _ _ (refuted_by k xs p) h

pub refuted_else : (k : Base) (xs : List Turn) (p : Pair) (r : Bool) → refuses (is_pair p) xs ≡ false
    → r ≡ rules_out k (facts_on k (reverse xs)) p → r ≡ is_refuted k (reverse xs) p
refuted_else k xs p r h e = else_by _ _ _ r (refuted_by k xs p) h e

pub told_fact : (l n : Bool) → l ≡ true → Some true ≡ told_by l n
told_fact true n h = refl
told_fact false n h = cc

pub told_refuted : (l n : Bool) → l ≡ false → n ≡ true → Some false ≡ told_by l n
told_refuted true n h k = cc
told_refuted false true h k = refl
told_refuted false false h k = cc

pub told_open : (l n : Bool) → l ≡ false → n ≡ false → None ≡ told_by l n
told_open true n h k = cc
told_open false true h k = cc
told_open false false h k = refl

-- ---- without marks

-- a mark is no part of the pair
pub unmarked_pair : (c : CfgValue) → pair_of (unmarked c) ≡ pair_of c
unmarked_pair (Alone n) = refl
unmarked_pair (KeyPair k v) = refl

unmarked_pairs : (cs : List CfgValue) → map pair_of (map unmarked cs) ≡ map pair_of cs
unmarked_pairs [] = refl
unmarked_pairs (c ∷ cs) =
    ap (λ p. p ∷ map pair_of (map unmarked cs)) (unmarked_pair c) ∙ ap (λ ps. pair_of c ∷ ps) (unmarked_pairs cs)

is_unmarked : (c : CfgValue) → IsUnmarked (unmarked c)
is_unmarked (Alone n) = refl
is_unmarked (KeyPair k v) = refl

are_unmarked : (cs : List CfgValue) → All IsUnmarked (map unmarked cs)
are_unmarked cs = All-map IsUnmarked unmarked cs (λ k d short. is_unmarked _)

pub none_unmarked : All IsUnmarked []
none_unmarked = λ k d short. absurd (omega (arith, short))

-- one fact more
pub one_more_unmarked : (old new : List Cfg) (c : Cfg) (d : CfgValue) → new ≡ old ++ c ∷ [] → value_of c ≡ unmarked d
    → All IsUnmarked (map value_of old) → All IsUnmarked (map value_of new)
one_more_unmarked old new c d is e h =
    subst (All IsUnmarked)
    (sym (ap (map value_of) is ∙ map-append value_of old (c ∷ []) ∙ ap (λ x. map value_of old ++ x ∷ []) e))
    (All-append IsUnmarked (map value_of old) (unmarked d ∷ []) h (are_unmarked (d ∷ [])))

pub ruleset unmarked_facts = (unmarked_pair, none_unmarked, one_more_unmarked)

-- the taken facts and the listed ones
pub all_pairs : (all taken listed : List CfgValue) → all ≡ taken ++ map unmarked listed
    → map pair_of all ≡ map pair_of taken ++ map pair_of listed
all_pairs all taken listed is =
    ap (map pair_of) is ∙ map-append pair_of taken (map unmarked listed)
    ∙ ap (λ ps. map pair_of taken ++ ps) (unmarked_pairs listed)

pub all_unmarked : (all taken listed : List CfgValue) → all ≡ taken ++ map unmarked listed
    → All IsUnmarked taken → All IsUnmarked all
all_unmarked all taken listed is h =
    subst (All IsUnmarked) (sym is) (All-append IsUnmarked taken (map unmarked listed) h (are_unmarked listed))
