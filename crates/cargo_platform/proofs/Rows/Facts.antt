-- The pairs of some values, and the truth of some expressions over some sets of facts.
use Rattle.std.proofs.Common.{◌≡◌, refl, sym, ap, ◌∙◌, Bool, true, false, not, ◌&&◌, ◌||◌, true≢false, List, [], ◌∷◌}
use Rattle.std.proofs.Common.{codes, map}
use Rattle.std.specs.Prelude.{bytes_eq}
use Rattle.std.specs.Ordering.{eq_by_cmp}
use Rattle.std.specs.List.{list_any}
use Rattle.std.specs.FinSet.{contains-from_list}
use Rattle.std.specs.declared.cmp.Ordering.TheVariants.{Less, Equal, Greater}
use Rattle.cargo_platform.specs.Trees.{CfgValue, Alone, KeyPair, Not, All, Any, Value, True, False, none, trees_of}
use Rattle.cargo_platform.specs.Trees.{Target, Expression}
use Rattle.cargo_platform.specs.Facts.{pair_of, pair_cmp, fact_set, truth, IsTrueCondition}
use Rattle.cargo_platform.proofs.FactSets.{pairs_total}
use Rattle.cargo_platform.proofs.Rows.Trees.{name, marked}

abbrev foo : CfgValue
foo = Alone (name (codes "foo"))

abbrev bar : CfgValue
bar = Alone (name (codes "bar"))

-- `k = "1"`
abbrev k_1 : CfgValue
k_1 = KeyPair (name (codes "k")) (codes "1")

-- ---- pairs

-- the mark is no part of the pair
one_pair : (pair_of (Alone (marked (codes "foo"))) ≡ pair_of foo)
    × (pair_of (KeyPair (marked (codes "k")) (codes "1")) ≡ pair_of k_1)
one_pair = (refl, refl)

-- a name is no pair with an empty value
name_is_no_key : pair_of (Alone (name (codes "k"))) ≡ pair_of (KeyPair (name (codes "k")) []) → ⊥
name_is_no_key p = absurd (let e = ap (λ z. z.value) p in cc)

two_names : pair_of foo ≡ pair_of bar → ⊥
two_names p = true≢false (ap (λ z. bytes_eq z.name (codes "foo")) p)

-- by the name, and then by the value, which none comes before
pair_order : (pair_cmp (pair_of bar) (pair_of foo) ≡ Less)
    × (pair_cmp (pair_of k_1) (pair_of (Alone (name (codes "k")))) ≡ Greater)
    × (pair_cmp (pair_of foo) (pair_of (Alone (marked (codes "foo")))) ≡ Equal)
pair_order = (refl, refl, refl)

-- ---- names and pairs over sets of facts

-- a value is true where some fact has its pair
by_pairs : (cs : List CfgValue) (c : CfgValue) (b : Bool)
    → list_any (eq_by_cmp pair_cmp (pair_of c)) (map pair_of cs) ≡ b → truth (fact_set cs) (Value c) ≡ b
by_pairs cs c b h = contains-from_list pairs_total (map pair_of cs) (pair_of c) ∙ h

foo_over_foo : truth (fact_set (foo ∷ [])) (Value foo) ≡ true
foo_over_foo = by_pairs (foo ∷ []) foo true refl

-- neither the mark of the value nor that of the fact counts
marked_over_foo : truth (fact_set (foo ∷ [])) (Value (Alone (marked (codes "foo")))) ≡ true
marked_over_foo = by_pairs (foo ∷ []) (Alone (marked (codes "foo"))) true refl

foo_over_marked : truth (fact_set (bar ∷ Alone (marked (codes "foo")) ∷ [])) (Value foo) ≡ true
foo_over_marked = by_pairs (bar ∷ Alone (marked (codes "foo")) ∷ []) foo true refl

foo_over_nothing : truth (fact_set []) (Value foo) ≡ false
foo_over_nothing = by_pairs [] foo false refl

foo_over_bar : truth (fact_set (bar ∷ [])) (Value foo) ≡ false
foo_over_bar = by_pairs (bar ∷ []) foo false refl

-- a name is independent of a pair with that key, a pair of the name, and one value of another
pair_over_name : truth (fact_set (Alone (name (codes "k")) ∷ [])) (Value k_1) ≡ false
pair_over_name = by_pairs (Alone (name (codes "k")) ∷ []) k_1 false refl

name_over_pair : truth (fact_set (k_1 ∷ [])) (Value (Alone (name (codes "k")))) ≡ false
name_over_pair = by_pairs (k_1 ∷ []) (Alone (name (codes "k"))) false refl

pair_over_other : truth (fact_set (k_1 ∷ [])) (Value (KeyPair (name (codes "k")) (codes "2"))) ≡ false
pair_over_other = by_pairs (k_1 ∷ []) (KeyPair (name (codes "k")) (codes "2")) false refl

-- a key may have several values
pair_over_both : truth (fact_set (k_1 ∷ KeyPair (name (codes "k")) (codes "2") ∷ []))
    (Value (KeyPair (name (codes "k")) (codes "2"))) ≡ true
pair_over_both =
    by_pairs (k_1 ∷ KeyPair (name (codes "k")) (codes "2") ∷ []) (KeyPair (name (codes "k")) (codes "2")) true refl

-- ---- expressions

literals : (truth (fact_set []) True ≡ true) × (truth (fact_set (foo ∷ [])) False ≡ false)
literals = (refl, refl)

empty_groups : (truth (fact_set []) (All none) ≡ true) × (truth (fact_set []) (Any none) ≡ false)
    × (truth (fact_set []) (Not (Any none)) ≡ true)
empty_groups = (refl, refl, refl)

not_foo : truth (fact_set []) (Not (Value foo)) ≡ true
not_foo = ap not foo_over_nothing

not_foo_over_foo : truth (fact_set (foo ∷ [])) (Not (Value foo)) ≡ false
not_foo_over_foo = ap not foo_over_foo

-- one member that is false, and one that is true
all_of_two : truth (fact_set (bar ∷ [])) (All (trees_of (True ∷ Value foo ∷ []))) ≡ false
all_of_two = ap (λ b. b && true) foo_over_bar

any_of_two : truth (fact_set (foo ∷ [])) (Any (trees_of (False ∷ Value foo ∷ []))) ≡ true
any_of_two = ap (λ b. b || false) foo_over_foo

-- ---- conditions

same_target : IsTrueCondition (codes "x86") (fact_set []) (Target (codes "x86"))
same_target = refl

-- a target name is true of that target only, whatever the facts
other_target : IsTrueCondition (codes "x86") (fact_set (Alone (name (codes "arm")) ∷ [])) (Target (codes "arm")) → ⊥
other_target p = true≢false (ap (λ z. bytes_eq z (codes "arm")) p)

true_expression : IsTrueCondition (codes "x86") (fact_set (foo ∷ [])) (Expression (Value foo))
true_expression = foo_over_foo

-- and an expression by the facts only, whatever the target
false_expression : IsTrueCondition (codes "foo") (fact_set []) (Expression (Value foo)) → ⊥
false_expression p = true≢false (sym p ∙ foo_over_nothing)
