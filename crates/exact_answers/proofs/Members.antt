-- The members of groups, with the truths that are wanted of them.
use Rattle.std.proofs.Common.{◌≡◌, ◌∙◌, refl, sym, ap, Bool, true, false, not, ◌&&◌, ◌||◌, List, [], ◌∷◌, map}
use Rattle.std.proofs.Common.{Vec, Global, Box, box_value, rules}
use Rattle.cargo_platform.specs.declared.cfg.CfgExpr.{CfgExpr, the_lemmas}
use Rattle.cargo_platform.specs.declared.cfg.CfgExpr.TheVariants as expr
use Rattle.cargo_platform.specs.declared.cfg.Cfg.{Cfg}
use Rattle.cargo_platform.specs.Trees.{Tree, Not, All, Any, Value, True, False, tree_of, trees_of, value_of}
use Rattle.cargo_platform.specs.Facts.{FactSet, pair_of, truth, all_true, any_true}
use Rattle.std.specs.FinSet.{contains}
use Rattle.exact_answers.specs.Goals.{true_as_wanted}
use Rattle.exact_answers.specs.Inside.Making.{group_wanted}

not_and : (a b : Bool) → not (a && b) ≡ (not a || not b)
not_and true b = refl
not_and false b = refl

not_or : (a b : Bool) → not (a || b) ≡ (not a && not b)
not_or true b = refl
not_or false b = refl

all_wanted : (s : FactSet) (wanted : Bool) (es : List Tree)
    → group_wanted wanted wanted s es ≡ true_as_wanted wanted (all_true s (trees_of es))
all_wanted s true [] = refl
all_wanted s true (e ∷ es) = ap (λ b. truth s e && b) (all_wanted s true es)
all_wanted s false [] = refl
all_wanted s false (e ∷ es) =
    ap (λ b. not (truth s e) || b) (all_wanted s false es) ∙ sym (not_and (truth s e) (all_true s (trees_of es)))

any_wanted : (s : FactSet) (wanted : Bool) (es : List Tree)
    → group_wanted (not wanted) wanted s es ≡ true_as_wanted wanted (any_true s (trees_of es))
any_wanted s true [] = refl
any_wanted s true (e ∷ es) = ap (λ b. truth s e || b) (any_wanted s true es)
any_wanted s false [] = refl
any_wanted s false (e ∷ es) =
    ap (λ b. not (truth s e) && b) (any_wanted s false es) ∙ sym (not_or (truth s e) (any_true s (trees_of es)))

wanted_not : (wanted t : Bool) → true_as_wanted (not wanted) t ≡ true_as_wanted wanted (not t)
wanted_not true true = refl
wanted_not true false = refl
wanted_not false true = refl
wanted_not false false = refl

wanted_true : (wanted : Bool) → wanted ≡ true_as_wanted wanted true
wanted_true true = refl
wanted_true false = refl

wanted_false : (wanted : Bool) → not wanted ≡ true_as_wanted wanted false
wanted_false true = refl
wanted_false false = refl

-- ---- the same in the program's form

abbrev pub wanted_in : FactSet → Bool → CfgExpr → Bool
wanted_in s wanted e = true_as_wanted wanted (truth s (tree_of e))

pub of_not : (s : FactSet) (wanted : Bool) (e inner : CfgExpr) (b : Box CfgExpr Global) → inner ≡ box_value b
    → e ≡ expr.Not b → wanted_in s (not wanted) inner ≡ wanted_in s wanted e
of_not s wanted e inner b same is =
    let view : tree_of (expr.Not b) ≡ Not (tree_of (box_value b)) = search (rules, the_lemmas) in
    wanted_not wanted (truth s (tree_of inner))
    ∙ sym (ap (λ t. true_as_wanted wanted (truth s t))
    (ap tree_of is ∙ view ∙ ap (λ x. Not (tree_of x)) (sym same)))

pub of_all : (s : FactSet) (wanted : Bool) (e : CfgExpr) (v : Vec CfgExpr Global) (xs : List CfgExpr) → e ≡ expr.All v
    → xs ≡ v.items → group_wanted wanted wanted s (map tree_of xs) ≡ wanted_in s wanted e
of_all s wanted e v xs is same =
    let view : tree_of (expr.All v) ≡ All (trees_of (map tree_of v.items)) = search (rules, the_lemmas) in
    ap (λ ys. group_wanted wanted wanted s (map tree_of ys)) same
    ∙ all_wanted s wanted (map tree_of v.items)
    ∙ sym (ap (λ t. true_as_wanted wanted (truth s t)) (ap tree_of is ∙ view))

pub of_any : (s : FactSet) (wanted : Bool) (e : CfgExpr) (v : Vec CfgExpr Global) (xs : List CfgExpr) → e ≡ expr.Any v
    → xs ≡ v.items → group_wanted (not wanted) wanted s (map tree_of xs) ≡ wanted_in s wanted e
of_any s wanted e v xs is same =
    let view : tree_of (expr.Any v) ≡ Any (trees_of (map tree_of v.items)) = search (rules, the_lemmas) in
    ap (λ ys. group_wanted (not wanted) wanted s (map tree_of ys)) same
    ∙ any_wanted s wanted (map tree_of v.items)
    ∙ sym (ap (λ t. true_as_wanted wanted (truth s t)) (ap tree_of is ∙ view))

pub of_value : (s : FactSet) (wanted : Bool) (e : CfgExpr) (c : Cfg) → e ≡ expr.Value c
    → true_as_wanted wanted (contains s (pair_of (value_of c))) ≡ wanted_in s wanted e
of_value s wanted e c is =
    let view : tree_of (expr.Value c) ≡ Value (value_of c) = search (rules, the_lemmas) in
    sym (ap (λ t. true_as_wanted wanted (truth s t)) (ap tree_of is ∙ view))

pub of_true : (s : FactSet) (wanted : Bool) (e : CfgExpr) → e ≡ expr.True → wanted ≡ wanted_in s wanted e
of_true s wanted e is =
    let view : tree_of expr.True ≡ True = search (rules, the_lemmas) in
    wanted_true wanted ∙ sym (ap (λ t. true_as_wanted wanted (truth s t)) (ap tree_of is ∙ view))

pub of_false : (s : FactSet) (wanted : Bool) (e : CfgExpr) → e ≡ expr.False → not wanted ≡ wanted_in s wanted e
of_false s wanted e is =
    let view : tree_of expr.False ≡ False = search (rules, the_lemmas) in
    wanted_false wanted ∙ sym (ap (λ t. true_as_wanted wanted (truth s t)) (ap tree_of is ∙ view))

-- ---- one member after the other

pub and_on : (a b c d e : Bool) → (a && (b && c)) ≡ d → e ≡ (a && b) → (e && c) ≡ d
and_on true true c d e h k = ap (λ x. x && c) k ∙ h
and_on true false c d e h k = ap (λ x. x && c) k ∙ h
and_on false b c d e h k = ap (λ x. x && c) k ∙ h

pub or_on : (a b c d e : Bool) → (a || (b || c)) ≡ d → e ≡ (a || b) → (e || c) ≡ d
or_on true b c d e h k = ap (λ x. x || c) k ∙ h
or_on false true c d e h k = ap (λ x. x || c) k ∙ h
or_on false false c d e h k = ap (λ x. x || c) k ∙ h

pub and_done : (a d : Bool) → (a && true) ≡ d → a ≡ d
and_done true d h = h
and_done false d h = h

pub or_done : (a d : Bool) → (a || false) ≡ d → a ≡ d
or_done true d h = h
or_done false d h = h
