-- What is known of a tree is its truth over each set of facts that agrees with what is told.
use Rattle.std.proofs.Common.{◌≡◌, ◌∙◌, refl, sym, ap, subst, Bool, true, false, not, ◌&&◌, ◌||◌, Option, Some, None}
use Rattle.std.proofs.Common.{IfSome}
use Rattle.std.specs.FinSet.{contains}
use Rattle.cargo_platform.specs.Trees.{Tree, Not, All, Any, Value, True, False, Trees, none, tree}
use Rattle.cargo_platform.specs.Facts.{Pair, pair_of, FactSet, truth}
use Rattle.partial_facts.specs.Kleene.{kleene_not, kleene}
use Rattle.partial_facts.specs.Inside.Groups.{both, members_known}
use Rattle.partial_facts.proofs.Neutral.{both_true, members_true, known-tree, true-tree}

-- a, of which x is known
abbrev Agrees : Option Bool → Bool → Type 0
Agrees x a = IfSome x (λ b. a ≡ b)

and_false : (a : Bool) → (a && false) ≡ false
and_false true = refl
and_false false = refl

or_true : (a : Bool) → (a || true) ≡ true
or_true true = refl
or_true false = refl

not_agrees : (x : Option Bool) (a : Bool) → Agrees x a → Agrees (kleene_not x) (not a)
not_agrees (Some b) a h = ap not h
not_agrees None a h = tt

both_agree : (n : Bool) (x y : Option Bool) (a c : Bool) → Agrees x a → Agrees y c
    → Agrees (both n x y) (both_true n a c)
both_agree true (Some false) y a c h k = ap (λ x. x && c) h
both_agree true (Some true) (Some d) a c h k = ap (λ x. x && c) h ∙ k
both_agree true (Some true) None a c h k = tt
both_agree true None (Some false) a c h k = ap (λ x. a && x) k ∙ and_false a
both_agree true None (Some true) a c h k = tt
both_agree false (Some true) y a c h k = ap (λ x. x || c) h
both_agree false (Some false) (Some d) a c h k = ap (λ x. x || c) h ∙ k
both_agree false (Some false) None a c h k = tt
both_agree false None (Some true) a c h k = ap (λ x. a || x) k ∙ or_true a
both_agree false None (Some false) a c h k = tt
both_agree true None None a c h k = tt
both_agree false None None a c h k = tt

module _ (told : Pair → Option Bool) (s : FactSet) (agrees : (p : Pair) → IfSome (told p) (λ b. contains s p ≡ b)) where
  mutual
    tree_agrees : (e : Tree) → Agrees (kleene told e) (truth s e)
    tree_agrees (Not e) = not_agrees (kleene told e) (truth s e) (tree_agrees e)
    tree_agrees (All es) = members_agree true es
    tree_agrees (Any es) = members_agree false es
    tree_agrees (Value c) = agrees (pair_of c)
    tree_agrees True = refl
    tree_agrees False = refl

    members_agree : (n : Bool) (es : Trees) → Agrees (members_known n told es) (members_true n s es)
    members_agree true none = refl
    members_agree false none = refl
    members_agree n (tree e es) =
        subst (λ x. Agrees x (members_true n s (tree e es))) (sym (known-tree n told e es))
        (subst (Agrees (both n (kleene told e) (members_known n told es))) (sym (true-tree n s e es))
        (both_agree n (kleene told e) (members_known n told es) (truth s e) (members_true n s es) (tree_agrees e)
        (members_agree n es)))

pub kleene_sound : (told : Pair → Option Bool) (s : FactSet) → ((p : Pair) → IfSome (told p) (λ b. contains s p ≡ b))
    → (e : Tree) (answer : Option Bool) → answer ≡ kleene told e → IfSome answer (λ b. truth s e ≡ b)
kleene_sound told s agrees e answer is = rw is (tree_agrees told s agrees e)
