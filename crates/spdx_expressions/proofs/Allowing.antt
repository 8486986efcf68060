-- Licences in a list.
use Rattle.std.proofs.Common.{◌≡◌, refl, sym, ap, ◌||◌, Bool, true, false, List, [], ◌∷◌, map}
use Rattle.std.specs.Prelude.{IsTrue}
use Rattle.std.specs.List.{list_any}
use Rattle.std.proofs.lemmas.Bool.{and_parts, and_from}
use Rattle.std.proofs.lemmas.List.Folds.{Any-from_list_any, list_any-from_Any}
use Rattle.spdx_expressions.specs.Trees.{Term, Tree, Single, Both, Either}
use Rattle.spdx_expressions.specs.Allowed.{allows, is_allowed, truth}
use Rattle.spdx_expressions.specs.Laws.{IsWithin}

pub any_map : {X Y : Type 0} (p : Y → Bool) (h : X → Y) (xs : List X)
    → list_any (λ x. p (h x)) xs ≡ list_any p (map h xs)
any_map p h [] = refl
any_map p h (x ∷ xs) = ap (λ (b : Bool). p (h x) || b) (any_map p h xs)

any_more : (p : Term → Bool) (few more : List Term) → IsWithin few more → list_any p few ≡ true
    → list_any p more ≡ true
any_more p few more within h =
    let a = Any-from_list_any p few h in
    let c = within a.1 (a.0, a.2, a.3) in
    list_any-from_Any p more (c.0, a.1, c.1, c.2, a.4)

either_more : (a b c d : Bool) → (a ≡ true → c ≡ true) → (b ≡ true → d ≡ true) → (a || b) ≡ true → (c || d) ≡ true
either_more true b c d left right h = ap (λ (v : Bool). v || d) (left refl)
either_more false true true d left right h = refl
either_more false true false d left right h = right refl
either_more false false c d left right h = absurd cc

pub more_satisfies : (few more : List Term) (t : Tree) → IsWithin few more → IsTrue (truth (is_allowed few) t)
    → IsTrue (truth (is_allowed more) t)
more_satisfies few more (Single t) within h = any_more (λ (entry : Term). allows entry t) few more within h
more_satisfies few more (Both l r) within h =
    let parts = and_parts (truth (is_allowed few) l) (truth (is_allowed few) r) h in
    and_from _ _ (more_satisfies few more l within parts.0) (more_satisfies few more r within parts.1)
more_satisfies few more (Either l r) within h =
    either_more (truth (is_allowed few) l) (truth (is_allowed few) r) (truth (is_allowed more) l)
    (truth (is_allowed more) r) (more_satisfies few more l within) (more_satisfies few more r within) h

same_truth : (a b : Bool) → (a ≡ true → b ≡ true) → (b ≡ true → a ≡ true) → a ≡ b
same_truth true b f g = sym (f refl)
same_truth false true f g = g refl
same_truth false false f g = refl

pub order_is_idle : (some others : List Term) (t : Tree) → IsWithin some others → IsWithin others some
    → truth (is_allowed some) t ≡ truth (is_allowed others) t
order_is_idle some others t there back =
    same_truth _ _ (more_satisfies some others t there) (more_satisfies others some t back)
