-- Laws of the order of keys: it is total, it compares the key alone, and only equal keys tie.
use Rattle.std.specs.Prelude.{◌≡◌, ◌↔◌, ℕ, false, List, [], ◌∷◌, Option, Some, None, refl}
use Rattle.std.proofs.Common.{sym, ap, ◌∙◌, subst, true≢false}
use Rattle.std.specs.declared.cmp.Ordering.{Ordering}
use Rattle.std.specs.declared.cmp.Ordering.TheVariants.{Less, Equal, Greater}
use Rattle.std.specs.Ordering.{ordering_then, nat_cmp, is_lt, is_eq, is_gt, on, then_cmp}
use Rattle.std.specs.Option.{option_cmp}
use Rattle.std.specs.Cmp.{IsTotalOrder, tied_itself, then_total, on_total, nat_cmp_total}
use Rattle.std.specs.Cmp.Lexicographic.{slice_cmp, lists_total, options_total, on_texts}
use Rattle.std.specs.FinSet.{nat_cmp-IsAntisymmetric, slice_cmp-IsAntisymmetric}
use Rattle.cargo_platform.specs.Trees.{Name, CfgValue, Alone, KeyPair, Tree, Not, All, Any, Value, True, False, Trees}
use Rattle.cargo_platform.specs.Trees.{none, tree, Condition, Target, Expression}
use Rattle.cargo_platform.specs.Key.{name_key, value_key, key, keys, condition_key, text_cmp, name_cmp, value_cmp}
use Rattle.cargo_platform.specs.Key.{tree_cmp, trees_cmp, condition_cmp}

-- ---- chained answers

pub then_Equal : (a : Ordering) → ordering_then a Equal ≡ a
then_Equal Less = refl
then_Equal Equal = refl
then_Equal Greater = refl

pub then_assoc : (a b c : Ordering) → ordering_then a (ordering_then b c) ≡ ordering_then (ordering_then a b) c
then_assoc Less b c = refl
then_assoc Equal b c = refl
then_assoc Greater b c = refl

not_Less : (P : Type 0) → Less ≡ Equal → P
not_Less P h = absurd (true≢false (ap is_lt h))

not_Greater : (P : Type 0) → Greater ≡ Equal → P
not_Greater P h = absurd (true≢false (ap is_gt h))

pub first_tied : (a b : Ordering) → ordering_then a b ≡ Equal → a ≡ Equal
first_tied Less b h = not_Less _ h
first_tied Equal b h = refl
first_tied Greater b h = not_Greater _ h

pub second_tied : (a b : Ordering) → ordering_then a b ≡ Equal → b ≡ Equal
second_tied Less b h = not_Less _ h
second_tied Equal b h = h
second_tied Greater b h = not_Greater _ h

-- ---- the order is total

pub name_total : IsTotalOrder name_cmp
name_total = on_texts (λ (n : Name). n.name)

-- names before pairs, then the name or key, then the value
abbrev form : CfgValue → ℕ
form (Alone n) = 0
form (KeyPair k v) = 1

abbrev name_or_key : CfgValue → Name
name_or_key (Alone n) = n
name_or_key (KeyPair k v) = k

abbrev value_part : CfgValue → List ℕ
value_part (Alone n) = []
value_part (KeyPair k v) = v

value_by_parts : (c d : CfgValue)
    → then_cmp (on form nat_cmp) (then_cmp (on name_or_key name_cmp) (on value_part text_cmp)) c d ≡ value_cmp c d
value_by_parts (Alone m) (Alone n) = then_Equal (name_cmp m n)
value_by_parts (Alone m) (KeyPair k v) = refl
value_by_parts (KeyPair j u) (Alone n) = refl
value_by_parts (KeyPair j u) (KeyPair k v) = refl

pub value_total : IsTotalOrder value_cmp
value_total =
    subst IsTotalOrder
    (λ i c d. value_by_parts c d i)
    (then_total (on_total form nat_cmp_total) (then_total (on_total name_or_key name_total) (on_texts value_part)))

-- a step of the walk over a tree from its root: a form, and the value if it has one
record Step : Type 0 where
  pub rank : ℕ
  pub value : Option CfgValue

abbrev step_cmp : Step → Step → Ordering
step_cmp = then_cmp (on (λ s. s.rank) nat_cmp) (on (λ s. s.value) (option_cmp value_cmp))

step_total : IsTotalOrder step_cmp
step_total =
    then_total (on_total (λ (s : Step). s.rank) nat_cmp_total)
    (on_total (λ (s : Step). s.value) (options_total value_total))

abbrev step : ℕ → Step
step n = record { rank = n; value = None }

-- the steps of a tree, before those that come after; in a list of members, each place says whether another one follows
abbrev mutual
  walked : Tree → List Step → List Step
  walked (Not e) after = step 0 ∷ walked e after
  walked (All es) after = step 1 ∷ all_walked es after
  walked (Any es) after = step 2 ∷ all_walked es after
  walked (Value c) after = record { rank = 3; value = Some c } ∷ after
  walked True after = step 4 ∷ after
  walked False after = step 5 ∷ after

  all_walked : Trees → List Step → List Step
  all_walked none after = step 0 ∷ after
  all_walked (tree e es) after = step 1 ∷ walked e (all_walked es after)

-- trees compare as their walks do
mutual
  by_walk : (d e : Tree) (xs ys : List Step)
      → slice_cmp step_cmp (walked d xs) (walked e ys) ≡ ordering_then (tree_cmp d e) (slice_cmp step_cmp xs ys)
  by_walk (Not d) (Not e) xs ys = by_walk d e xs ys
  by_walk (All ds) (All es) xs ys = by_walks ds es xs ys
  by_walk (Any ds) (Any es) xs ys = by_walks ds es xs ys
  by_walk (Value c) (Value d) xs ys = refl
  by_walk True True xs ys = refl
  by_walk False False xs ys = refl
  by_walk d e xs ys = refl

  by_walks : (ds es : Trees) (xs ys : List Step)
      → slice_cmp step_cmp (all_walked ds xs) (all_walked es ys) ≡ ordering_then (trees_cmp ds es)
      (slice_cmp step_cmp xs ys)
  by_walks none none xs ys = refl
  by_walks none (tree e es) xs ys = refl
  by_walks (tree d ds) none xs ys = refl
  by_walks (tree d ds) (tree e es) xs ys =
      by_walk d e (all_walked ds xs) (all_walked es ys)
      ∙ ap (λ o. ordering_then (tree_cmp d e) o) (by_walks ds es xs ys)
      ∙ then_assoc (tree_cmp d e) (trees_cmp ds es) (slice_cmp step_cmp xs ys)

pub tree_total : IsTotalOrder tree_cmp
tree_total =
    let walk : Tree → List Step = λ e. walked e [] in
    let same : (d e : Tree)
    → on walk (slice_cmp step_cmp) d e ≡ tree_cmp d e = λ d e. by_walk d e [] [] ∙ then_Equal (tree_cmp d e) in
    subst IsTotalOrder (λ i d e. same d e i) (on_total walk (lists_total step_total))

abbrev condition_form : Condition → ℕ
condition_form (Target s) = 0
condition_form (Expression e) = 1

abbrev target_part : Condition → List ℕ
target_part (Target s) = s
target_part (Expression e) = []

abbrev tree_part : Condition → Tree
tree_part (Target s) = True
tree_part (Expression e) = e

condition_by_parts : (c d : Condition)
    → then_cmp (on condition_form nat_cmp)
    (then_cmp (on target_part text_cmp) (on tree_part tree_cmp)) c d ≡ condition_cmp c d
condition_by_parts (Target s) (Target t) = then_Equal (text_cmp s t)
condition_by_parts (Target s) (Expression e) = refl
condition_by_parts (Expression d) (Target t) = refl
condition_by_parts (Expression d) (Expression e) = refl

pub condition_total : IsTotalOrder condition_cmp
condition_total =
    subst IsTotalOrder
    (λ i c d. condition_by_parts c d i)
    (then_total (on_total condition_form nat_cmp_total)
    (then_total (on_texts target_part) (on_total tree_part tree_total)))

-- ---- it sees the key alone

pub value_key_cmp : (c d : CfgValue) → value_cmp (value_key c) (value_key d) ≡ value_cmp c d
value_key_cmp (Alone m) (Alone n) = refl
value_key_cmp (Alone m) (KeyPair k v) = refl
value_key_cmp (KeyPair j u) (Alone n) = refl
value_key_cmp (KeyPair j u) (KeyPair k v) = refl

mutual
  pub key_cmp : (d e : Tree) → tree_cmp (key d) (key e) ≡ tree_cmp d e
  key_cmp (Not d) (Not e) = key_cmp d e
  key_cmp (All ds) (All es) = keys_cmp ds es
  key_cmp (Any ds) (Any es) = keys_cmp ds es
  key_cmp (Value c) (Value d) = value_key_cmp c d
  key_cmp True True = refl
  key_cmp False False = refl
  key_cmp d e = refl

  keys_cmp : (ds es : Trees) → trees_cmp (keys ds) (keys es) ≡ trees_cmp ds es
  keys_cmp none none = refl
  keys_cmp none (tree e es) = refl
  keys_cmp (tree d ds) none = refl
  keys_cmp (tree d ds) (tree e es) = λ i. ordering_then (key_cmp d e i) (keys_cmp ds es i)

pub condition_key_cmp : (c d : Condition) → condition_cmp (condition_key c) (condition_key d) ≡ condition_cmp c d
condition_key_cmp (Target s) (Target t) = refl
condition_key_cmp (Target s) (Expression e) = refl
condition_key_cmp (Expression d) (Target t) = refl
condition_key_cmp (Expression d) (Expression e) = key_cmp d e

-- ---- only equal keys tie

pub text_tie : (s t : List ℕ) → text_cmp s t ≡ Equal → s ≡ t
text_tie s t h = slice_cmp-IsAntisymmetric nat_cmp-IsAntisymmetric s t h

pub name_tie : (m n : Name) → name_cmp m n ≡ Equal → name_key m ≡ name_key n
name_tie m n h = ap (λ (s : List ℕ). record { raw = false; name = s }) (text_tie m.name n.name h)

pub value_tie : (c d : CfgValue) → value_cmp c d ≡ Equal → value_key c ≡ value_key d
value_tie (Alone m) (Alone n) h = ap Alone (name_tie m n h)
value_tie (Alone m) (KeyPair k v) h = not_Less _ h
value_tie (KeyPair j u) (Alone n) h = not_Greater _ h
value_tie (KeyPair j u) (KeyPair k v) h =
    λ i. KeyPair (name_tie j k (first_tied (name_cmp j k) (text_cmp u v) h) i)
    (text_tie u v (second_tied (name_cmp j k) (text_cmp u v) h) i)

mutual
  pub tree_tie : (d e : Tree) → tree_cmp d e ≡ Equal → key d ≡ key e
  tree_tie (Not d) (Not e) h = ap Not (tree_tie d e h)
  tree_tie (All ds) (All es) h = ap All (trees_tie ds es h)
  tree_tie (Any ds) (Any es) h = ap Any (trees_tie ds es h)
  tree_tie (Value c) (Value d) h = ap Value (value_tie c d h)
  tree_tie True True h = refl
  tree_tie False False h = refl
  tree_tie d e h = absurd (true≢false (sym (ap is_eq h)))

  trees_tie : (ds es : Trees) → trees_cmp ds es ≡ Equal → keys ds ≡ keys es
  trees_tie none none h = refl
  trees_tie none (tree e es) h = not_Less _ h
  trees_tie (tree d ds) none h = not_Greater _ h
  trees_tie (tree d ds) (tree e es) h =
      λ i. tree (tree_tie d e (first_tied (tree_cmp d e) (trees_cmp ds es) h) i)
      (trees_tie ds es (second_tied (tree_cmp d e) (trees_cmp ds es) h) i)

pub condition_tie : (c d : Condition) → condition_cmp c d ≡ Equal → condition_key c ≡ condition_key d
condition_tie (Target s) (Target t) h = ap Target (text_tie s t h)
condition_tie (Target s) (Expression e) h = not_Less _ h
condition_tie (Expression d) (Target t) h = not_Greater _ h
condition_tie (Expression d) (Expression e) h = ap Expression (tree_tie d e h)

-- an order that compares the key alone is `Equal` exactly if the keys are equal
equal_iff : {K : Type 0} {R : K → K → Ordering} (k : K → K) → IsTotalOrder R → ((x y : K) → R (k x) (k y) ≡ R x y)
    → ((x y : K) → R x y ≡ Equal → k x ≡ k y) → (x y : K) → (R x y ≡ Equal) ↔ (k x ≡ k y)
equal_iff {R = R} k total sees ties x y =
    (ties x y, λ same. sym (sees x y) ∙ ap (λ z. R z (k y)) same ∙ tied_itself total (k y))

pub name_equal_iff : (m n : Name) → (name_cmp m n ≡ Equal) ↔ (name_key m ≡ name_key n)
name_equal_iff = equal_iff name_key name_total (λ m n. refl) name_tie

pub value_equal_iff : (c d : CfgValue) → (value_cmp c d ≡ Equal) ↔ (value_key c ≡ value_key d)
value_equal_iff = equal_iff value_key value_total value_key_cmp value_tie

pub tree_equal_iff : (d e : Tree) → (tree_cmp d e ≡ Equal) ↔ (key d ≡ key e)
tree_equal_iff = equal_iff key tree_total key_cmp tree_tie

pub condition_equal_iff : (c d : Condition) → (condition_cmp c d ≡ Equal) ↔ (condition_key c ≡ condition_key d)
condition_equal_iff = equal_iff condition_key condition_total condition_key_cmp condition_tie
