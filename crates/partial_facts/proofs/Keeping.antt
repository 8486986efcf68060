-- What is left of a tree holds values of the tree in their order, is well-formed if the tree is, and is no larger or
-- deeper.
use Rattle.std.proofs.Common.{◌≡◌, refl, sym, subst, ℕ, ◌+◌, ◌≤◌, max, Bool, true, false, Option, Some, None}
use Rattle.std.proofs.Common.{List, [], ◌∷◌, ◌++◌, inl, inr, Result, IfOk, arith}
use Rattle.std.proofs.lemmas.List.{append-nil}
use Rattle.std.proofs.lemmas.Result.{IfOk-weaker}
use Rattle.cargo_platform.specs.Trees.{CfgValue, Tree, Not, All, Any, Value, True, False, Trees, none, tree}
use Rattle.cargo_platform.specs.Facts.{Pair}
use Rattle.cargo_platform.specs.WellFormed.{IsWellFormed, AreWellFormed}
use Rattle.cargo_platform.specs.Warnings.{values, members_values}
use Rattle.cargo_platform.specs.Sizes.{size, sizes, depth, depths}
use Rattle.partial_facts.specs.Kleene.{kleene}
use Rattle.partial_facts.specs.Residual.{unless_known, with_unknown, group, unknown_part, unknown_members}
use Rattle.partial_facts.specs.Residual.{residual_tree, IsSubsequence}

-- ---- values in their order

left_out : {A : Type 0} (xs ys zs : List A) → IsSubsequence xs ys → IsSubsequence xs (zs ++ ys)
left_out xs ys [] h = h
left_out [] ys (z ∷ zs) h = tt
left_out (x ∷ xs) ys (z ∷ zs) h = inr (left_out (x ∷ xs) ys zs h)

joined : {A : Type 0} (xs ys us vs : List A) → IsSubsequence xs ys → IsSubsequence us vs
    → IsSubsequence (xs ++ us) (ys ++ vs)
joined [] ys us vs h k = left_out us vs ys k
joined (x ∷ xs) [] us vs h k = absurd h
joined (x ∷ xs) (y ∷ ys) us vs h k = elim h [
  | inl both ↦ inl (both.0, joined xs ys us vs both.1 k)
  | inr later ↦ inr (joined (x ∷ xs) ys us vs later k)
]

group_values : (empty : Tree) (of : Trees → Tree) (vs : List CfgValue) → values empty ≡ []
    → ((es : Trees) → values (of es) ≡ members_values es)
    → (es : Trees) → IsSubsequence (members_values es) vs → IsSubsequence (values (group empty of es)) vs
group_values empty of vs nothing f none h = subst (λ us. IsSubsequence us vs) (sym nothing) tt
group_values empty of vs nothing f (tree e none) h = subst (λ us. IsSubsequence us vs) (append-nil (values e)) h
group_values empty of vs nothing f (tree d (tree e es)) h =
    subst (λ us. IsSubsequence us vs) (sym (f (tree d (tree e es)))) h

with_values : (x : Option Bool) (d : Tree) (ds : Trees) (us vs : List CfgValue) → IsSubsequence (values d) us
    → IsSubsequence (members_values ds) vs
    → IsSubsequence (members_values (with_unknown x d ds)) (us ++ vs)
with_values (Some b) d ds us vs h k = left_out (members_values ds) vs us k
with_values None d ds us vs h k = joined (values d) us (members_values ds) vs h k

unless_values : (x : Option Bool) (d : Tree) (us : List CfgValue) → IsSubsequence (values d) us
    → IsSubsequence (values (unless_known x d)) us
unless_values (Some true) d us h = tt
unless_values (Some false) d us h = tt
unless_values None d us h = h

module _ (told : Pair → Option Bool) where
  mutual
    part_values : (e : Tree) → IsSubsequence (values (unknown_part told e)) (values e)
    part_values (Not e) = part_values e
    part_values (All es) =
        group_values True All (members_values es) refl (λ ds. refl) (unknown_members told es) (members_in_order es)
    part_values (Any es) =
        group_values False Any (members_values es) refl (λ ds. refl) (unknown_members told es) (members_in_order es)
    part_values (Value c) = inl (refl, tt)
    part_values True = tt
    part_values False = tt

    members_in_order : (es : Trees) → IsSubsequence (members_values (unknown_members told es)) (members_values es)
    members_in_order none = tt
    members_in_order (tree e es) =
        with_values (kleene told e) (unknown_part told e) (unknown_members told es) (values e) (members_values es)
        (part_values e) (members_in_order es)

  pub in_order : (e : Tree) → IsSubsequence (values (residual_tree told e)) (values e)
  in_order e = unless_values (kleene told e) (unknown_part told e) (values e) (part_values e)

-- ---- well-formed

group_formed : (empty : Tree) (of : Trees → Tree) → IsWellFormed empty
    → ((es : Trees) → AreWellFormed es → IsWellFormed (of es))
    → (es : Trees) → AreWellFormed es → IsWellFormed (group empty of es)
group_formed empty of formed f none h = formed
group_formed empty of formed f (tree e none) h = h.0
group_formed empty of formed f (tree d (tree e es)) h = f (tree d (tree e es)) h

with_formed : (x : Option Bool) (d : Tree) (ds : Trees) → IsWellFormed d → AreWellFormed ds
    → AreWellFormed (with_unknown x d ds)
with_formed (Some b) d ds h k = k
with_formed None d ds h k = (h, k)

unless_formed : (x : Option Bool) (d : Tree) → IsWellFormed d → IsWellFormed (unless_known x d)
unless_formed (Some true) d h = tt
unless_formed (Some false) d h = tt
unless_formed None d h = h

module _ (told : Pair → Option Bool) where
  mutual
    part_formed : (e : Tree) → IsWellFormed e → IsWellFormed (unknown_part told e)
    part_formed (Not e) w = part_formed e w
    part_formed (All es) w = group_formed True All tt (λ ds h. h) (unknown_members told es) (members_formed es w)
    part_formed (Any es) w = group_formed False Any tt (λ ds h. h) (unknown_members told es) (members_formed es w)
    part_formed (Value c) w = w
    part_formed True w = tt
    part_formed False w = tt

    members_formed : (es : Trees) → AreWellFormed es → AreWellFormed (unknown_members told es)
    members_formed none w = tt
    members_formed (tree e es) w =
        with_formed (kleene told e) (unknown_part told e) (unknown_members told es) (part_formed e w.0)
        (members_formed es w.1)

  pub well_formed : (e : Tree) → IsWellFormed e → IsWellFormed (residual_tree told e)
  well_formed e w = unless_formed (kleene told e) (unknown_part told e) (part_formed e w)

-- ---- no larger, and no deeper

some_size : (e : Tree) → 1 ≤ size e
some_size (Not e) = omega arith
some_size (All es) = omega arith
some_size (Any es) = omega arith
some_size (Value c) = omega arith
some_size True = omega arith
some_size False = omega arith

some_depth : (e : Tree) → 1 ≤ depth e
some_depth (Not e) = omega arith
some_depth (All es) = omega arith
some_depth (Any es) = omega arith
some_depth (Value c) = omega arith
some_depth True = omega arith
some_depth False = omega arith

one_more : (m n : ℕ) → m ≤ n → 1 + m ≤ 1 + n
one_more m n h = omega arith

-- a measure by which a literal is 1, and a group one more than its members, each of which is at most all of them
module _ (measure : Tree → ℕ) (all : Trees → ℕ) where
  group_within : (empty : Tree) (of : Trees → Tree) (n : ℕ) → measure empty ≡ 1
      → ((es : Trees) → measure (of es) ≡ 1 + all es)
      → ((e : Tree) → measure e ≤ all (tree e none)) → (es : Trees) → all es ≤ n → measure (group empty of es) ≤ 1 + n
  group_within empty of n one f g none h = omega arith
  group_within empty of n one f g (tree e none) h = let k : measure e ≤ all (tree e none) = g e in omega arith
  group_within empty of n one f g (tree d (tree e es)) h =
      let k : measure (of (tree d (tree e es))) ≡ 1 + all (tree d (tree e es)) = f (tree d (tree e es)) in omega arith

  unless_within : (x : Option Bool) (d : Tree) (n : ℕ) → measure True ≡ 1 → measure False ≡ 1 → 1 ≤ n → measure d ≤ n
      → measure (unless_known x d) ≤ n
  unless_within (Some true) d n at_true at_false some h = omega arith
  unless_within (Some false) d n at_true at_false some h = omega arith
  unless_within None d n at_true at_false some h = h

alone_size : (e : Tree) → size e ≤ sizes (tree e none)
alone_size e = omega arith

alone_depth : (e : Tree) → depth e ≤ depths (tree e none)
alone_depth e = omega arith

with_size : (x : Option Bool) (d : Tree) (ds : Trees) (m n : ℕ) → size d ≤ m → sizes ds ≤ n
    → sizes (with_unknown x d ds) ≤ m + n
with_size (Some b) d ds m n h k = omega arith
with_size None d ds m n h k = omega arith

with_depth : (x : Option Bool) (d : Tree) (ds : Trees) (m n : ℕ) → depth d ≤ m → depths ds ≤ n
    → depths (with_unknown x d ds) ≤ max m n
with_depth (Some b) d ds m n h k = omega arith
with_depth None d ds m n h k = omega arith

module _ (told : Pair → Option Bool) where
  mutual
    part_size : (e : Tree) → size (unknown_part told e) ≤ size e
    part_size (Not e) = one_more (size (unknown_part told e)) (size e) (part_size e)
    part_size (All es) =
        group_within size sizes True All (sizes es) refl (λ ds. refl) alone_size (unknown_members told es)
        (members_size es)
    part_size (Any es) =
        group_within size sizes False Any (sizes es) refl (λ ds. refl) alone_size (unknown_members told es)
        (members_size es)
    part_size (Value c) = omega arith
    part_size True = omega arith
    part_size False = omega arith

    members_size : (es : Trees) → sizes (unknown_members told es) ≤ sizes es
    members_size none = omega arith
    members_size (tree e es) =
        with_size (kleene told e) (unknown_part told e) (unknown_members told es) (size e) (sizes es) (part_size e)
        (members_size es)

    part_depth : (e : Tree) → depth (unknown_part told e) ≤ depth e
    part_depth (Not e) = one_more (depth (unknown_part told e)) (depth e) (part_depth e)
    part_depth (All es) =
        group_within depth depths True All (depths es) refl (λ ds. refl) alone_depth (unknown_members told es)
        (members_depth es)
    part_depth (Any es) =
        group_within depth depths False Any (depths es) refl (λ ds. refl) alone_depth (unknown_members told es)
        (members_depth es)
    part_depth (Value c) = omega arith
    part_depth True = omega arith
    part_depth False = omega arith

    members_depth : (es : Trees) → depths (unknown_members told es) ≤ depths es
    members_depth none = omega arith
    members_depth (tree e es) =
        with_depth (kleene told e) (unknown_part told e) (unknown_members told es) (depth e) (depths es)
        (part_depth e) (members_depth es)

  pub no_larger : (e : Tree) → size (residual_tree told e) ≤ size e
  no_larger e =
      unless_within size sizes (kleene told e) (unknown_part told e) (size e) refl refl (some_size e) (part_size e)

  pub no_deeper : (e : Tree) → depth (residual_tree told e) ≤ depth e
  no_deeper e =
      unless_within depth depths (kleene told e) (unknown_part told e) (depth e) refl refl (some_depth e)
      (part_depth e)

-- ---- what holds of a view holds of an answer that is seen so

pub through : {A T X : Type 0} (view : A → T) (r : Result A X) (t : T) (Q : T → Type 0) → Q t
    → IfOk r (λ x. view x ≡ t) → IfOk r (λ x. Q (view x))
through view r t Q q h = IfOk-weaker r (λ x. view x ≡ t) (λ x. Q (view x)) (λ x is. subst Q (sym is) q) h
