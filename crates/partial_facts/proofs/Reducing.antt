-- The steps by which what is left of a group is made, while its members are gone through.
use Rattle.std.proofs.Common.{◌≡◌, ◌∙◌, refl, sym, ap, subst, ℕ, ◌<◌, Bool, true, false, Option, Some, None}
use Rattle.std.proofs.Common.{List, [], ◌∷◌, ◌++◌, append_assoc, append-nil, length, map, Vec, Global, vec_len}
use Rattle.std.proofs.Common.{arith, true≢false}
use Rattle.std.proofs.Math.Bool.{beq}
use Rattle.std.proofs.lemmas.List.{length-map}
use Rattle.cargo_platform.specs.declared.cfg.CfgExpr.{CfgExpr}
use Rattle.cargo_platform.specs.Trees.{Tree, Not, All, Any, Value, True, False, Trees, none, tree, tree_of, trees_of}
use Rattle.cargo_platform.specs.Facts.{Pair}
use Rattle.cargo_platform.specs.Walk.{list_tree}
use Rattle.partial_facts.specs.Kleene.{kleene, kleene_not}
use Rattle.partial_facts.specs.Residual.{literal, unless_known, with_unknown, group, unknown_part, unknown_members}
use Rattle.partial_facts.specs.Residual.{residual_tree, literal_truth, negation}
use Rattle.partial_facts.specs.Inside.Groups.{both, members_known, grouped}
use Rattle.partial_facts.specs.Inside.Reducing.{left_so_far, in_front, left_by, left_behind, unless_settled, left_with}
use Rattle.partial_facts.specs.Inside.Reducing.{IsLeftOf}
use Rattle.partial_facts.proofs.Neutral.{known-tree, neutral_first, settled_second, twice_unknown}
use Rattle.partial_facts.proofs.Leaving.{decided, part_literal}

-- ---- one more that is left

one_more_left : (n : Bool) (xs : List Tree) (x : Tree) (y : Option Bool)
    → both n (left_so_far n (xs ++ x ∷ [])) y ≡ both n (left_so_far n xs) (both n None y)
one_more_left n [] x y = sym (neutral_first n (both n None y))
one_more_left n (z ∷ xs) x y = sym (twice_unknown n y)

in_front-append : (xs : List Tree) (x : Tree) (ts : Trees) → in_front (xs ++ x ∷ []) ts ≡ in_front xs (tree x ts)
in_front-append [] x ts = refl
in_front-append (z ∷ xs) x ts = ap (tree z) (in_front-append xs x ts)

in_front-none : (xs : List Tree) → in_front xs none ≡ trees_of xs
in_front-none [] = refl
in_front-none (x ∷ xs) = ap (tree x) (in_front-none xs)

-- ---- a group, from one member to the next

by_truth : (n : Bool) (told : Pair → Option Bool) (xs : List Tree) (x : Option Bool) (d : Tree) (es : Trees)
    → left_by n xs (both n x (members_known n told es)) (with_unknown x d (unknown_members told es))
    ≡ left_with told n xs x (unless_known x d) es
by_truth true told xs (Some true) d es = refl
by_truth true told xs (Some false) d es =
    ap (λ y. unless_known y (group True All (in_front xs (unknown_members told es))))
    (settled_second true (left_so_far true xs))
by_truth false told xs (Some true) d es =
    ap (λ y. unless_known y (group False Any (in_front xs (unknown_members told es))))
    (settled_second false (left_so_far false xs))
by_truth false told xs (Some false) d es = refl
by_truth n told xs None d es =
    sym
    (λ i. unless_known (one_more_left n xs d (members_known n told es) i)
    (group (literal n) (grouped n) (in_front-append xs d (unknown_members told es) i)))

stepped : (told : Pair → Option Bool) (n : Bool) (xs : List Tree) (m : Tree) (es : Trees)
    → left_with told n xs (literal_truth (residual_tree told m)) (residual_tree told m) es
    ≡ left_behind told n xs (tree m es)
stepped told n xs m es =
    ap (λ x. left_with told n xs x (residual_tree told m) es) (decided told m)
    ∙ sym
    (ap (λ y. left_by n xs y (unknown_members told (tree m es))) (known-tree n told m es)
    ∙ by_truth n told xs (kleene told m) (unknown_part told m) es)

ended : (told : Pair → Option Bool) (n : Bool) (xs : List Tree)
    → group (literal n) (grouped n) (trees_of xs) ≡ left_behind told n xs none
ended told true [] = refl
ended told false [] = refl
ended told true (x ∷ xs) = sym (ap (group True All) (in_front-none (x ∷ xs)))
ended told false (x ∷ xs) = sym (ap (group False Any) (in_front-none (x ∷ xs)))

-- ---- negations

negation_open : (t : Tree) → literal_truth t ≡ None → negation t ≡ Not t
negation_open (Not e) h = refl
negation_open (All es) h = refl
negation_open (Any es) h = refl
negation_open (Value c) h = refl
negation_open True h = cc
negation_open False h = cc

negation_unless : (x : Option Bool) (d : Tree) → (x ≡ None → literal_truth d ≡ None)
    → negation (unless_known x d) ≡ unless_known (kleene_not x) (Not d)
negation_unless (Some true) d f = refl
negation_unless (Some false) d f = refl
negation_unless None d f = negation_open d (f refl)

pub negation_residual : (told : Pair → Option Bool) (e : Tree)
    → negation (residual_tree told e) ≡ residual_tree told (Not e)
negation_residual told e = negation_unless (kleene told e) (unknown_part told e) (part_literal told e)

more_than_one : (empty : Tree) (of : Trees → Tree) (xs : List Tree) → 1 < length xs
    → of (trees_of xs) ≡ group empty of (trees_of xs)
more_than_one empty of [] h = absurd (omega arith)
more_than_one empty of (x ∷ []) h = absurd (omega arith)
more_than_one empty of (x ∷ y ∷ xs) h = refl

-- a group of more than one member, in the program's form
pub closed : (n b : Bool) (e : CfgExpr) (v : Vec CfgExpr Global) (count : ℕ) → count ≡ vec_len v → 1 < count → n ≡ b
    → tree_of e ≡ grouped b (trees_of (map tree_of v.items))
    → tree_of e ≡ group (literal n) (grouped n) (trees_of (map tree_of v.items))
closed n b e v count is h neutral view =
    let same : vec_len v ≡ length v.items = v.ok.0 in
    let len : length (map tree_of v.items) ≡ length v.items = length-map v.items tree_of in
    view ∙ more_than_one (literal b) (grouped b) (map tree_of v.items) (omega arith)
    ∙ sym (ap (λ c. group (literal c) (grouped c) (trees_of (map tree_of v.items))) neutral)

-- ---- a group, by the members that were gone through

-- no member yet
pub none_left : (told : Pair → Option Bool) (n : Bool) → IsLeftOf told n [] []
none_left told true others = refl
none_left told false others = refl

literal_is : (t : Tree) (b : Bool) → literal_truth t ≡ Some b → t ≡ literal b
literal_is True true h = refl
literal_is True false h = absurd cc
literal_is False true h = absurd cc
literal_is False false h = refl
literal_is (Not e) b h = absurd cc
literal_is (All es) b h = absurd cc
literal_is (Any es) b h = absurd cc
literal_is (Value c) b h = absurd cc

passes : (n b : Bool) (t : Tree) → beq b n ≡ true → unless_settled n b t ≡ t
passes true true t h = refl
passes true false t h = absurd (true≢false (sym h))
passes false true t h = absurd (true≢false (sym h))
passes false false t h = refl

settles : (n b : Bool) (t : Tree) → beq b n ≡ false → unless_settled n b t ≡ literal b
settles true true t h = absurd (true≢false h)
settles true false t h = refl
settles false true t h = refl
settles false false t h = absurd (true≢false h)

module _ (told : Pair → Option Bool) (n : Bool) (es xs : List Tree) (e part : Tree) (so_far : IsLeftOf told n es xs)
    (is : part ≡ residual_tree told e) where
  -- with one more member, of which this is left
  step : (b : Option Bool) → literal_truth part ≡ b → (others : List Tree)
      → left_with told n xs b part (trees_of others) ≡ residual_tree told (list_tree n (es ++ e ∷ others))
  step b truth others =
      sym (ap (λ z. left_with told n xs z part (trees_of others)) truth)
      ∙ subst (λ p. left_with told n xs (literal_truth p) p (trees_of others) ≡ left_behind told n xs
      (tree e (trees_of others))) (sym is) (stepped told n xs e (trees_of others))
      ∙ so_far (e ∷ others)

  one_more : (others : List Tree) → residual_tree told (list_tree n (es ++ e ∷ others))
      ≡ residual_tree told (list_tree n ((es ++ e ∷ []) ++ others))
  one_more others = ap (λ z. residual_tree told (list_tree n z)) (sym (append_assoc es (e ∷ []) others))

  pub left_more : literal_truth part ≡ None → IsLeftOf told n (es ++ e ∷ []) (xs ++ part ∷ [])
  left_more truth others = step None truth others ∙ one_more others

  pub left_over : (b : Bool) → literal_truth part ≡ Some b → beq b n ≡ true → IsLeftOf told n (es ++ e ∷ []) xs
  left_over b truth same others =
      sym (passes n b (left_behind told n xs (trees_of others)) same) ∙ step (Some b) truth others ∙ one_more others

  pub left_settled : (b : Bool) → literal_truth part ≡ Some b → beq b n ≡ false → (others : List Tree)
      → part ≡ residual_tree told (list_tree n (es ++ e ∷ others))
  left_settled b truth differs others =
      literal_is part b truth ∙ sym (settles n b (left_behind told n xs (trees_of others)) differs)
      ∙ step (Some b) truth others

-- all members
pub left_whole : (told : Pair → Option Bool) (n : Bool) (es xs : List Tree) → IsLeftOf told n es xs
    → group (literal n) (grouped n) (trees_of xs) ≡ residual_tree told (list_tree n es)
left_whole told n es xs so_far =
    ended told n xs ∙ so_far [] ∙ ap (λ z. residual_tree told (list_tree n z)) (append-nil es)
