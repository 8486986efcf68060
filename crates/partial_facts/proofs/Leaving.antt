-- What is left of a tree is as true as the tree, and asks for nothing that is known.
use Rattle.std.proofs.Common.{◌≡◌, ◌∙◌, refl, sym, ap, Bool, true, false, not, ◌&&◌, ◌||◌, Option, Some, None, IfSome}
use Rattle.std.specs.FinSet.{contains}
use Rattle.cargo_platform.specs.Trees.{Tree, Not, All, Any, Value, True, False, Trees, none, tree}
use Rattle.cargo_platform.specs.Facts.{Pair, FactSet, truth}
use Rattle.partial_facts.specs.Kleene.{kleene_not, kleene}
use Rattle.partial_facts.specs.Inside.Groups.{both, members_known, grouped}
use Rattle.partial_facts.specs.Residual.{literal, unless_known, with_unknown, group, unknown_part, unknown_members}
use Rattle.partial_facts.specs.Residual.{residual_tree, literal_truth, IsOpen, AreOpen, IsLiteralOrOpen}
use Rattle.partial_facts.proofs.Neutral.{both_true, members_true, known-none, known-tree, true-tree, neutral_true}
use Rattle.partial_facts.proofs.Neutral.{settled_first, settled_second}
use Rattle.partial_facts.proofs.KleeneSound.{kleene_sound}

-- ---- what is not known has a part that is not known

pub inner_unknown : (x : Option Bool) → kleene_not x ≡ None → x ≡ None
inner_unknown (Some b) h = cc
inner_unknown None h = refl

-- some member is left
abbrev IsSomeLeft : Trees → Type 0
IsSomeLeft none = ⊥
IsSomeLeft (tree e es) = Unit {0}

some_left_with : (n : Bool) (x y : Option Bool) (d : Tree) (ds : Trees) → (y ≡ None → IsSomeLeft ds)
    → both n x y ≡ None → IsSomeLeft (with_unknown x d ds)
some_left_with true (Some true) y d ds f h = f h
some_left_with true (Some false) y d ds f h = cc
some_left_with false (Some true) y d ds f h = cc
some_left_with false (Some false) y d ds f h = f h
some_left_with n None y d ds f h = tt

some_left : (told : Pair → Option Bool) (n : Bool) (es : Trees) → members_known n told es ≡ None
    → IsSomeLeft (unknown_members told es)
some_left told n none h = cc (known-none n told)
some_left told n (tree e es) h =
    some_left_with n (kleene told e) (members_known n told es) (unknown_part told e) (unknown_members told es)
    (some_left told n es)
    (sym (known-tree n told e es) ∙ h)

-- ---- nothing known is left

group_open : (told : Pair → Option Bool) (n : Bool) (es : Trees) → IsSomeLeft es → AreOpen told es
    → IsOpen told (group (literal n) (grouped n) es)
group_open told n none some h = absurd some
group_open told n (tree e none) some h = h.0
group_open told true (tree d (tree e es)) some h = (tt, h)
group_open told false (tree d (tree e es)) some h = (tt, h)

with_open : (told : Pair → Option Bool) (x : Option Bool) (d : Tree) (ds : Trees) → (x ≡ None → IsOpen told d)
    → AreOpen told ds → AreOpen told (with_unknown x d ds)
with_open told (Some b) d ds f h = h
with_open told None d ds f h = (f refl, h)

module _ (told : Pair → Option Bool) where
  mutual
    pub part_open : (e : Tree) → kleene told e ≡ None → IsOpen told (unknown_part told e)
    part_open (Not e) h = part_open e (inner_unknown (kleene told e) h)
    part_open (All es) h =
        group_open told true (unknown_members told es) (some_left told true es h) (members_open es)
    part_open (Any es) h =
        group_open told false (unknown_members told es) (some_left told false es h) (members_open es)
    part_open (Value c) h = h
    part_open True h = cc
    part_open False h = cc

    members_open : (es : Trees) → AreOpen told (unknown_members told es)
    members_open none = tt
    members_open (tree e es) =
        with_open told (kleene told e) (unknown_part told e) (unknown_members told es) (part_open e) (members_open es)

open_literal : (told : Pair → Option Bool) (e : Tree) → IsOpen told e → literal_truth e ≡ None
open_literal told (Not e) h = refl
open_literal told (All es) h = refl
open_literal told (Any es) h = refl
open_literal told (Value c) h = refl
open_literal told True h = absurd h
open_literal told False h = absurd h

literal_unless : (x : Option Bool) (d : Tree) → (x ≡ None → literal_truth d ≡ None)
    → literal_truth (unless_known x d) ≡ x
literal_unless (Some true) d f = refl
literal_unless (Some false) d f = refl
literal_unless None d f = f refl

pub part_literal : (told : Pair → Option Bool) (e : Tree) → kleene told e ≡ None
    → literal_truth (unknown_part told e) ≡ None
part_literal told e h = open_literal told (unknown_part told e) (part_open told e h)

-- it is a literal exactly where Kleene's logic answers
pub decided : (told : Pair → Option Bool) (e : Tree) → literal_truth (residual_tree told e) ≡ kleene told e
decided told e = literal_unless (kleene told e) (unknown_part told e) (part_literal told e)

open_or_literal : (told : Pair → Option Bool) (e : Tree) → IsOpen told e → IsLiteralOrOpen told e
open_or_literal told (Not e) h = h
open_or_literal told (All es) h = h
open_or_literal told (Any es) h = h
open_or_literal told (Value c) h = h
open_or_literal told True h = tt
open_or_literal told False h = tt

unless_open : (told : Pair → Option Bool) (x : Option Bool) (d : Tree) → (x ≡ None → IsOpen told d)
    → IsLiteralOrOpen told (unless_known x d)
unless_open told (Some true) d f = tt
unless_open told (Some false) d f = tt
unless_open told None d f = open_or_literal told d (f refl)

pub literal_or_open : (told : Pair → Option Bool) (e : Tree) → IsLiteralOrOpen told (residual_tree told e)
literal_or_open told e = unless_open told (kleene told e) (unknown_part told e) (part_open told e)

-- ---- truth

group_true : (n : Bool) (s : FactSet) (es : Trees) → truth s (group (literal n) (grouped n) es) ≡ members_true n s es
group_true true s none = refl
group_true false s none = refl
group_true true s (tree e none) = sym (neutral_true true (truth s e))
group_true false s (tree e none) = sym (neutral_true false (truth s e))
group_true true s (tree d (tree e es)) = refl
group_true false s (tree d (tree e es)) = refl

-- a group that is not known is not settled, and so no member of it settles it
abbrev pub Settles : Bool → Option Bool → Type 0
Settles n x = x ≡ Some (not n)

pub unknown_unsettled : (n : Bool) (x : Option Bool) → x ≡ None → Settles n x → ⊥
unknown_unsettled n x h is = cc

module _ (n : Bool) (told : Pair → Option Bool) (e : Tree) (es : Trees)
    (unsettled : Settles n (members_known n told (tree e es)) → ⊥) where
  pub first_unsettled : Settles n (kleene told e) → ⊥
  first_unsettled is =
      unsettled
      (known-tree n told e es ∙ ap (λ z. both n z (members_known n told es)) is
      ∙ settled_first n (members_known n told es))

  pub others_unsettled : Settles n (members_known n told es) → ⊥
  others_unsettled is =
      unsettled (known-tree n told e es ∙ ap (both n (kleene told e)) is ∙ settled_second n (kleene told e))

with_true : (n : Bool) (s : FactSet) (x : Option Bool) (d : Tree) (ds : Trees) (a c : Bool) → IfSome x (λ b. a ≡ b)
    → (Settles n x → ⊥)
    → (x ≡ None → truth s d ≡ a) → members_true n s ds ≡ c
    → members_true n s (with_unknown x d ds) ≡ both_true n a c
with_true true s (Some true) d ds a c is other f k = k ∙ sym (ap (λ z. z && c) is)
with_true true s (Some false) d ds a c is other f k = absurd (other refl)
with_true false s (Some true) d ds a c is other f k = absurd (other refl)
with_true false s (Some false) d ds a c is other f k = k ∙ sym (ap (λ z. z || c) is)
with_true n s None d ds a c is other f k = true-tree n s d ds ∙ (λ i. both_true n (f refl i) (k i))

pub literal_true : (s : FactSet) (b : Bool) → truth s (literal b) ≡ b
literal_true s true = refl
literal_true s false = refl

unless_true : (s : FactSet) (x : Option Bool) (d : Tree) (a : Bool) → IfSome x (λ b. a ≡ b)
    → (x ≡ None → truth s d ≡ a) → truth s (unless_known x d) ≡ a
unless_true s (Some b) d a is f = literal_true s b ∙ sym is
unless_true s None d a is f = f refl

module _ (told : Pair → Option Bool) (s : FactSet) (agrees : (p : Pair) → IfSome (told p) (λ b. contains s p ≡ b)) where
  known_true : (e : Tree) → IfSome (kleene told e) (λ b. truth s e ≡ b)
  known_true e = kleene_sound told s agrees e (kleene told e) refl

  mutual
    part_true : (e : Tree) → kleene told e ≡ None → truth s (unknown_part told e) ≡ truth s e
    part_true (Not e) h = ap not (part_true e (inner_unknown (kleene told e) h))
    part_true (All es) h =
        group_true true s (unknown_members told es)
        ∙ members_as_true true es (unknown_unsettled true (members_known true told es) h)
    part_true (Any es) h =
        group_true false s (unknown_members told es)
        ∙ members_as_true false es (unknown_unsettled false (members_known false told es) h)
    part_true (Value c) h = refl
    part_true True h = refl
    part_true False h = refl

    members_as_true : (n : Bool) (es : Trees) → (Settles n (members_known n told es) → ⊥)
        → members_true n s (unknown_members told es) ≡ members_true n s es
    members_as_true n none h = refl
    members_as_true n (tree e es) h =
        with_true n s (kleene told e) (unknown_part told e) (unknown_members told es) (truth s e) (members_true n s es)
        (known_true e)
        (first_unsettled n told e es h) (part_true e) (members_as_true n es (others_unsettled n told e es h))
        ∙ sym (true-tree n s e es)

  pub as_true : (e : Tree) → truth s (residual_tree told e) ≡ truth s e
  as_true e = unless_true s (kleene told e) (unknown_part told e) (truth s e) (known_true e) (part_true e)
