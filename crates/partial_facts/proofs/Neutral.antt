-- Both kinds of group by the truth after which they go on: `all` goes on after members that are true, and `any`
-- after false ones. That truth is called the neutral one, and with the other one a group is settled.
use Rattle.std.proofs.Common.{◌≡◌, refl, Bool, true, false, not, ◌&&◌, ◌||◌, Option, Some, None}
use Rattle.cargo_platform.specs.Trees.{Tree, Trees, none, tree}
use Rattle.cargo_platform.specs.Facts.{Pair, FactSet, truth, all_true, any_true}
use Rattle.partial_facts.specs.Kleene.{kleene}
use Rattle.partial_facts.specs.Inside.Groups.{both, members_known}

abbrev pub both_true : Bool → Bool → Bool → Bool
both_true true = ◌&&◌
both_true false = ◌||◌

abbrev pub members_true : Bool → FactSet → Trees → Bool
members_true true = all_true
members_true false = any_true

-- ---- members

pub known-none : (n : Bool) (told : Pair → Option Bool) → members_known n told none ≡ Some n
known-none true told = refl
known-none false told = refl

pub known-tree : (n : Bool) (told : Pair → Option Bool) (e : Tree) (es : Trees)
    → members_known n told (tree e es) ≡ both n (kleene told e) (members_known n told es)
known-tree true told e es = refl
known-tree false told e es = refl

pub true-tree : (n : Bool) (s : FactSet) (e : Tree) (es : Trees)
    → members_true n s (tree e es) ≡ both_true n (truth s e) (members_true n s es)
true-tree true s e es = refl
true-tree false s e es = refl

-- ---- what is known of two

pub neutral_first : (n : Bool) (y : Option Bool) → both n (Some n) y ≡ y
neutral_first true y = refl
neutral_first false y = refl

pub neutral_second : (n : Bool) (x : Option Bool) → both n x (Some n) ≡ x
neutral_second true (Some true) = refl
neutral_second true (Some false) = refl
neutral_second true None = refl
neutral_second false (Some true) = refl
neutral_second false (Some false) = refl
neutral_second false None = refl

pub settled_first : (n : Bool) (y : Option Bool) → both n (Some (not n)) y ≡ Some (not n)
settled_first true y = refl
settled_first false y = refl

pub settled_second : (n : Bool) (x : Option Bool) → both n x (Some (not n)) ≡ Some (not n)
settled_second true (Some true) = refl
settled_second true (Some false) = refl
settled_second true None = refl
settled_second false (Some true) = refl
settled_second false (Some false) = refl
settled_second false None = refl

pub twice_unknown : (n : Bool) (y : Option Bool) → both n None (both n None y) ≡ both n None y
twice_unknown true (Some true) = refl
twice_unknown true (Some false) = refl
twice_unknown true None = refl
twice_unknown false (Some true) = refl
twice_unknown false (Some false) = refl
twice_unknown false None = refl

-- ---- truths

pub neutral_true : (n a : Bool) → both_true n a n ≡ a
neutral_true true true = refl
neutral_true true false = refl
neutral_true false true = refl
neutral_true false false = refl

pub known_both : (n a b : Bool) → both n (Some a) (Some b) ≡ Some (both_true n a b)
known_both true true b = refl
known_both true false b = refl
known_both false true b = refl
known_both false false b = refl
