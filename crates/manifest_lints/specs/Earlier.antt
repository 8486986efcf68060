-- The relation of a condition to earlier ones: which is the same, apart from raw marks, and which are equivalent.
use Rattle.std.specs.Prelude.{◌≡◌, ◌⊎◌, ◌↔◌, ◌<◌, ℕ, Bool, true, false, IsTrue, List, [], ◌∷◌, ◌++◌, length, get_or}
use Rattle.std.specs.Prelude.{Option, Some, None, IfSome, Vec}
use Rattle.std.specs.declared.alloc.Global.{Global}
use Rattle.std.specs.List.{Any, All}
use Rattle.std.specs.Borrow.{Bor}
use Rattle.std.specs.declared.cmp.Ordering.{Ordering}
use Rattle.std.specs.BTreeMap as ordered
use Rattle.cargo_platform.specs.declared.Platform.{Platform}
use Rattle.cargo_platform.specs.Trees.{Condition, Tree, Expression, condition_of}
use Rattle.cargo_platform.specs.Key.{condition_key, condition_cmp}
use Rattle.cargo_platform.specs.Facts.{IsTrueCondition}
use Rattle.exact_answers.specs.declared.fact_constraints.FactConstraints.{FactConstraints}
use Rattle.exact_answers.specs.Asking.{NeedsMore}
use Rattle.exact_answers.specs.Targets.{ForEach, asked_trees}
use Rattle.manifest_lints.specs.declared.earlier.Earlier.{Earlier}
use Rattle.manifest_lints.specs.declared.earlier.Earlier.TheVariants as earlier
use Rattle.manifest_lints.specs.declared.earlier.Keys.{Keys}
use Rattle.manifest_lints.specs.declared.earlier.Class.{Class}
use Rattle.manifest_lints.specs.declared.earlier.Part.TheVariants as parts
use Rattle.manifest_lints.specs.contracts.earlier.ClassOrd.TheImpl as class_ord
use Rattle.manifest_lints.specs.declared.earlier.TheConstants.{MAX_COMPARED_KEYS}

abbrev pub is_same : Earlier → Bool
is_same (earlier.Same first) = true
is_same earlier.Unlike = false
is_same (earlier.Equivalent first) = false
is_same earlier.Undecided = false

abbrev pub is_equivalent : Earlier → Bool
is_equivalent (earlier.Same first) = false
is_equivalent earlier.Unlike = false
is_equivalent (earlier.Equivalent first) = true
is_equivalent earlier.Undecided = false

abbrev pub is_undecided : Earlier → Bool
is_undecided (earlier.Same first) = false
is_undecided earlier.Unlike = false
is_undecided (earlier.Equivalent first) = false
is_undecided earlier.Undecided = true

abbrev pub is_unlike : Earlier → Bool
is_unlike (earlier.Same first) = false
is_unlike earlier.Unlike = true
is_unlike (earlier.Equivalent first) = false
is_unlike earlier.Undecided = false

-- the index of the earlier key that is said to be the same, and of the one that is said to be equivalent
abbrev pub same_place : Earlier → Option ℕ
same_place (earlier.Same first) = Some first
same_place earlier.Unlike = None
same_place (earlier.Equivalent first) = None
same_place earlier.Undecided = None

abbrev pub equivalent_place : Earlier → Option ℕ
equivalent_place (earlier.Same first) = None
equivalent_place earlier.Unlike = None
equivalent_place (earlier.Equivalent first) = Some first
equivalent_place earlier.Undecided = None

-- the index that was recorded for a condition, if there is one
abbrev pub noted : Keys → Bor Platform → Option ℕ
noted keys q = ordered.get (λ a b. condition_cmp (condition_of a.now) (condition_of b.now)) keys.seen q

-- a condition is recorded at an index in addition to the others, unless it was recorded: then nothing changes
abbrev pub NotesBy : Option ℕ → Keys → Keys → ℕ → Condition → Type 0
NotesBy (Some first) old new n c = (q : Bor Platform) → noted new q ≡ noted old q
NotesBy None old new n c =
    (q : Bor Platform)
    → (condition_key c ≡ condition_key (condition_of q.now) → noted new q ≡ Some n)
    × ((condition_key c ≡ condition_key (condition_of q.now) → ⊥) → noted new q ≡ noted old q)

abbrev pub Notes : Keys → Keys → ℕ → Bor Platform → Type 0
Notes old new n p = NotesBy (noted old p) old new n (condition_of p.now)

-- ---- equivalent conditions

abbrev pub AreEquivalent : FactConstraints → Condition → Condition → Type 0
AreEquivalent k c d = ForEach k (λ name s. IsTrueCondition name s c ↔ IsTrueCondition name s d)

-- a condition that later ones are compared with, of the key at this index, is equivalent
abbrev pub HasEquivalentMember : FactConstraints → Keys → Condition → ℕ → Type 0
HasEquivalentMember k keys c n =
    Any (λ m. (m.0 ≡ n) × AreEquivalent k (condition_of m.1.now) c) keys.members.items

-- the reason why it may not be known whether one of them is: there are too few case splits for one, or too many of them
abbrev pub MayBeUndecided : FactConstraints → Option ℕ → Keys → Condition → Type 0
MayBeUndecided k None keys c = Unit {0}
MayBeUndecided k (Some splits) keys c =
    Any (λ m. NeedsMore k (asked_trees (condition_of m.1.now ∷ c ∷ [])) splits) keys.members.items
    ⊎ (MAX_COMPARED_KEYS < length keys.members.items)

-- the result beside the members: none is the same, one is equivalent, or that is not known
abbrev pub TellsNoSame : Earlier → Type 0
TellsNoSame r = same_place r ≡ None

abbrev pub TellsEquivalent : FactConstraints → Keys → Condition → Earlier → Type 0
TellsEquivalent k keys c r = IfSome (equivalent_place r) (HasEquivalentMember k keys c)

abbrev pub TellsUndecided : FactConstraints → Option ℕ → Keys → Condition → Earlier → Type 0
TellsUndecided k budget keys c r = IsTrue (is_undecided r) → MayBeUndecided k budget keys c

-- ---- the conditions that are compared

abbrev pub Member : Type 0
Member = ℕ × Bor Platform

-- the member has this index among them
abbrev pub IsMemberAt : Keys → Member → ℕ → Type 0
IsMemberAt keys m n = (n < length keys.members.items) × ((other : Member) → get_or keys.members.items n other ≡ m)

-- none of those with these indexes is equivalent
abbrev pub NoneIsEquivalent : FactConstraints → Keys → Condition → List ℕ → Type 0
NoneIsEquivalent k keys c ns =
    All (λ n. (m : Member) → IsMemberAt keys m n → AreEquivalent k (condition_of m.1.now) c → ⊥) ns

abbrev pub places_in : Option (Vec ℕ Global) → List ℕ
places_in None = []
places_in (Some places) = places.items

-- the order of classes, which distinguishes each from the others
abbrev pub class_cmp : Class → Class → Ordering
class_cmp = (class_ord.ghosts).cmp

-- the indexes of the members of a class
abbrev pub places_of : Keys → Class → List ℕ
places_of keys class = places_in (ordered.get class_cmp keys.classes class)

-- the part of a class whose conditions share a number, or have none
abbrev pub part_of : Class → Option ℕ → Class
part_of class (Some number) = record class { part = parts.Numbered number }
part_of class None = record class { part = parts.NotNumbered }

-- if the result says that a key is unlike those of a class, none of them is equivalent
abbrev pub TellsUnlike : FactConstraints → Keys → Condition → Class → Earlier → Type 0
TellsUnlike k keys c class r = IsTrue (is_unlike r) → NoneIsEquivalent k keys c (places_of keys class)

-- none is added to these, or one
abbrev pub AddsMember : Keys → Keys → ℕ → Bor Platform → Type 0
AddsMember old new n p =
    (new.members.items ≡ old.members.items) ⊎ (new.members.items ≡ old.members.items ++ (n, p) ∷ [])

abbrev pub IsExpression : Condition → Type 0
IsExpression c = (e : Tree) × (c ≡ Expression e)

-- later conditions are compared with an expression that is unlike all by the result
abbrev pub PutsUnlike : Keys → Keys → ℕ → Bor Platform → Earlier → Type 0
PutsUnlike old new n p r =
    IsTrue (is_unlike r) → IsExpression (condition_of p.now)
    → new.members.items ≡ old.members.items ++ (n, p) ∷ []
