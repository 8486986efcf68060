-- Classes of conditions. Equivalent conditions share a class, and are compared.
use Rattle.std.specs.Prelude.{◌≡◌, ◌<◌, ◌≤◌, ◌^◌, ℕ, false, IsTrue, [], ◌∷◌, ◌++◌, length, get_or}
use Rattle.std.specs.Prelude.{Option, Some, None, Vec, Contains, cond}
use Rattle.std.specs.declared.alloc.Global.{Global}
use Rattle.std.specs.Ordering.{is_eq}
use Rattle.std.specs.BTreeMap as ordered
use Rattle.std.specs.BTreeMap.{BTreeMap}
use Rattle.cargo_platform.specs.Trees.{Tree, Condition, Expression, condition_of}
use Rattle.cargo_platform.specs.Facts.{truth}
use Rattle.known_targets.specs.Bits.{has}
use Rattle.known_targets.specs.Table.{target_facts}
use Rattle.known_targets.specs.declared.table.TheConstants.{COUNT, SET_WORDS}
use Rattle.exact_answers.specs.declared.fact_constraints.FactConstraints.{FactConstraints}
use Rattle.manifest_lints.specs.Samples.{AreTruths, holds_beside}
use Rattle.manifest_lints.specs.Numbers.{IsNumberOf}
use Rattle.manifest_lints.specs.Earlier.{Member, IsMemberAt, AreEquivalent, NoneIsEquivalent, is_unlike}
use Rattle.manifest_lints.specs.Earlier.{class_cmp, places_in, places_of, part_of}
use Rattle.manifest_lints.specs.declared.earlier.Class.{Class}
use Rattle.manifest_lints.specs.declared.earlier.Part.TheVariants as parts
use Rattle.manifest_lints.specs.declared.earlier.Earlier.{Earlier}
use Rattle.manifest_lints.specs.declared.earlier.Keys.{Keys}

-- the contents of the class of an expression: the known targets on which it is true, and its truth values over the
-- sampled sets
pub record IsClassOf (e : Tree) (class : Class) : Type 0 where
  pub long : length class.targets ≡ SET_WORDS
  pub small : (i : ℕ) → get_or class.targets i 0 < 2 ^ 64
  pub at_targets : (k : ℕ) → k < COUNT → has class.targets k ≡ truth (target_facts k) e
  pub behind : (k : ℕ) → COUNT ≤ k → has class.targets k ≡ false
  pub small_truths : class.truths < 2 ^ 64
  pub over_samples : AreTruths (holds_beside None) e class.truths
  pub whole : class.part ≡ parts.All

-- ---- the positions of members

abbrev pub ClassMap : Type 0
ClassMap = BTreeMap Class (Vec ℕ Global)

-- the index is added at the end of those of the class, and nowhere else
abbrev pub PutsIn : ClassMap → ClassMap → Class → ℕ → Type 0
PutsIn old new class n =
    (q : Class) → places_in (ordered.get class_cmp new q)
    ≡ places_in (ordered.get class_cmp old q) ++ cond (is_eq (class_cmp class q)) (n ∷ []) []

-- one more member is in its class, and in its part of the class
pub record PutsMember (old new : Keys) (m : Member) (class : Class) (number : Option ℕ) : Type 0 where
  pub pushed : new.members.items ≡ old.members.items ++ m ∷ []
  pub kept : (q : Class) (n : ℕ) → Contains (places_of old q) n → Contains (places_of new q) n
  pub in_class : Contains (places_of new class) (length old.members.items)
  pub in_part : Contains (places_of new (part_of class number)) (length old.members.items)

-- the member at an index is an expression in its class
pub record IsClassed (keys : Keys) (m : Member) (n : ℕ) : Type 0 where
  pub tree : Tree
  pub is_tree : condition_of m.1.now ≡ Expression tree
  pub class : Class
  pub number : Option ℕ
  pub is_class : IsClassOf tree class
  pub is_number : IsNumberOf tree number
  pub in_class : Contains (places_of keys class) n
  pub in_part : Contains (places_of keys (part_of class number)) n

abbrev pub AreClassed : Keys → Type 0
AreClassed keys = (m : Member) (n : ℕ) → IsMemberAt keys m n → IsClassed keys m n

-- ---- the relation to members

-- none of those that share the class and the number is equivalent
abbrev pub AreUnlike : FactConstraints → Keys → Condition → Class → Option ℕ → Type 0
AreUnlike k keys c class None = NoneIsEquivalent k keys c (places_of keys class)
AreUnlike k keys c class (Some number) =
    NoneIsEquivalent k keys c (places_of keys (part_of class (Some number)))
    × NoneIsEquivalent k keys c (places_of keys (part_of class None))

-- if the result says that an expression is unlike earlier ones, no member is equivalent
abbrev pub TellsNoneEquivalent : FactConstraints → Keys → Condition → Earlier → Type 0
TellsNoneEquivalent k keys c r =
    IsTrue (is_unlike r) → (e : Tree) → c ≡ Expression e → (m : Member) (n : ℕ) → IsMemberAt keys m n
    → AreEquivalent k (condition_of m.1.now) c → ⊥
