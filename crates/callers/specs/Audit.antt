-- The contents of a map of licences after one was recorded.
use Rattle.std.specs.Prelude.{◌≡◌, Some, String}
use Rattle.std.specs.declared.alloc.Global.{Global}
use Rattle.std.specs.Ordering.{on, eq_by_cmp}
use Rattle.std.specs.BTreeMap as ordered
use Rattle.std.specs.HashMap as hashed
use Rattle.cargo_platform.specs.declared.Platform.{Platform}
use Rattle.cargo_platform.specs.Trees.{condition_of}
use Rattle.cargo_platform.specs.Key.{condition_key, condition_cmp}

-- the two conditions are the same key of a map
abbrev pub IsOneKey : Platform → Platform → Type 0
IsOneKey p q = condition_key (condition_of p) ≡ condition_key (condition_of q)

-- each condition that is the same key as this one has the licence
abbrev pub HasLicenceWhere : Platform → String Global → ordered.BTreeMap Platform (String Global) → Type 0
HasLicenceWhere p licence m =
    (q : Platform) → IsOneKey p q → ordered.get (on condition_of condition_cmp) m q ≡ Some licence

-- each other condition has what it had, a licence or none
abbrev pub KeepsOtherLicences : Platform → ordered.BTreeMap Platform (String Global)
    → ordered.BTreeMap Platform (String Global) → Type 0
KeepsOtherLicences p old new =
    (q : Platform) → (IsOneKey p q → ⊥)
    → ordered.get (on condition_of condition_cmp) new q ≡ ordered.get (on condition_of condition_cmp) old q

-- each condition has what it had
abbrev pub HasAsBefore : ordered.BTreeMap Platform (String Global) → ordered.BTreeMap Platform (String Global) → Type 0
HasAsBefore old new =
    (q : Platform) → ordered.get (on condition_of condition_cmp) new q
    ≡ ordered.get (on condition_of condition_cmp) old q

-- the same for a hash map
abbrev pub HasHashedLicenceWhere : {S : Type 0} → Platform → String Global → hashed.HashMap Platform (String Global) S
    → Type 0
HasHashedLicenceWhere p licence m =
    (q : Platform) → IsOneKey p q → hashed.get (on condition_of (eq_by_cmp condition_cmp)) m q ≡ Some licence

abbrev pub KeepsOtherHashedLicences : {S : Type 0} → Platform → hashed.HashMap Platform (String Global) S
    → hashed.HashMap Platform (String Global) S → Type 0
KeepsOtherHashedLicences p old new =
    (q : Platform) → (IsOneKey p q → ⊥) → hashed.get (on condition_of (eq_by_cmp condition_cmp)) new q
    ≡ hashed.get (on condition_of (eq_by_cmp condition_cmp)) old q

abbrev pub HasHashedAsBefore : {S : Type 0} → hashed.HashMap Platform (String Global) S
    → hashed.HashMap Platform (String Global) S → Type 0
HasHashedAsBefore old new =
    (q : Platform) → hashed.get (on condition_of (eq_by_cmp condition_cmp)) new q
    ≡ hashed.get (on condition_of (eq_by_cmp condition_cmp)) old q
