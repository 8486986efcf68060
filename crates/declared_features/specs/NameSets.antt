-- Sets of names, by what they contain.
use Rattle.std.specs.Prelude.{◌↔◌, ◌⊎◌, ℕ, List, IsTrue}
use Rattle.std.specs.BTreeSet.{BTreeSet, contains_by}
use Rattle.std.specs.Borrow.{Bor}
use Rattle.std.specs.Cmp.Lexicographic.{slice_cmp}
use Rattle.std.specs.Ordering.{nat_cmp}

abbrev pub NameSet : Type 0
NameSet = BTreeSet (Bor (List ℕ))

abbrev pub HasName : NameSet → List ℕ → Type 0
HasName names name = IsTrue (contains_by (λ n. slice_cmp nat_cmp name n.now) names)

-- the set has just the names for which this holds
abbrev pub HasJustNames : NameSet → (List ℕ → Type 0) → Type 0
HasJustNames names P = (name : List ℕ) → HasName names name ↔ P name

-- the second set has the names of the first, and besides just those for which this holds
abbrev pub AddsNames : NameSet → NameSet → (List ℕ → Type 0) → Type 0
AddsNames old new P = HasJustNames new (λ name. HasName old name ⊎ P name)
