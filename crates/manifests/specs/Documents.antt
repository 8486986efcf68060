-- The keys of a manifest, in some order.
use Rattle.std.specs.Prelude.{List, Option, Some, None}
use Rattle.std.specs.List.Sorted.{IsPermutation}
use Rattle.manifests.specs.Entries.{Entry}

abbrev pub AreSome : Option (List Entry) → Option (List Entry) → Type 0
AreSome None None = Unit {0}
AreSome (Some es) (Some fs) = IsPermutation es fs
AreSome _ _ = ⊥

-- `target` is missing in both, or is not a table in both, or is a table with the same entries in both, in some order
abbrev pub AreInSomeOrder : Option (Option (List Entry)) → Option (Option (List Entry)) → Type 0
AreInSomeOrder None None = Unit {0}
AreInSomeOrder (Some t) (Some u) = AreSome t u
AreInSomeOrder _ _ = ⊥
