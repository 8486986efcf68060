-- Names and an expression that the worked rows speak of.
use Rattle.std.proofs.Common.{ℕ, true, false, List, codes}
use Rattle.cargo_platform.specs.Trees.{Name, Alone, Tree, Value}

abbrev pub name : List ℕ → Name
name s = record { raw = false; name = s }

abbrev pub marked : List ℕ → Name
marked s = record { raw = true; name = s }

abbrev pub a : Tree
a = Value (Alone (name (codes "a")))
