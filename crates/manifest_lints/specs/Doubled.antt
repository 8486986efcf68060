-- Facts that are two values of one key.
use Rattle.std.specs.Prelude.{ℕ, Bool, false, not, ◌&&◌, List, map, Option, Some, None, bytes_eq}
use Rattle.std.specs.List.{list_any}
use Rattle.cargo_platform.specs.declared.cfg.Cfg.{Cfg}
use Rattle.cargo_platform.specs.Trees.{value_of}
use Rattle.cargo_platform.specs.Facts.{Pair, pair_of}
use Rattle.exact_answers.specs.Possible.{is_single}

abbrev pub are_two_values : Option (List ℕ) → Option (List ℕ) → Bool
are_two_values (Some v) (Some w) = not (bytes_eq v w)
are_two_values (Some v) None = false
are_two_values None w = false

abbrev pub are_two : Pair → Pair → Bool
are_two p q = bytes_eq p.name q.name && are_two_values p.value q.value

-- one of the keys has two values among the pairs
abbrev pub is_doubled_in : List (List ℕ) → List Pair → Pair → Bool
is_doubled_in single ps p = is_single single p && list_any (are_two p) ps

abbrev pub has_doubled : List (List ℕ) → List Pair → Bool
has_doubled single ps = list_any (is_doubled_in single ps) ps

abbrev pub pairs_at : List Cfg → List Pair
pairs_at cs = map pair_of (map value_of cs)
