-- Texts one after the other, each preceded by its length. So each may have any bytes, and they can be told apart.
use Rattle.std.specs.Prelude.{ℕ, List, ◌++◌, length, map, flat_map}
use Rattle.std.specs.Int.{to_le_bytes}
use mir.Syntax.{w64}
use Rattle.cargo_platform.specs.Trees.{CfgValue}
use Rattle.cargo_platform.specs.Print.{print_value}

-- a text preceded by its length in 8 bytes, little-endian
unfoldable pub with_length : List ℕ → List ℕ
with_length text = to_le_bytes w64 (length text) ++ text

abbrev pub with_lengths : List (List ℕ) → List ℕ
with_lengths texts = flat_map with_length texts

-- facts as they are printed
abbrev pub facts_with_lengths : List CfgValue → List ℕ
facts_with_lengths facts = with_lengths (map print_value facts)
