-- The facts that an index keeps.
use Rattle.std.specs.Prelude.{List, map, ◌++◌, string_bytes}
use Rattle.cargo_platform.specs.declared.facts.FactIndex.{FactIndex}
use Rattle.cargo_platform.specs.Trees.{CfgValue}
use Rattle.cargo_platform.specs.Places.{name_at, pair_at}

-- the facts of an index: the names, and then the pairs
abbrev pub indexed : FactIndex → List CfgValue
indexed index =
    map (name_at (string_bytes index.texts)) index.names.members.items
    ++ map (pair_at (string_bytes index.texts)) index.pairs.members.items
