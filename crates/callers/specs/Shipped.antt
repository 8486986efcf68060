-- The dependency kinds that a build needs.
use Rattle.std.specs.Prelude.{true, false}
use Rattle.package_graphs.specs.Packages.{KindSet}

abbrev pub built : KindSet
built = record { normal = true; build = true; dev = false }
