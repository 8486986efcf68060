-- The dependencies that are followed.
use Rattle.std.specs.Prelude.{Bool, ◌&&◌}
use Rattle.package_graphs.specs.declared.packages.Kind.{Kind}
use Rattle.package_graphs.specs.declared.packages.Kind.TheVariants.{Normal, Build, Dev}
use Rattle.package_graphs.specs.declared.packages.Kinds.{Kinds}

-- a dev-dependency is followed only from a root
abbrev pub is_followed : Kinds → Bool → Kind → Bool
is_followed kinds is_root Normal = kinds.normal
is_followed kinds is_root Build = kinds.build
is_followed kinds is_root Dev = kinds.dev && is_root
