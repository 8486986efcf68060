use Rattle.std.proofs.Common.{◌≡◌, List, ◌++◌, IsSome, string_bytes}
use Rattle.std.specs.List.{AllByRecursion}
use Rattle.toml.proofs.Views.{Entry}
use Rattle.lint_fixes.specs.Names.{old_name}
use Rattle.lint_fixes.proofs.sameness.are_named.Given as goal

abbrev pub invariant-loop-name : goal.invariant-loop-name
invariant-loop-name l =
    (done : List Entry) × (l.fixed.entries ≡ done ++ l.name-iterator) × AllByRecursion
    (λ e. IsSome (old_name l.names (string_bytes e.0))) done
