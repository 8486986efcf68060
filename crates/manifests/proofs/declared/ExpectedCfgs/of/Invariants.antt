use Rattle.std.proofs.Common.{map, take}
use Rattle.toml.specs.View.{items_view}
use Rattle.manifests.specs.Declarations.{DeclareEach, strings, entry_in}
use Rattle.manifests.proofs.declared.ExpectedCfgs.of.Given as goal

-- what the values so far declare
abbrev pub invariant-values : goal.invariant-values
invariant-values l =
    DeclareEach (strings (items_view (take l.value-index l.value-items))) (map entry_in l.entries.items)
