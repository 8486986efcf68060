use Rattle.std.proofs.Common.{◌≡◌, drop, map}
use Rattle.cargo_platform.specs.Trees.{value_of}
use Rattle.manifests.specs.Declarations.{is_declared, entry_in}
use Rattle.manifests.proofs.declared.ExpectedCfgs.declares.Given as goal

-- the answer depends on the entries that are left
abbrev pub invariant-entries : goal.invariant-entries
invariant-entries l =
    is_declared (map entry_in (drop l.entry-index l.entry-items)) (value_of l.c)
    ≡ is_declared (map entry_in l.self.entries.items) (value_of l.c)
