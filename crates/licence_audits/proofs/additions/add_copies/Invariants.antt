use Rattle.std.proofs.Common.{◌≡◌, map, ◌++◌, drop}
use Rattle.spdx_expressions.specs.Trees.{term_of}
use Rattle.licence_audits.proofs.additions.add_copies.Given as goal

abbrev pub invariant-licences : goal.invariant-licences
invariant-licences l =
    map term_of l.fn.list.items ++ map term_of l.licences
    ≡ map term_of l.list.items ++ map term_of (drop l.licence-index l.licences)
