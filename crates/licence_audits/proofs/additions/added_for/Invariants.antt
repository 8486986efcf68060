use Rattle.std.proofs.Common.{◌≡◌, map, ◌++◌, drop}
use Rattle.spdx_expressions.specs.Trees.{term_of}
use Rattle.licence_audits.specs.Exceptions.{added}
use Rattle.licence_audits.proofs.additions.added_for.Given as goal

abbrev pub invariant-exceptions : goal.invariant-exceptions
invariant-exceptions l =
    added l.exceptions l.subject ≡ map term_of l.list.items ++ added (drop l.exception-index l.exceptions) l.subject
