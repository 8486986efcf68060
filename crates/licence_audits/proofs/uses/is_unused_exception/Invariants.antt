use Rattle.std.proofs.Common.{false}
use Rattle.std.specs.List.{AllWithin}
use Rattle.licence_audits.specs.Uses.{NeedsException}
use Rattle.licence_audits.proofs.uses.is_unused_exception.Given as goal

-- no package so far needs it
abbrev pub invariant-subjects : goal.invariant-subjects
invariant-subjects l = AllWithin (λ s. NeedsException l.exception s false) l.subjects 0 l.subject-index
