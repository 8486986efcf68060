use Rattle.std.proofs.Common.{false}
use Rattle.std.specs.List.{AllWithin}
use Rattle.licence_audits.specs.Uses.{NeedsEntry}
use Rattle.licence_audits.proofs.uses.is_unused_entry.Given as goal

-- no package so far needs it
abbrev pub invariant-subjects : goal.invariant-subjects
invariant-subjects l = AllWithin (λ s. NeedsEntry l.entries s false) l.subjects 0 l.subject-index
