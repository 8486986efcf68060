use Rattle.std.proofs.Common.{map, take}
use Rattle.spdx_expressions.specs.Trees.{term_of}
use Rattle.licence_audits.specs.Audits.{AreFindings}
use Rattle.licence_audits.proofs.audits.audit.Given as goal

abbrev pub invariant-subjects : goal.invariant-subjects
invariant-subjects l = AreFindings (map term_of l.allowed) l.exceptions (take l.i l.subjects) l.findings.items
