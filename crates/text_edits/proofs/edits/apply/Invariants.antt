use Rattle.std.proofs.Common.{drop, string_bytes}
use Rattle.text_edits.proofs.Editing.{IsSoFar}
use Rattle.text_edits.proofs.edits.apply.Given as goal

-- what is edited so far, with the text and the edits that are left
abbrev pub invariant-loop-edit : goal.invariant-loop-edit
invariant-loop-edit l =
    IsSoFar l.text l.at (drop l.edit-index l.edits) l.edits (string_bytes l.edited) l.left l.edit-index
