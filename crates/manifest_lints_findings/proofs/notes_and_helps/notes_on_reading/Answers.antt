use Rattle.std.proofs.Common.{[], ◌∷◌, sym, subst}
use Rattle.std.specs.Prelude.{IfOk}
use Rattle.std.proofs.lemmas.Result.{IfOk-weaker}
use Rattle.manifest_lints_findings.specs.Messages.{said, cargo_noted, cargo_words}
use Rattle.manifest_lints_findings.specs.Texts.{Mentions}
use Rattle.manifest_lints_findings.proofs.Mentions.{one_said}
use Rattle.manifest_lints_findings.proofs.notes_and_helps.notes_on_reading.Goals as goal

pub returns-in_ok-note-in-ByCargo : goal.returns-in_ok-note-in-ByCargo
returns-in_ok-note-in-ByCargo c =
    let ts = cargo_words c.in-ByCargo.marked ∷ [] in
    subst (λ z. IfOk c.only.result (λ notes. Mentions (cargo_noted z) (said notes.items))) (sym c.in-ByCargo.is)
    (IfOk-weaker c.only.result _ (λ notes. Mentions ts (said notes.items))
    (λ notes is. one_said ts notes.items c.in_ok-note-in-ByCargo.note is c.in_ok-note-in-ByCargo.ensures)
    c.only.ensures)
