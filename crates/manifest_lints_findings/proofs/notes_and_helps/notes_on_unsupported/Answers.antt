use Rattle.std.proofs.Common.{[], ◌∷◌}
use Rattle.std.proofs.lemmas.Result.{IfOk-weaker}
use Rattle.predicate_classes.specs.declared.classes.Category.TheVariants as category
use Rattle.manifest_lints_findings.specs.Chosen.{chosen}
use Rattle.manifest_lints_findings.specs.Messages.{said, unsupported_in}
use Rattle.manifest_lints_findings.specs.Texts.{Mentions}
use Rattle.manifest_lints_findings.specs.declared.chosen.Choice.TheVariants as choice
use Rattle.manifest_lints_findings.proofs.Mentions.{one_said}
use Rattle.manifest_lints_findings.proofs.notes_and_helps.notes_on_unsupported.Goals as goal

pub returns : goal.returns
returns c =
    let ts = unsupported_in (chosen (choice.OfCategory category.Unsupported) c.args.key.now.predicates.items) ∷ [] in
    IfOk-weaker c.only.result _ (λ notes. Mentions ts (said notes.items))
    (λ notes is. one_said ts notes.items c.in_ok-note.note is c.in_ok-note.ensures) c.only.ensures
