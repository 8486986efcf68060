use Rattle.std.proofs.Common.{◌∙◌, ap, Some, ◌∷◌, [], map, option_map, subst, Option}
use Rattle.std.proofs.lemmas.List.{map-append}
use Rattle.manifests.specs.Declarations.{entry_in, Declares}
use Rattle.manifests.specs.declared.declared.Entry.{Entry}
use Rattle.manifests.proofs.declared.add_text.Goals as goal

pub returns-in_ok-push : goal.returns-in_ok-push
returns-in_ok-push c = (
  Some (entry_in c.in-Some.entry),
  subst (λ (o : Option Entry). Declares c.args.text.now (option_map entry_in o)) c.in-Some.is c.in_ok-entry.ensures,
  ap (map entry_in) c.in_ok-push.ensures.items ∙ map-append entry_in c.args.entries.now.items (c.in-Some.entry ∷ []),
)
