use Rattle.std.proofs.Common.{rules, ◌≡◌, ◌∙◌, ap, [], ◌∷◌, ◌++◌, false, length, take, string_bytes}
use Rattle.std.specs.Prelude.{codes}
use Rattle.std.specs.List.{join_by}
use Rattle.std.proofs.lemmas.Result.{IfOk-weaker}
use Rattle.predicate_classes.specs.declared.classes.Category.TheVariants as category
use Rattle.manifest_lints_findings.specs.Chosen.{chosen, warnings_on}
use Rattle.manifest_lints_findings.specs.Messages.{unsupported_in}
use Rattle.manifest_lints_findings.specs.Texts.{shown_whole, Mentions, and_more, joined_first}
use Rattle.manifest_lints_findings.specs.declared.chosen.Choice.TheVariants as choice
use Rattle.manifest_lints_findings.specs.declared.wording.TheConstants.{MAX_SHOWN}
use Rattle.manifest_lints_findings.proofs.Mentions.{mentions_is, mentions_last, joined_texts}
use Rattle.manifest_lints_findings.proofs.notes_and_helps.unsupported_note.Goals as goal

pub returns : goal.returns
returns c =
    let those = choice.OfCategory category.Unsupported in
    let fs = chosen those c.args.key.now.predicates.items in
    let facts_are = c.deref-2.ensures.value ∙ c.in_ok-facts.ensures ∙ ap (chosen those) c.deref.ensures.value in
    let warnings_are = c.in_ok-warnings.ensures ∙ ap (warnings_on false) facts_are in
    let warnings = c.in_ok-warnings.warnings.items in
    let counted : c.len.result ≡ length warnings = search rules in
    let joined = c.in_ok-words.ensures
    ∙ (λ i. join_by (λ s. string_bytes s) (codes " ") (take MAX_SHOWN (c.deref-3.ensures.value i)) ++ and_more
    (counted i))
    ∙ joined_texts (λ s. string_bytes s) (codes " ") warnings
    ∙ ap (joined_first (λ t. t) (codes " ")) warnings_are in
    let shown = c.in_ok-text.ensures ∙ ap shown_whole (c.as_str.ensures.value ∙ joined) in
    IfOk-weaker c.format.result _ (λ s. Mentions (unsupported_in fs ∷ []) (string_bytes s))
    (λ s is. mentions_last (unsupported_in fs ∷ []) (string_bytes s) (codes "Cargo warns: ") _ is
    (mentions_is (unsupported_in fs) _ shown)) c.format.ensures.ok
