use Rattle.std.proofs.Common.{◌∙◌, ap, [], ◌∷◌, ◌++◌, take, string_bytes}
use Rattle.std.specs.Prelude.{codes, List, String}
use Rattle.std.specs.declared.alloc.Global.{Global}
use Rattle.std.specs.List.{join_by}
use Rattle.std.proofs.lemmas.Result.{IfOk-weaker}
use Rattle.manifest_lints_findings.specs.Messages.{cargo_words}
use Rattle.manifest_lints_findings.specs.Texts.{shown_whole, Mentions, and_more}
use Rattle.manifest_lints_findings.specs.declared.wording.TheConstants.{MAX_SHOWN}
use Rattle.manifest_lints_findings.proofs.Mentions.{mentions_last, mentions_is}
use Rattle.manifest_lints_findings.proofs.notes_and_helps.by_cargo_note.Goals as goal

pub returns : goal.returns
returns c =
    let words = cargo_words c.args.marked.now in
    let joined = λ (ts : List (String Global)).
    join_by (λ s. string_bytes s) (codes " ") (take MAX_SHOWN ts) ++ and_more c.args.marked.now.count in
    let shown = c.in_ok-text.ensures
    ∙ ap shown_whole (c.as_str.ensures.value ∙ c.in_ok-warnings.ensures ∙ ap joined c.deref.ensures.value) in
    IfOk-weaker c.format.result _ (λ s. Mentions (words ∷ []) (string_bytes s))
    (λ s is. mentions_last (words ∷ []) (string_bytes s) (codes "Cargo warns: ") _ is
    (mentions_is words _ shown)) c.format.ensures.ok
