use Rattle.std.proofs.Common.{[], ◌∷◌}
use Rattle.std.specs.Prelude.{codes}
use Rattle.std.proofs.lemmas.Result.{IfOk-weaker}
use Rattle.manifest_lints_findings.specs.Messages.{said}
use Rattle.manifest_lints_findings.specs.Texts.{quoted_text, Mentions}
use Rattle.manifest_lints_findings.proofs.Mentions.{one_said, mentions_last, mentions_is}
use Rattle.manifest_lints_findings.proofs.notes_and_helps.to_write.Goals as goal

pub returns : goal.returns
returns c =
    let t = quoted_text c.args.text.now in
    IfOk-weaker c.only.result _ (λ helps. Mentions (t ∷ []) (said helps.items))
    (λ helps is. one_said (t ∷ []) helps.items c.in_ok-help.help is
    (mentions_last (t ∷ []) _ (codes "write ") _ c.in_ok-help.ensures.ok (mentions_is t _ c.in_ok-text.ensures)))
    c.only.ensures
