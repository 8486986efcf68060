use Rattle.key_answers.proofs.JsonLines.{appends_shown}
use Rattle.key_answers.proofs.json_lines.push_shown_text.Goals as goal

pub returns : goal.returns
returns c = appends_shown _ _ c.args.shown.now _ _ c.requires c.push_str.ensures.bytes
