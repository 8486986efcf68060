use Rattle.key_answers.proofs.JsonLines.{appends_printable}
use Rattle.key_answers.proofs.json_lines.push_printable.Goals as goal

pub returns : goal.returns
returns c = appends_printable _ _ c.args.json.now _ _ c.requires c.push_str.ensures.bytes
