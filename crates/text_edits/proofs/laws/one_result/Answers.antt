use Rattle.text_edits.proofs.Editing.{one_result}
use Rattle.text_edits.proofs.laws.one_result.Goals as goal

pub returns : goal.returns
returns c = one_result
