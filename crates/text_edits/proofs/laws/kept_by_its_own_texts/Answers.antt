use Rattle.text_edits.proofs.Editing.{kept}
use Rattle.text_edits.proofs.laws.kept_by_its_own_texts.Goals as goal

pub returns : goal.returns
returns c = kept
