use Rattle.html_pages.proofs.Meaning.{no_mark}
use Rattle.html_pages.proofs.laws.no_marks.Goals as goal

pub returns : goal.returns
returns c = no_mark
