use Rattle.html_pages.proofs.Meaning.{one_meaning}
use Rattle.html_pages.proofs.laws.one_meaning.Goals as goal

pub returns : goal.returns
returns c = one_meaning
