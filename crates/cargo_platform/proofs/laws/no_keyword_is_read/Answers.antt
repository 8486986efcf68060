use Rattle.cargo_platform.proofs.Changes.{gives_no_keyword}
use Rattle.cargo_platform.proofs.laws.no_keyword_is_read.Goals as goal

pub returns : goal.returns
returns c = λ text. gives_no_keyword text
