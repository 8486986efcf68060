use Rattle.cargo_platform.proofs.ToToday.{spelled_text, text_refused, keeps_fault, comes_no_later}
use Rattle.cargo_platform.proofs.AfterLiterals.{there_or_key, later_at_key, read_at_key}
use Rattle.cargo_platform.proofs.laws.texts_as_released.Goals as goal

pub returns-clause-spelled : goal.returns-clause-spelled
returns-clause-spelled c = λ text. spelled_text text

pub returns-clause-refused : goal.returns-clause-refused
returns-clause-refused c = λ text. text_refused text

pub returns-clause-fault : goal.returns-clause-fault
returns-clause-fault c = λ text fault. keeps_fault text fault

pub returns-clause-no_later : goal.returns-clause-no_later
returns-clause-no_later c = λ text before now. comes_no_later text before now

pub returns-clause-there_or_key : goal.returns-clause-there_or_key
returns-clause-there_or_key c = λ text fault. there_or_key text fault

pub returns-clause-later_at_key : goal.returns-clause-later_at_key
returns-clause-later_at_key c = λ text before now. later_at_key text before now

pub returns-clause-read_at_key : goal.returns-clause-read_at_key
returns-clause-read_at_key c = λ text now. read_at_key text now
