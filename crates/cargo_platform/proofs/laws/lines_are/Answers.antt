use Rattle.cargo_platform.proofs.TextLines.{lines_are, only_lines}
use Rattle.cargo_platform.proofs.laws.lines_are.Goals as goal

pub returns : goal.returns
returns c = record { are = lines_are; only = only_lines }
