use Rattle.spdx_expressions.proofs.Printing.{print_spells}
use Rattle.spdx_expressions.proofs.laws.print_spells.Goals as goal

pub returns : goal.returns
returns c = print_spells
