use Rattle.spdx_expressions.proofs.Viable.{one_text_tree}
use Rattle.spdx_expressions.proofs.OneTree.{one_tree}
use Rattle.spdx_expressions.proofs.laws.one_tree.Goals as goal

pub returns-clause-text : goal.returns-clause-text
returns-clause-text c = one_text_tree

pub returns-clause-parts : goal.returns-clause-parts
returns-clause-parts c = one_tree
