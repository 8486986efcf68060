use Rattle.std.proofs.Common.{◌∙◌, ap, map, List, false}
use Rattle.spdx_expressions.specs.Trees.{Tree, Piece, term_of}
use Rattle.spdx_expressions.specs.Grammar.{Spells}
use Rattle.spdx_expressions.specs.Allowed.{is_allowed}
use Rattle.spdx_expressions.specs.Inside.Walking.{walk, live}
use Rattle.spdx_expressions.proofs.Truth.{walk_truth}
use Rattle.spdx_expressions.proofs.expression.LicenceExpression.is_satisfied.Goals as goal

pub returns : goal.returns
returns c = λ (t : Tree) (s : Spells 0 t c.args.self.now).
    c.walk_over.ensures
    ∙ ap (λ (ps : List Piece). (walk (is_allowed (map term_of c.args.allowed.now))
    (live false) ps).value) c.parts.ensures
    ∙ walk_truth (is_allowed (map term_of c.args.allowed.now)) t c.args.self.now s
