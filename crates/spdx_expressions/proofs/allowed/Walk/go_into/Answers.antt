use Rattle.std.proofs.Common.{◌∙◌, ap}
use Rattle.spdx_expressions.specs.Trees.{Term, term_of}
use Rattle.spdx_expressions.specs.Allowed.{allows}
use Rattle.spdx_expressions.specs.Inside.Walking.{live}
use Rattle.spdx_expressions.proofs.Allowing.{any_map}
use Rattle.spdx_expressions.proofs.allowed.Walk.go_into.Goals as goal

pub returns-in-Licence-clause-step : goal.returns-in-Licence-clause-step
returns-in-Licence-clause-step c =
    rw (c.requires, c.in-Licence.is)
    (ap live (c.is_allowed.ensures
    ∙ any_map (λ (entry : Term). allows entry (term_of c.in-Licence.licence)) term_of c.args.allowed.now))
