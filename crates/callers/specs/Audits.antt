-- The results of an audit.
use Rattle.std.specs.Prelude.{map}
use Rattle.cargo_platform.specs.Trees.{Trees, value_of}
use Rattle.cargo_platform.specs.Facts.{FactSet}
use Rattle.exact_answers.specs.Answers.{AreExample, OverEach}
use Rattle.exact_answers.specs.declared.fact_constraints.FactConstraints.{FactConstraints}
use Rattle.callers.specs.declared.relations.audit.Cover.{Cover}
use Rattle.callers.specs.declared.relations.audit.Cover.TheVariants as cover

-- for the expressions es: if the result is covered, Q holds over each possible set, and if it is not, P holds over the
-- facts
abbrev pub SaysCover : Cover → FactConstraints → Trees → (FactSet → Type 0) → (FactSet → Type 0) → Type 0
SaysCover cover.Covered k es P Q = OverEach k Q
SaysCover (cover.Missed facts) k es P Q = AreExample k es P (map value_of facts.items)
SaysCover cover.Unclear k es P Q = Unit {0}
