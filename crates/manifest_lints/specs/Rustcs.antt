-- The sets of facts that rustc may set.
use Rattle.std.specs.Prelude.{◌↔◌, [], map}
use Rattle.cargo_platform.specs.Facts.{FactSet, fact_set}
use Rattle.partial_facts.specs.declared.one_valued.TheConstants.{ONE_VALUED}
use Rattle.exact_answers.specs.declared.fact_constraints.FactConstraints.{FactConstraints}
use Rattle.exact_answers.specs.Possible.{HasOneValue, IsAllowed}
use Rattle.exact_answers.specs.Families.{KeepsFamilyRule}

-- a set of facts that rustc may set: a key with one value has at most one, and names of families are consistent with
-- the pairs of `target_family`
abbrev pub IsRustcs : FactSet → Type 0
IsRustcs s = HasOneValue (fact_set []) (map (λ t. t.now) ONE_VALUED.now) s × KeepsFamilyRule s

-- these sets are possible, and no others
abbrev pub AllowsRustcs : FactConstraints → Type 0
AllowsRustcs k = (s : FactSet) → IsAllowed k s ↔ IsRustcs s
