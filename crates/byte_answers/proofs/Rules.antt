-- What is known where only rustc's rules are.
use Rattle.std.proofs.Common.{◌≡◌, ◌↔◌, true, [], map}
use Rattle.cargo_platform.specs.declared.cfg.CfgExpr.{CfgExpr}
use Rattle.cargo_platform.specs.Trees.{tree_of}
use Rattle.cargo_platform.specs.Facts.{FactSet, truth}
use Rattle.partial_facts.specs.declared.one_valued.TheConstants.{ONE_VALUED}
use Rattle.exact_answers.specs.declared.fact_constraints.FactConstraints.{FactConstraints}
use Rattle.exact_answers.specs.Families.{KeepsFamilyRule}
use Rattle.byte_answers.specs.Comparisons.{KnowsOnlyRules}

pub only_rules : (k : FactConstraints) (rule : CfgExpr) → k.facts.now ≡ [] → k.complete.now ≡ []
    → map (λ t. t.now) k.single.now ≡ map (λ t. t.now) ONE_VALUED.now → k.assumed.now ≡ rule
    → ((s : FactSet) → (truth s (tree_of rule) ≡ true) ↔ KeepsFamilyRule s) → KnowsOnlyRules k
only_rules k rule facts complete single assumed sets =
    record {
      facts = facts;
      complete = complete;
      single = single;
      families = λ s. rw assumed (sets s);
    }
