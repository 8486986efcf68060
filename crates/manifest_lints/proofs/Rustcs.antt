-- What is known of each target allows the sets of facts that rustc may set, and no others.
use Rattle.std.proofs.Common.{◌≡◌, ◌∙◌, ◌↔◌, sym, subst, true, true≢false, ℕ, List, [], map}
use Rattle.cargo_platform.specs.Trees.{tree_of, value_of}
use Rattle.cargo_platform.specs.Facts.{FactSet, fact_set, truth}
use Rattle.cargo_platform.specs.declared.cfg.Cfg.{Cfg}
use Rattle.partial_facts.specs.declared.one_valued.TheConstants.{ONE_VALUED}
use Rattle.exact_answers.specs.declared.fact_constraints.FactConstraints.{FactConstraints}
use Rattle.exact_answers.specs.Possible.{HasOneValue}
use Rattle.exact_answers.specs.Families.{KeepsFamilyRule}
use Rattle.manifest_lints.proofs.Tried.{none_listed, none_named}
use Rattle.manifest_lints.specs.Reports.{AllowsRustcs}

pub allows_rustcs : (k : FactConstraints) → k.facts.now ≡ [] → k.complete.now ≡ []
    → map (λ t. t.now) k.single.now ≡ map (λ t. t.now) ONE_VALUED.now
    → ((s : FactSet) → (truth s (tree_of k.assumed.now) ≡ true) ↔ KeepsFamilyRule s) → AllowsRustcs k
allows_rustcs k facts complete single rule s =
    let values = λ (cs : List Cfg) (ns : List (List ℕ)). HasOneValue (fact_set (map value_of cs)) ns s in (
      λ is. (
        subst (λ cs. values cs (map (λ t. t.now) ONE_VALUED.now)) facts
            (subst (λ ns. values k.facts.now ns) single is.one_value),
        (rule s).0 is.assumed_true,
      ),
      λ may. record {
        partly_known = record {
          has = λ p h. absurd (true≢false (sym h ∙ none_listed k.facts.now p facts));
          no_other = λ p n h. absurd (true≢false (sym n ∙ none_named p.name k.complete.now complete));
        };
        one_value =
            subst (λ ns. values k.facts.now ns) (sym single)
            (subst (λ cs. values cs (map (λ t. t.now) ONE_VALUED.now)) (sym facts) may.0);
        assumed_true = (rule s).1 may.1;
      },
    )
