-- What is known of each target allows the sets of facts that rustc may set, and no others.
use Rattle.std.proofs.Common.{◌≡◌, ◌↔◌, true, refl, sym, ap, subst, ℕ, List, [], map}
use Rattle.std.specs.List.{All}
use Rattle.cargo_platform.specs.Facts.{FactSet, truth}
use Rattle.cargo_platform.specs.Trees.{tree_of}
use Rattle.exact_answers.specs.declared.fact_constraints.FactConstraints.{FactConstraints}
use Rattle.exact_answers.specs.Families.{KeepsFamilyRule}
use Rattle.partial_facts.specs.declared.one_valued.TheConstants.{ONE_VALUED}
use Rattle.toml.specs.Data.{Members}
use Rattle.toml.specs.View.{table_view}
use Rattle.manifests.specs.Declarations.{DeclaredEntry, IsDeclaredBy}
use Rattle.manifest_lints_findings.specs.declared.findings.Finding.{Finding}
use Rattle.manifest_lints_findings.specs.Spells.{IsRead, entry_read}
use Rattle.manifest_lints.specs.Reports.{Entry, AreFindings, AreFindingsOn}
use Rattle.manifest_lints.proofs.Rustcs.{allows_rustcs}
use Rattle.manifest_lints.proofs.linting.report_on.Goals as goal

of_keys : (k : FactConstraints) (ms : Members) (ds : List DeclaredEntry) (es fs : List Entry) (found : List Finding)
    (ns : List ℕ)
    → AreFindingsOn k ds es found ns → IsDeclaredBy ms ds → es ≡ fs → k.facts.now ≡ [] → k.complete.now ≡ []
    → map (λ t. t.now) k.single.now ≡ map (λ t. t.now) ONE_VALUED.now
    → ((s : FactSet) → (truth s (tree_of k.assumed.now) ≡ true) ↔ KeepsFamilyRule s)
    → (ds : List DeclaredEntry) × IsDeclaredBy ms ds × AreFindings ds fs found ns
of_keys k ms ds es fs found ns on declared same facts complete single rule =
    let allows = allows_rustcs k facts complete single rule in
    (ds, declared, (k, (allows, subst (λ xs. AreFindingsOn k ds xs found ns) same on)))

pub returns-clause-findings : goal.returns-clause-findings
returns-clause-findings c =
    let read = c.deref.ensures.value in
    of_keys _ (table_view c.args.manifest.now) _ _ _ _ _
    (c.in_ok-findings.ensures (subst (All IsRead) (sym read) c.in_ok-read.ensures.read)) c.in_ok-declared.ensures
    (ap (map entry_read) read) refl refl refl
    c.in_ok-rule.ensures.sets
