use Rattle.std.proofs.Common.{◌≡◌, Some, true, option_map, string_bytes, sym, ◌∙◌, subst}
use Rattle.std.specs.List.{list_all}
use Rattle.toml.specs.View.{table_view}
use Rattle.workspaces.specs.Documents.{SpellsTable}
use Rattle.lint_fixes.specs.Fixing.{IsFixOf, is_replaced}
use Rattle.lint_fixes.proofs.Replaced.{filled, none_finds, nothing_chosen}
use Rattle.lint_fixes.proofs.fixing.fixed_text.Goals as goal
use Rattle.lint_fixes.proofs.fixing.fixed_text.Goals.{else-is_empty-via-else-is_empty}
use Rattle.lint_fixes.proofs.fixing.fixed_text.Goals.{else-is_empty-via-then-is_empty+else-is_empty-2}

pub returns-clause-same : goal.returns-clause-same
returns-clause-same c =
    let counted = c.in_ok-is_same_manifest.ensures.count c.if-not-branch.false in
    let chosen = c.in_ok-fixes.fixes.items in
    let derefs : c.deref-4.result.now ≡ chosen = c.deref-4.ensures.value in
    record {
      manifest = table_view c.in-Some.manifest;
      spelled = subst (λ found. SpellsTable c.args.text.now (option_map table_view found)) c.in-Some.is
          c.in_ok-manifest.ensures;
      renames = c.in_ok-renames.renames;
      given = λ name new h. subst (λ fixes. IsFixOf fixes name new) derefs (c.in_ok-renames.ensures name new h);
      same = c.in_ok-is_same_manifest.ensures.same c.if-not-branch.false;
      count = cc (counted, c.len-count.ensures);
    }

pub returns-clause-replaced : goal.returns-clause-replaced
returns-clause-replaced c =
    let table = table_view c.in-Some-2.table in
    let text = string_bytes c.in_ok-fixed.field-0.text in
    let spelled : SpellsTable text (Some table) = subst (λ t. SpellsTable t (Some table)) c.as_str.ensures.value (subst
    (λ found. SpellsTable c.as_str.result.now (option_map table_view found)) c.in-Some-2.is c.in_ok-table.ensures)
    in
    let all : list_all (is_replaced table) c.in_ok-fixes.fixes.items ≡ true = subst
    (λ fixes. list_all (is_replaced table) fixes ≡ true) c.deref-5.ensures.value
    (sym c.are_replaced.ensures ∙ c.if-not-are_replaced.false) in
    (table, spelled, none_finds table c.in_ok-fixes.fixes.items all)

pub returns-in_default-2-clause-unchanged : goal.returns-in_default-2-clause-unchanged
returns-in_default-2-clause-unchanged c = λ has gone.
    let manifest = table_view c.in-Some.manifest in
    let spelled : SpellsTable c.args.text.now (Some manifest) = subst
    (λ found. SpellsTable c.args.text.now (option_map table_view found)) c.in-Some.is c.in_ok-manifest.ensures in
    let none = nothing_chosen c.args.text.now manifest c.args.fixes.items c.in_ok-fixes.fixes.items spelled
    c.in_ok-fixes.ensures.among c.in_ok-fixes.ensures.found has in
    elim c.else-is_empty.branch [
      | else-is_empty-via-then-is_empty+else-is_empty-2 w ↦
          absurd (filled c.args.removed _ w.is_empty-then-is_empty.ensures w.if-is_empty-2.false gone)
      | else-is_empty-via-else-is_empty w ↦
          absurd (filled c.in_ok-fixes.fixes _ c.is_empty.ensures w.if-is_empty.false none)
    ]

pub returns-then-not-branch-clause-unchanged : goal.returns-then-not-branch-clause-unchanged
returns-then-not-branch-clause-unchanged c = λ has gone.
    let manifest = table_view c.in-Some.manifest in
    let spelled : SpellsTable c.args.text.now (Some manifest) = subst
    (λ found. SpellsTable c.args.text.now (option_map table_view found)) c.in-Some.is c.in_ok-manifest.ensures in
    let none = nothing_chosen c.args.text.now manifest c.args.fixes.items c.in_ok-fixes.fixes.items spelled
    c.in_ok-fixes.ensures.among c.in_ok-fixes.ensures.found has in
    elim c.else-is_empty.branch [
      | else-is_empty-via-then-is_empty+else-is_empty-2 w ↦
          absurd (filled c.args.removed _ w.is_empty-then-is_empty.ensures w.if-is_empty-2.false gone)
      | else-is_empty-via-else-is_empty w ↦
          absurd (filled c.in_ok-fixes.fixes _ c.is_empty.ensures w.if-is_empty.false none)
    ]

pub returns-then-not-are_replaced-clause-unchanged : goal.returns-then-not-are_replaced-clause-unchanged
returns-then-not-are_replaced-clause-unchanged c = λ has gone.
    let manifest = table_view c.in-Some.manifest in
    let spelled : SpellsTable c.args.text.now (Some manifest) = subst
    (λ found. SpellsTable c.args.text.now (option_map table_view found)) c.in-Some.is c.in_ok-manifest.ensures in
    let none = nothing_chosen c.args.text.now manifest c.args.fixes.items c.in_ok-fixes.fixes.items spelled
    c.in_ok-fixes.ensures.among c.in_ok-fixes.ensures.found has in
    elim c.else-is_empty.branch [
      | else-is_empty-via-then-is_empty+else-is_empty-2 w ↦
          absurd (filled c.args.removed _ w.is_empty-then-is_empty.ensures w.if-is_empty-2.false gone)
      | else-is_empty-via-else-is_empty w ↦
          absurd (filled c.in_ok-fixes.fixes _ c.is_empty.ensures w.if-is_empty.false none)
    ]

pub returns-clause-unchanged : goal.returns-clause-unchanged
returns-clause-unchanged c = λ has gone.
    let manifest = table_view c.in-Some.manifest in
    let spelled : SpellsTable c.args.text.now (Some manifest) = subst
    (λ found. SpellsTable c.args.text.now (option_map table_view found)) c.in-Some.is c.in_ok-manifest.ensures in
    let none = nothing_chosen c.args.text.now manifest c.args.fixes.items c.in_ok-fixes.fixes.items spelled
    c.in_ok-fixes.ensures.among c.in_ok-fixes.ensures.found has in
    elim c.else-is_empty.branch [
      | else-is_empty-via-then-is_empty+else-is_empty-2 w ↦
          absurd (filled c.args.removed _ w.is_empty-then-is_empty.ensures w.if-is_empty-2.false gone)
      | else-is_empty-via-else-is_empty w ↦
          absurd (filled c.in_ok-fixes.fixes _ c.is_empty.ensures w.if-is_empty.false none)
    ]
