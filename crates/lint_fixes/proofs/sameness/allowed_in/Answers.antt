use Rattle.std.proofs.Common.{◌≡◌, Some, option_map, codes, sym, ap, ◌∙◌}
use Rattle.toml.specs.Data.{get_member}
use Rattle.toml.specs.View.{view, table_view}
use Rattle.lint_fixes.specs.Sameness.{table_at}
use Rattle.lint_fixes.proofs.sameness.allowed_in.Goals as goal

pub returns-in-Some-member_in : goal.returns-in-Some-member_in
returns-in-Some-member_in c =
    let part : table_at c.args.part.now (table_view c.args.manifest.now)
    ≡ Some (table_view c.in-Some.part.now) = sym c.table_at.ensures
    ∙ ap (option_map (λ it. table_view it.now)) c.in-Some.is in
    let metadata : table_at (codes "metadata") (table_view c.in-Some.part.now)
    ≡ Some (table_view c.in-Some-table_at.metadata.now) = sym c.table_at-2.ensures
    ∙ ap (option_map (λ it. table_view it.now)) c.in-Some-table_at.is in
    let rules : table_at (codes "manifest-check") (table_view c.in-Some-table_at.metadata.now)
    ≡ Some (table_view c.in-Some-table_at-2.rules.now) = sym c.table_at-3.ensures
    ∙ ap (option_map (λ it. table_view it.now)) c.in-Some-table_at-2.is in
    let allow : get_member (codes "allow") (table_view c.in-Some-table_at-2.rules.now)
    ≡ Some (view c.in-Some-member_in.allowed.now) = sym c.member_in.ensures
    ∙ ap (option_map (λ it. view it.now)) c.in-Some-member_in.is in
    rw (part, metadata, rules, allow) c.items_in.ensures
